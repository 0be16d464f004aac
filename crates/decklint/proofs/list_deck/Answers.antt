-- A fill that leaves something to put takes a part of the deck.
use Rattle.std.proofs.Common.{◌≤◌, length, arith}
use Rattle.listing.specs.Filling.{item_space}
use Rattle.listing.proofs.Laws.Printing.{fill_moves}
use Rattle.decklint.proofs.list_deck.Goals as goal

pub loop-filling-smaller : goal.loop-filling-smaller
loop-filling-smaller g c =
    let space : item_space ≤ length c.loop-filling.out = omega (arith, c.loop-filling.invariant, c.requires) in
    omega (arith, fill_moves c.args.deck.now c.loop-filling.progress c.loop-filling.out space c.fill_listing-filling.ensures c.in-Continue.is)

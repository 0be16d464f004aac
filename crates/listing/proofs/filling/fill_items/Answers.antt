-- `listing::filling::fill_items` meets its contract.
use Rattle.std.proofs.Common.{rules, length, ℕ}
use mathlib.Core.Path.{refl, sym, ◌∙◌}
use native.Mathlib.Omega.{arith}
use Rattle.listing.specs.Filling.{portion_of, items_from}
use Rattle.reader.specs.Runs.{blocks}
use Rattle.listing.proofs.Laws.Filling.{left_begun, step_within, step_smaller, step_lists, step_ends, fill_stops, filled_back}
use Rattle.listing.proofs.filling.fill_items.Goals as goal

pub loop-room-init : goal.loop-room-init
loop-room-init c =
    let deck = c.args.deck.now in
    (c.requires.1, refl, left_begun (λ (n : ℕ). portion_of (length c.args.out.now) (length (blocks deck)) n c.args.from (items_from deck c.args.from.position)) _ c.new-text.ensures)

pub returns-then-item_blocks-eq0 : goal.returns-then-item_blocks-eq0
returns-then-item_blocks-eq0 c =
    let turn = c.loop-room in
    let deck = c.args.deck.now in
    filled_back c.last_line.new.text
    (step_ends (length (blocks deck)) deck turn.p turn.room turn.invariant.0 (sym c.has_space.ensures ∙ c.loop-room-test.true) turn.invariant.2
    c.step-item.ensures (sym c.item_blocks.ensures ∙ c.if-item_blocks-eq0.true) c.block_count.ensures
    c.last_line.ensures.total_len_bound c.last_line.ensures.spelled.spelled)
    c.octets.ensures (search rules)

-- the item passes a block, which is within the deck
pub advance-p-requires : goal.advance-p-requires
advance-p-requires c =
    let turn = c.loop-room in
    omega (arith, step_within c.args.deck.now turn.p turn.room c.step-item.ensures c.item_blocks.ensures c.if-item_blocks-eq0.false)

pub loop-room-smaller : goal.loop-room-smaller
loop-room-smaller c =
    let turn = c.loop-room in
    step_smaller c.args.deck.now turn.p turn.room c.step-item.ensures c.item_blocks.ensures c.if-item_blocks-eq0.false c.advance-p.ensures

pub loop-room-preserved : goal.loop-room-preserved
loop-room-preserved c =
    let turn = c.loop-room in
    let deck = c.args.deck.now in (
      c.step-item.auto.room ∙ turn.invariant.0,
      c.item_lines.ensures.same_space ∙ turn.invariant.1,
      step_lists (length (blocks deck)) deck turn.p turn.room turn.invariant.0 (sym c.has_space.ensures ∙ c.loop-room-test.true) turn.invariant.2
          (λ i. (c.type_inv.deck i).fits) c.requires.0 c.step-item.ensures c.item_blocks.ensures c.if-item_blocks-eq0.false
          (λ i. search rules) c.item_lines.ensures.spelled c.advance-p.ensures,
    )

pub returns : goal.returns
returns c =
    let turn = c.loop-room in
    let deck = c.args.deck.now in
    filled_back turn.text
    (fill_stops (length (blocks deck)) turn.p (items_from deck turn.p.position) (sym c.has_space.ensures ∙ c.loop-room-test.false) turn.invariant.2)
    c.octets-2.ensures (search rules)

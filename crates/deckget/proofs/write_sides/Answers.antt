-- A fetch goes forward in the deck and is counted, and there is always room for it.
use Rattle.std.proofs.Common.{rules, arith, length-take}
use Rattle.deckget.proofs.Laws.Counting.{counted_none, counted_next, counted_all, has_room, moved}
use Rattle.deckget.proofs.write_sides.Goals as goal

pub loop-found-init : goal.loop-found-init
loop-found-init g c = (search rules, (omega arith, (omega arith, counted_none _ _ _)))

pub unwrap-fetched-requires : goal.unwrap-fetched-requires
unwrap-fetched-requires g c = has_room _ _ _ _ _ _ _ _ (omega (arith, c.loop-found.invariant.0)) c.fetch.ensures c.in-Some.is

pub slice_bounds-write-end : goal.slice_bounds-write-end
slice_bounds-write-end g c =
    let found = moved _ _ _ _ _ _ _ _ _ c.in-Some.is c.unwrap-fetched.ensures c.fetch.ensures in
    simp length-take (omega (arith, found.1, c.fetch.auto.out))

pub loop-found-smaller : goal.loop-found-smaller
loop-found-smaller g c =
    let found = moved _ _ _ _ _ _ _ _ _ c.in-Some.is c.unwrap-fetched.ensures c.fetch.ensures in
    omega (arith, found.1)

pub loop-found-preserved : goal.loop-found-preserved
loop-found-preserved g c =
    let found = moved _ _ _ _ _ _ _ _ _ c.in-Some.is c.unwrap-fetched.ensures c.fetch.ensures in (
      omega (arith, c.loop-found.invariant.0, c.fetch.auto.out),
      (
        omega (arith, found.1, c.loop-found.invariant.1.0),
        (found.1.1, counted_next _ _ _ _ _ _ _ _ c.fetch.ensures c.loop-found.invariant.1.1.1 _ found.0),
      ),
    )

pub returns : goal.returns
returns g c = counted_all _ _ _ _ _ _ _ _ c.fetch.ensures c.loop-found.invariant.1.1.1 c.in_default.is

-- After a step, what is left of the deck leaves the room as before.
use Rattle.std.proofs.Common.{◌≡◌, ◌∙◌, refl, ap, ap₂, ℕ, ◌+◌, ◌*◌, ◌≤◌, List, length, arith}
use Rattle.reader.specs.declared.stepping.Item.{Item}
use Rattle.reader.specs.Events.{events, events_from}
use Rattle.reader.specs.Stepping.{item_blocks, item_at, room_at}
use Rattle.reader.proofs.Laws.Passing.{item_within}
use Rattle.answers.specs.Rooms.{room_past}
use Rattle.answers.proofs.Laws.Stepping.{goes_on, at_end}
use Rattle.answers.proofs.decks.say_steps.Goals as goal

-- a step from block i, what it gave, how many blocks that takes, and what it left of the room
module _ (deck : List ℕ) (i n : ℕ) (item : Item) (room last : List ℕ) (told : item ≡ item_at deck i room) (passed : n ≡ item_blocks item)
    (bytes : last ≡ room_at deck i room)
  where
    count : n ≡ item_blocks (item_at deck i room)
    count = passed ∙ ap item_blocks told

    within : 512 * i ≤ length deck + 511 → 512 * (i + n) ≤ length deck + 511
    within h = omega (arith, count, item_within deck i room h)

    rest : room_past last (events_from deck (i + n)) ≡ room_past room (events_from deck i)
    rest = ap₂ (λ (r : List ℕ) (m : ℕ). room_past r (events_from deck (i + m))) bytes count ∙ goes_on deck i room

    ended : n ≡ 0 → last ≡ room_past room (events_from deck i)
    ended none =
        let e : item_blocks (item_at deck i room) ≡ 0 = omega (arith, count, none) in
        bytes ∙ at_end deck i room e

pub loop-item-init : goal.loop-item-init
unfolding events
loop-item-init g c = (omega arith, refl)

pub returns-then-passed-eq0 : goal.returns-then-passed-eq0
returns-then-passed-eq0 g c =
    let turn = c.loop-item in
    ended _ turn.position _ _ turn.room _ c.step-item.ensures.told c.item_blocks-passed.ensures c.step-item.ensures.bytes c.if-passed-eq0.true ∙ turn.invariant.1

pub loop-item-smaller : goal.loop-item-smaller
loop-item-smaller g c =
    let turn = c.loop-item in
    omega (arith, c.if-passed-eq0.false, within _ turn.position _ _ turn.room _ c.step-item.ensures.told c.item_blocks-passed.ensures c.step-item.ensures.bytes turn.invariant.0)

pub loop-item-preserved : goal.loop-item-preserved
loop-item-preserved g c =
    let turn = c.loop-item in (
      within _ turn.position _ _ turn.room _ c.step-item.ensures.told c.item_blocks-passed.ensures c.step-item.ensures.bytes turn.invariant.0,
      rest _ turn.position _ _ turn.room _ c.step-item.ensures.told c.item_blocks-passed.ensures c.step-item.ensures.bytes ∙ turn.invariant.1,
    )

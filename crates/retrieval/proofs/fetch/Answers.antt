use mathlib.Core.Path.{◌≡◌, refl, sym, ap, ◌∙◌}
use mathlib.Core.List.{List}
use Prim.Native.Nat.{ℕ, ◌+◌}
use native.Mathlib.Omega.{arith}
use lib.ListN.{length}
use Rattle.retrieval.specs.Fetching.{numbered}
use Rattle.reader.specs.Events.{events_from}
use Rattle.reader.specs.Finding.{found_at}
use Rattle.reader.specs.declared.finding.Found.{Found}
use Rattle.reader.proofs.Laws.Found.{start_of}
use Rattle.retrieval.proofs.Laws.Fetching.{past_record, lost_inside, past_lost, search_found, search_ended}
use Rattle.retrieval.proofs.fetch.Goals as goal

pub loop-other-init : goal.loop-other-init
loop-other-init c = (refl, refl)

pub fetch_at-requires : goal.fetch_at-requires
fetch_at-requires c =
    let deck : List ℕ = c.args.deck.now in
    let at : ℕ = c.loop-other.at in
    let stands : (found : Found) → c.find-found.result ≡ found → found_at deck at ≡ found = λ found e. sym c.find-found.ensures ∙ e in
    stands _ c.in-Record.is

pub shape_of-out-then-other-number : goal.shape_of-out-then-other-number
shape_of-out-then-other-number c = c.fetch_at.auto.out ∙ ap length c.loop-other.invariant.0

pub returns-then-other-number : goal.returns-then-other-number
returns-then-other-number c =
    let deck : List ℕ = c.args.deck.now in
    let at : ℕ = c.loop-other.at in
    let stands : (found : Found) → c.find-found.result ≡ found → found_at deck at ≡ found = λ found e. sym c.find-found.ensures ∙ e in
    let turn = c.loop-other in
    search_found deck at _ _ turn.invariant.1 _ _ _ turn.invariant.0 _ _ (stands _ c.in-Record.is) c.if-other-number.true _ _
    c.fetch_at.ensures

pub overflow_add-at : goal.overflow_add-at
overflow_add-at c =
    let deck : List ℕ = c.args.deck.now in
    let at : ℕ = c.loop-other.at in
    let stands : (found : Found) → c.find-found.result ≡ found → found_at deck at ≡ found = λ found e. sym c.find-found.ensures ∙ e in
    omega (arith, c.parts_of-at.ensures, (start_of deck at _ _ (stands _ c.in-Record.is)).whole)

pub loop-other-smaller-in-Record : goal.loop-other-smaller-in-Record
loop-other-smaller-in-Record c =
    let deck : List ℕ = c.args.deck.now in
    let at : ℕ = c.loop-other.at in
    let stands : (found : Found) → c.find-found.result ≡ found → found_at deck at ≡ found = λ found e. sym c.find-found.ensures ∙ e in
    let start = start_of deck at _ _ (stands _ c.in-Record.is) in
    omega (arith, c.parts_of-at.ensures, start.whole, start.least)

pub loop-other-preserved-in-Record : goal.loop-other-preserved-in-Record
loop-other-preserved-in-Record c =
    let deck : List ℕ = c.args.deck.now in
    let at : ℕ = c.loop-other.at in
    let stands : (found : Found) → c.find-found.result ≡ found → found_at deck at ≡ found = λ found e. sym c.find-found.ensures ∙ e in
    let number = c.args.number in (
      c.loop-other.invariant.0,
      ap (λ (m : ℕ). numbered number (events_from deck (at + m))) c.parts_of-at.ensures
          ∙ sym (past_record deck at number _ _ c.if-other-number.false (stands _ c.in-Record.is))
          ∙ c.loop-other.invariant.1,
    )

pub overflow_add-at-in-Lost : goal.overflow_add-at-in-Lost
overflow_add-at-in-Lost c =
    let deck : List ℕ = c.args.deck.now in
    let at : ℕ = c.loop-other.at in
    let stands : (found : Found) → c.find-found.result ≡ found → found_at deck at ≡ found = λ found e. sym c.find-found.ensures ∙ e in
    omega (arith, lost_inside deck at _ (stands _ c.in-Lost.is))

pub loop-other-smaller : goal.loop-other-smaller
loop-other-smaller c =
    let deck : List ℕ = c.args.deck.now in
    let at : ℕ = c.loop-other.at in
    let stands : (found : Found) → c.find-found.result ≡ found → found_at deck at ≡ found = λ found e. sym c.find-found.ensures ∙ e in
    omega (arith, lost_inside deck at _ (stands _ c.in-Lost.is))

pub loop-other-preserved : goal.loop-other-preserved
loop-other-preserved c =
    let deck : List ℕ = c.args.deck.now in
    let at : ℕ = c.loop-other.at in
    let stands : (found : Found) → c.find-found.result ≡ found → found_at deck at ≡ found = λ found e. sym c.find-found.ensures ∙ e in (
      c.loop-other.invariant.0,
      sym (past_lost deck at _ _ (stands _ c.in-Lost.is)) ∙ c.loop-other.invariant.1,
    )

pub shape_of-out-in-End : goal.shape_of-out-in-End
shape_of-out-in-End c = ap length c.loop-other.invariant.0

pub returns-in-End : goal.returns-in-End
returns-in-End c =
    let deck : List ℕ = c.args.deck.now in
    let at : ℕ = c.loop-other.at in
    let stands : (found : Found) → c.find-found.result ≡ found → found_at deck at ≡ found = λ found e. sym c.find-found.ensures ∙ e in
    let turn = c.loop-other in
    search_ended deck at _ _ turn.invariant.1 _ _ _ turn.invariant.0 (stands _ c.in-End.is)

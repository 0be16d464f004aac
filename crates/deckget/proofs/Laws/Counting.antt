-- Sides are counted right. Counted: the sides that fetches from a position on would give make up what is not counted yet.
--     counted_none     at the start nothing is counted
--     counted_next     a side that was fetched is counted
--     counted_all      where nothing is left, all are counted
--     has_room         there is room for a side that was found
--     moved            what was found goes forward, not past the deck's end, and lies in the space
-- Assumes nothing.
use mathlib.Core.List.{List, [], ◌∷◌}
use mathlib.Core.Path.{◌≡◌, refl, ap, ◌∙◌}
use Prim.Native.Nat.{ℕ, ◌+◌, ◌*◌, ◌≤◌, ◌<◌}
use native.Mathlib.Omega.{arith}
use Rattle.std.specs.Prelude.{Option, Some, None, Result, Ok, Err, IsOk}
use lib.ListN.{length, take}
use Rattle.lint.specs.declared.reasons.Side.{Side}
use Rattle.retrieval.specs.Fetching.{sides_of}
use Rattle.retrieval.specs.Fetches.{FetchedFrom, Fetches, nothing, another}
use Rattle.retrieval.specs.declared.Fetched.{Fetched}
use Rattle.retrieval.specs.declared.NoRoom.{NoRoom}
use Rattle.retrieval.proofs.Laws.Fetches.{goes_forward, room_enough, fetches_all}

module _ (deck : List ℕ) (number : ℕ) (side : Side) where
  abbrev pub Counted : ℕ → ℕ → Type 0
  Counted position count = (later : List (List ℕ)) → Fetches deck number side position later → count + length later ≡ length (sides_of side number deck)

  pub counted_none : Counted 0 0
  counted_none later f =
      let all : length later ≡ length (sides_of side number deck) = ap length (fetches_all deck number side later f) in
      omega arith

  module _ (position count : ℕ) (out last : List ℕ) (r : Option (Result Fetched NoRoom)) (h : FetchedFrom deck position number side out r last)
      (k : Counted position count) where
    pub counted_next : (fetched : Fetched) → r ≡ Some (Ok fetched) → Counted fetched.next (count + 1)
    counted_next fetched e later f =
        let g : FetchedFrom deck position number side out (Some (Ok fetched)) last = rw e at h in
        let all : count + length (take fetched.length last ∷ later) ≡ length (sides_of side number deck) =
        k (take fetched.length last ∷ later) (another fetched out last g f) in
        omega arith

    pub counted_all : r ≡ None → count ≡ length (sides_of side number deck)
    counted_all e =
        let g : FetchedFrom deck position number side out None last = rw e at h in
        let all : count + 0 ≡ length (sides_of side number deck) = k [] (nothing out last g) in
        omega arith

  pub has_room : (position : ℕ) (out last : List ℕ) (r : Option (Result Fetched NoRoom)) (found : Result Fetched NoRoom) → 16384 ≤ length out
      → FetchedFrom deck position number side out r last → r ≡ Some found → IsOk found
  has_room position out last r (Ok fetched) room h e = refl
  has_room position out last r (Err x) room h e = absurd (room_enough deck number side position out last r room h e)

  pub moved : (position : ℕ) (out last : List ℕ) (r : Option (Result Fetched NoRoom)) (found : Result Fetched NoRoom) (fetched : Fetched)
      → r ≡ Some found → found ≡ Ok fetched → FetchedFrom deck position number side out r last
      → (r ≡ Some (Ok fetched)) × ((position < fetched.next) × (512 * fetched.next ≤ length deck) × (fetched.length ≤ length out))
  moved position out last r found fetched e u h =
      let told = e ∙ ap Some u in
      (told, goes_forward deck number side position fetched out last r told h)

-- Fetches one behind the other.
--     First, first_from          the next record of a number from a position on: where it stands, and that those behind it are the others
--     goes_forward               a fetch goes forward, and not past the deck's end
--     room_enough                16,384 octets are enough
--     fetches_all                fetches until nothing is left give that side of every record of the number, in the deck's order
--     fetches_end                there are such fetches
--     one_fetch                  S11: any two answers that the contract allows coincide, and so do the buffers
-- Assumes nothing.
use mathlib.Core.Path.{◌≡◌, refl, sym, ap, ap₂, subst, ◌∙◌}
use mathlib.Core.Bool.{Bool, true, false, cond}
use mathlib.Core.Logic.{⊎_elim}
use mathlib.Core.List.{List, [], ◌∷◌, ◌++◌}
use Prim.Native.Nat.{ℕ, zero, suc, ◌+◌, ◌-◌, ◌*◌, ◌≤◌, ◌<◌}
use native.Mathlib.Omega.{arith}
use lib.Dec.{eqb, leb}
use Rattle.std.specs.Prelude.{Option, Some, None, Result, Ok, Err}
use lib.ListN.{length, take, drop, length-take, length-drop}
use lib.Seq.{take_at}
use borrow.Author.Tests.{leb-true, le-leb, eqb-true, eqb-false}
use Rattle.std.proofs.lemmas.Option.{none-some, same_Some}
use Rattle.retrieval.specs.Fetching.{written_side, numbered, sides_in, no_room, fetched_octets, fetched_of, out_after, FetchedFirst}
use Rattle.retrieval.specs.Fetches.{FetchedFrom, Fetches, nothing, another, FetchesAll, FetchesEnd, GoesForward, RoomEnough}
use Rattle.retrieval.specs.declared.Fetched.{Fetched}
use Rattle.retrieval.specs.declared.NoRoom.{NoRoom}
use Rattle.blocks.specs.Record.{parts, certificate_length, certificate_octets, issuer_octets}
use Rattle.blocks.proofs.Laws.Logic.{true_or_false}
use Rattle.lint.specs.declared.reasons.Side.{Side}
use Rattle.lint.specs.declared.reasons.Side.TheVariants.{Certificate, Issuer}
use Rattle.reader.specs.Runs.{from, record_from}
use Rattle.reader.specs.Events.{Event, record_at, events, events_from}
use Rattle.reader.specs.Finding.{found_at}
use Rattle.reader.specs.Taking.{in_front_of}
use Rattle.reader.specs.declared.finding.Found.{Found}
use Rattle.reader.proofs.Laws.Found.{Start, start_of, found_none}
use Rattle.reader.proofs.Laws.Taking.{front_room, start_long, start_cut}
use Rattle.retrieval.proofs.Laws.Fetching.{here, past_record, past_lost, at_end}
use Rattle.reader.specs.declared.finding.Found.TheVariants as Founds

-- ---- the next record of a number

pub data First (d : List ℕ) (number i : ℕ) : Type 0 where
  none : numbered number (events_from d i) ≡ [] → First d number i
  stands : (j n : ℕ) → i ≤ j → found_at d j ≡ Founds.Record number n
      → numbered number (events_from d i) ≡ record_at j number (record_from (from d j)) ∷ numbered number (events_from d (j + parts n))
      → First d number i

module _ (d : List ℕ) (number : ℕ) where
  further : (i k : ℕ) → i ≤ k → numbered number (events_from d i) ≡ numbered number (events_from d k) → First d number k → First d number i
  further i k h e (none f) = none (e ∙ f)
  further i k h e (stands j n l f g) = stands j n (omega arith) f (e ∙ g)

  by_found : (left i : ℕ) → length d ≤ 512 * i + suc left → ((k : ℕ) → length d ≤ 512 * k + left → First d number k) → (f : Found) → found_at d i ≡ f
      → First d number i
  by_found left i h later (Founds.Record other n) f =
      let start : Start d i other n = start_of d i other n f in
      ⊎_elim
      (λ (t : eqb other number ≡ true).
      let g : found_at d i ≡ Founds.Record number n = f ∙ ap (λ (m : ℕ). Founds.Record m n) (eqb-true other number t) in
      stands i n (omega arith) g (here d i number n g))
      (λ (t : eqb other number ≡ false).
      further i (i + parts n) (omega arith) (past_record d i number other n (eqb-false other number t) f)
      (later (i + parts n) (omega (arith, start.least))))
      (true_or_false (eqb other number))
  by_found left i h later (Founds.Lost loss) f = further i (i + 1) (omega arith) (past_lost d i number loss f) (later (i + 1) (omega arith))
  by_found left i h later Founds.End f = none (at_end d i number f)

  first_within : (left i : ℕ) → length d ≤ 512 * i + left → First d number i
  first_within zero i h = none (at_end d i number (found_none d i (omega arith)))
  first_within (suc left) i h = by_found left i h (first_within left) (found_at d i) refl

  pub first_from : (i : ℕ) → First d number i
  first_from i = first_within (length d) i (omega arith)

-- ---- what is said of octets

module _ (s : List ℕ) (after room : ℕ) where
  said : (fetched : Fetched) (t : Bool) → leb (length s) room ≡ t
      → ◌≡◌ {A = Result Fetched NoRoom} (Ok fetched) (cond t (Ok (record { length = length s; next = after })) (Err no_room))
      → (fetched.length ≡ length s) × (fetched.next ≡ after) × (length s ≤ room)
  said fetched true e h =
      let same : fetched ≡ record { length = length s; next = after } = cc in
      (ap (λ (f : Fetched). f.length) same, ap (λ (f : Fetched). f.next) same, leb-true (length s) room e)
  said fetched false e h = cc

-- what a fetch says, by the next record
module _ (es : List Event) (side : Side) (out : List ℕ) (r : Option (Result Fetched NoRoom)) (last : List ℕ) (h : FetchedFirst es side out r last)
  where
    of_none : es ≡ [] → r ≡ None
    of_none e = h.told ∙ ap (λ (l : List Event). fetched_of side (length out) l) e

    of_first : (j number : ℕ) (p : List ℕ) (later : List Event) → es ≡ record_at j number p ∷ later
        → (r ≡ Some (fetched_octets (written_side side p) (j + parts (length p)) (length out))) × (last ≡ in_front_of (written_side side p) out)
    of_first j number p later e =
        (h.told ∙ ap (λ (l : List Event). fetched_of side (length out) l) e, h.bytes ∙ ap (λ (l : List Event). out_after side out l) e)

side_short : (side : Side) (p : List ℕ) → 3 + certificate_length p ≤ length p → length (written_side side p) ≤ length p - 3
unfolding certificate_octets issuer_octets
side_short Certificate p h = rw length-take (omega (arith, length-drop 3 p))
side_short Issuer p h = rw length-drop (omega arith)

-- ---- the statements

module _ (deck : List ℕ) (number : ℕ) (side : Side) where
  abbrev at : ℕ → List ℕ
  at j = record_from (from deck j)

  side_fits : (j m : ℕ) → found_at deck j ≡ Founds.Record number m → length (written_side side (at j)) ≤ 16384
  side_fits j m f =
      let start : Start deck j number m = start_of deck j number m f in
      let size : length (at j) ≡ m = start_long deck j number m start in
      omega (arith, side_short side (at j) (omega (arith, start_cut deck j number m start)), start.most)

  pub goes_forward : GoesForward deck number side
  goes_forward position fetched out last r e h = go (first_from deck number position)
    where
      go : First deck number position → (position < fetched.next) × (512 * fetched.next ≤ length deck) × (fetched.length ≤ length out)
      go (none f) =
          let g : r ≡ None = of_none _ side out r last h f in
          absurd (none-some _ (sym g ∙ e))
      go (stands j m l f g) =
          let start : Start deck j number m = start_of deck j number m f in
          let told = said (written_side side (at j)) (j + parts (length (at j))) (length out) fetched _ refl
          (same_Some _ _ (sym e ∙ (of_first _ side out r last h j number (at j) _ g).0)) in
          let to : fetched.next ≡ j + parts m = told.1 ∙ ap (λ (k : ℕ). j + parts k) (start_long deck j number m start) in
          (omega (arith, start.least), omega (arith, start.whole), omega (arith, told.0, told.2))

  pub room_enough : RoomEnough deck number side
  room_enough position out last r room h e = go (first_from deck number position)
    where
      go : First deck number position → ⊥
      go (none f) =
          none-some _ (sym (of_none _ side out r last h f) ∙ e)
      go (stands j m l f g) =
          let fit : length (written_side side (at j)) ≤ length out = omega (arith, side_fits j m f) in
          let told : r ≡ Some (Ok (record { length = length (written_side side (at j)); next = j + parts (length (at j)) })) =
          (of_first _ side out r last h j number (at j) _ g).0 ∙ rw (le-leb _ _ fit) in
          cc

  -- each fetch gives the next, and those behind it are the others
  all_left : (position : ℕ) (sides : List (List ℕ)) → Fetches deck number side position sides
      → sides ≡ sides_in side (numbered number (events_from deck position))
  all_left position _ (nothing out last h) = go (first_from deck number position)
    where
      go : First deck number position → [] ≡ sides_in side (numbered number (events_from deck position))
      go (none f) = sym (ap (λ (es : List Event). sides_in side es) f)
      go (stands j m l f g) =
          absurd (none-some _ (of_first _ side out None last h j number (at j) _ g).0)
  all_left position _ (another {later = later} fetched out last h rest) = go (all_left fetched.next later rest) (first_from deck number position)
    where
      go : later ≡ sides_in side (numbered number (events_from deck fetched.next)) → First deck number position
          → take fetched.length last ∷ later ≡ sides_in side (numbered number (events_from deck position))
      go others (none f) =
          absurd (none-some _ (sym (of_none _ side out (Some (Ok fetched)) last h f)))
      go others (stands j m l f g) =
          let s : List ℕ = written_side side (at j) in
          let put = of_first _ side out (Some (Ok fetched)) last h j number (at j) _ g in
          let told = said s (j + parts (length (at j))) (length out) fetched _ refl (same_Some _ _ put.0) in
          let to : fetched.next ≡ j + parts m =
          told.1 ∙ ap (λ (k : ℕ). j + parts k) (start_long deck j number m (start_of deck j number m f)) in
          let front : take fetched.length last ≡ s =
          ap₂ (λ (k : ℕ) (t : List ℕ). take k t) told.0 (put.1 ∙ front_room s out told.2) ∙ take_at s (drop (length s) out) (length s) refl in
          ap₂ (λ (x : List ℕ) (xs : List (List ℕ)). x ∷ xs) front
          (others ∙ ap (λ (k : ℕ). sides_in side (numbered number (events_from deck k))) to)
          ∙ sym (ap (λ (es : List Event). sides_in side es) g)

  pub fetches_all : FetchesAll deck number side
  unfolding events
  fetches_all sides h = all_left 0 sides h

  -- with room enough a fetch gives the next record, and the others are left
  abbrev left : ℕ → List (List ℕ)
  left i = sides_in side (numbered number (events_from deck i))

  module _ (out : List ℕ) (room : 16384 ≤ length out) where
    fetch_first : (i : ℕ) → ((k : ℕ) → i < k → 512 * k ≤ length deck → Fetches deck number side k (left k)) → First deck number i
        → Fetches deck number side i (left i)
    fetch_first i later (none f) = rw f (nothing {position = i} out out (rw f (record { told = refl; bytes = refl })))
    fetch_first i later (stands j m l f g) =
        let s : List ℕ = written_side side (at j) in
        let start : Start deck j number m = start_of deck j number m f in
        let fit : length s ≤ length out = omega (arith, side_fits j m f) in
        let size : length (at j) ≡ m = start_long deck j number m start in
        let h : FetchedFrom deck i number side out (Some (Ok (record { length = length s; next = j + parts m }))) (s ++ drop (length s) out) =
        rw g (record { told = rw (size, le-leb _ _ fit); bytes = sym (front_room s out fit) }) in
        subst (λ (sides : List (List ℕ)). Fetches deck number side i sides)
        (ap (λ (x : List ℕ). x ∷ left (j + parts m)) (take_at s (drop (length s) out) (length s) refl) ∙ sym (ap (λ (es : List Event). sides_in side es) g))
        (another (record { length = length s; next = j + parts m }) out (s ++ drop (length s) out) h (later (j + parts m) (omega (arith, start.least)) start.whole))

    fetch_left : (octets i : ℕ) → length deck ≤ 512 * i + octets → Fetches deck number side i (left i)
    fetch_left zero i h = fetch_first i (λ k forward inside. absurd (omega arith)) (first_from deck number i)
    fetch_left (suc octets) i h = fetch_first i (λ k forward inside. fetch_left octets k (omega arith)) (first_from deck number i)

  pub fetches_end : FetchesEnd deck number side
  unfolding events
  fetches_end out room = fetch_left out room (length deck) 0 (omega arith)

  -- ---- S11

  pub one_fetch : (position : ℕ) (out : List ℕ) (r s : Option (Result Fetched NoRoom)) (last other : List ℕ)
      → FetchedFrom deck position number side out r last → FetchedFrom deck position number side out s other → (r ≡ s) × (last ≡ other)
  one_fetch position out r s last other h k = (h.told ∙ sym k.told, h.bytes ∙ sym k.bytes)

-- What the reader's step answers.
--     cut_on_desk                          what the desk says of the certificate's length is what the record says
--     on_certificate_lem, on_issuer_lem            where the parts of a record at the front of the desk are
--     desk_linted                          the linter's answer to the parts of a record on the desk is its answer to the record
--     clear_long                           how long the desk is
--     desk_record, desk_cut, desk_enough   the data of a record that starts at a block, gathered on the desk
--     linted, stepped                      what is told has the paper's values
--     step_record, step_lost, step_end     a step, by what is found
-- Assumes nothing.
use mathlib.Core.Path.{◌≡◌, refl, ap, ap₂, ◌∙◌}
use mathlib.Core.Bool.{Bool, true, false, cond}
use mathlib.Core.List.{List, [], ◌∷◌, ◌++◌}
use Prim.Native.Nat.{ℕ, ◌+◌, ◌-◌, ◌*◌, ◌≤◌}
use native.Mathlib.Omega.{arith}
use lib.ListN.{length, take, drop, replicate, length-append, length-replicate, get_or-append}
use lib.Seq.{take-add, take-take, take-append-le, drop_at, get_or-take, length-take-le}
use lib.Dec.{ltb}
use borrow.Author.Tests.{lt-ltb}
use Rattle.std.specs.Prelude.{Result}
use Rattle.reader.specs.Runs.{from, starts, data_from, record_from}
use Rattle.reader.specs.Events.{Event, record_at, lost_at, event_if}
use Rattle.reader.specs.Finding.{found_if, found_at}
use Rattle.reader.specs.Workings.Desk.{desk_with, Linted}
use Rattle.reader.specs.Stepping.{linted_record, linted_room, item_of, room_after, event_at, item_at, room_at, Stepped, record_values, item_values}
use Rattle.reader.specs.Stepping.{event_values, values_at}
use Rattle.reader.specs.declared.finding.Loss.{Loss}
use Rattle.reader.specs.declared.finding.Found.{Found}
use Rattle.reader.specs.declared.stepping.Record.{Record}
use Rattle.reader.specs.declared.stepping.Item.{Item}
use Rattle.octets.specs.Octets.{octet_at}
use Rattle.octets.specs.Numbers.{pair_at}
use Rattle.blocks.specs.Record.{parts, profile_in, certificate_length, certificate_octets, issuer_octets}
use Rattle.lint.specs.declared.reasons.Refusal.{Refusal}
use Rattle.lint.specs.Refusals.{answer_values}
use Rattle.lint.specs.Answers.{Answered}
use Rattle.lint.proofs.Laws.Values.{lint_values_lem}
use Rattle.reader.proofs.Laws.Places.{data_length}
use Rattle.reader.proofs.Laws.Found.{Start}
use Rattle.reader.proofs.Laws.Gathering.{desk_with_lem}
use Rattle.reader.specs.declared.finding.Found.TheVariants as Founds
use Rattle.reader.specs.declared.stepping.Item.TheVariants as Items

drop-take : (m n : ℕ) (l : List ℕ) → m ≤ n → m ≤ length l → drop m (take n l) ≡ take (n - m) (drop m l)
drop-take m n l h k =
    let e : n ≡ m + (n - m) = omega arith in
    ap (λ (i : ℕ). drop m (take i l)) e
    ∙ ap (λ (t : List ℕ). drop m t) (take-add m (n - m) l)
    ∙ drop_at (take m l) (take (n - m) (drop m l)) m (length-take-le m l k)

-- ---- the paper's values

record_values_lem : (number : ℕ) (p room : List ℕ) → answer_values (linted_record number p room).answer ≡ record_values p room
unfolding record_values
record_values_lem number p room = lint_values_lem (certificate_octets p) (issuer_octets p) (profile_in p) room

linted : {number : ℕ} {p room : List ℕ} {r : Record} {last : List ℕ} → r ≡ linted_record number p room → last ≡ linted_room p room → Linted number p room r last
linted {number} {p} {room} e b = record { told = e; values = ap (λ (r : Record). answer_values r.answer) e ∙ record_values_lem number p room; bytes = b }

event_values_lem : (room : List ℕ) (e : Event) → item_values (item_of room e) ≡ event_values room e
event_values_lem room (record_at position number p) = ap (λ v. v ∷ []) (record_values_lem number p room)
event_values_lem room (lost_at position loss) = refl

item_values_lem : (d : List ℕ) (i : ℕ) (room : List ℕ) → item_values (item_at d i room) ≡ values_at d i room
unfolding item_at values_at
item_values_lem d i room = go (ltb (512 * i) (length d))
  where
    go : (t : Bool) → item_values (cond t (item_of room (event_at d i)) Items.End) ≡ cond t (event_values room (event_at d i)) []
    go true = event_values_lem room (event_at d i)
    go false = refl

pub stepped : {d : List ℕ} {i : ℕ} {room : List ℕ} {r : Item} {last : List ℕ} → r ≡ item_at d i room → last ≡ room_at d i room → Stepped d i room r last
stepped {d} {i} {room} e b = record { told = e; values = ap item_values e ∙ item_values_lem d i room; bytes = b }

-- ---- the desk

pub cut_on_desk : (desk : List ℕ) (n : ℕ) → 3 ≤ n → certificate_length (take n desk) ≡ pair_at desk 1
cut_on_desk desk n h = ap₂ (λ (a b : ℕ). 256 * a + b) (get_or-take n desk 1 0 (omega arith)) (get_or-take n desk 2 0 (omega arith))

-- a record of n octets at the front of the desk, whose certificate ends before `cut`
module _ (desk : List ℕ) (n cut : ℕ) (e : cut ≡ 3 + pair_at desk 1) (h : cut ≤ n) (k : n ≤ length desk) where
  abbrev p : List ℕ
  p = take n desk

  on_profile : profile_in p ≡ octet_at desk 0
  on_profile = get_or-take n desk 0 0 (omega arith)

  on_cut : certificate_length p ≡ pair_at desk 1
  on_cut = cut_on_desk desk n (omega arith)

  pub on_certificate_lem : certificate_octets p ≡ take (cut - 3) (drop 3 desk)
  unfolding certificate_octets
  on_certificate_lem =
      let m : certificate_length p ≡ cut - 3 = on_cut ∙ omega arith in
      ap₂ (λ (i : ℕ) (l : List ℕ). take i l) m (drop-take 3 n desk (omega arith) (omega arith))
      ∙ take-take (cut - 3) (n - 3) (drop 3 desk) (omega arith)

  pub on_issuer_lem : issuer_octets p ≡ take (n - cut) (drop cut desk)
  unfolding issuer_octets
  on_issuer_lem =
      let m : 3 + certificate_length p ≡ cut = omega (arith, on_cut) in
      ap (λ (i : ℕ). drop i p) m ∙ drop-take cut n desk h (omega arith)

  pub desk_linted : (number profile : ℕ) (room last : List ℕ) (a : Result ℕ Refusal) → profile ≡ octet_at desk 0
      → Answered (take (cut - 3) (drop 3 desk)) (take (n - cut) (drop cut desk)) profile room a last
      → Linted number p room (record { number = number; profile = profile; length = n; answer = a }) last
  unfolding linted_room
  desk_linted number profile room last a q l =
      linted
      (rw (length-take-le n desk k, on_profile, on_certificate_lem, on_issuer_lem, ← q)
      (ap (λ (x : Result ℕ Refusal). record { number = number; profile = profile; length = n; answer = x }) l.told))
      (rw (on_profile, on_certificate_lem, on_issuer_lem, ← q) l.bytes)

-- the desk before anything lies on it
pub clear_long : length {A = ℕ} (replicate 16566 0) ≡ 16566
clear_long = length-replicate {A = ℕ} 16566 0

-- a record that starts at a block, whose data is gathered at the front of a desk of 16,566 octets
module _ (d : List ℕ) (i number n k : ℕ) (desk₀ desk : List ℕ) (start : Start d i number n) (e : k ≡ parts n) (long : length desk₀ ≡ 16566)
    (g : desk ≡ desk_with d i k desk₀) where
  abbrev gathered : List ℕ
  gathered = data_from k (from d i)

  gathered_long : length gathered ≡ k * 502
  gathered_long = data_length k d i (omega (arith, start.whole))

  on_desk : desk ≡ gathered ++ drop (k * 502) desk₀
  on_desk = g ∙ desk_with_lem d i k desk₀ (omega (arith, start.whole)) (omega (arith, start.most))

  pub desk_enough : n ≤ length desk
  desk_enough = rw (on_desk, length-append) (omega (arith, gathered_long))

  pub desk_record : take n desk ≡ record_from (from d i)
  unfolding record_from
  desk_record =
      ap (λ (l : List ℕ). take n l) on_desk
      ∙ take-append-le n gathered (drop (k * 502) desk₀) (omega (arith, gathered_long))
      ∙ rw (e, ← start.length_is)

  pub desk_cut : 3 + certificate_length desk ≤ n
  desk_cut =
      let enough : 3 ≤ length gathered = omega (arith, gathered_long, start.least) in
      let same : certificate_length desk ≡ certificate_length gathered =
      ap certificate_length on_desk
      ∙ ap₂ (λ (a b : ℕ). 256 * a + b)
      (get_or-append gathered (drop (k * 502) desk₀) 0 1 (omega arith)) (get_or-append gathered (drop (k * 502) desk₀) 0 2 (omega arith)) in
      let fitted : certificate_length gathered ≤ n - 3 = rw e start.fitted in
      omega (arith, start.least, same, fitted)

-- ---- by what is found

module _ (d : List ℕ) (i : ℕ) (room : List ℕ) where
  pub step_record : (number n : ℕ) (r : Record) (last : List ℕ) → Start d i number n → Linted number (record_from (from d i)) room r last
      → Stepped d i room (Items.Record r) last
  unfolding item_at room_at
  step_record number n r last start l =
      stepped (rw (lt-ltb _ _ start.inside, start.begins, ← start.number_is) (ap Items.Record l.told))
      (rw (lt-ltb _ _ start.inside, start.begins) l.bytes)

  -- by whether the deck goes on, and whether a run starts
  abbrev found_by : Bool → Bool → Found
  found_by t b = cond t (found_if b (from d i)) Founds.End

  abbrev item_by : Bool → Bool → Item
  item_by t b = cond t (item_of room (event_if b i (from d i))) Items.End

  abbrev room_along : Bool → Bool → List ℕ
  room_along t b = cond t (room_after room (event_if b i (from d i))) room

  by_lost : (loss : Loss) (t b : Bool) → found_by t b ≡ Founds.Lost loss → (Items.Lost loss ≡ item_by t b) × (room ≡ room_along t b)
  by_lost loss true true e = (cc, cc)
  by_lost loss true false e = (cc, refl)
  by_lost loss false b e = (cc, refl)

  by_end : (t b : Bool) → found_by t b ≡ Founds.End → (Items.End ≡ item_by t b) × (room ≡ room_along t b)
  by_end true true e = (cc, cc)
  by_end true false e = (cc, refl)
  by_end false b e = (refl, refl)

  pub step_lost : (loss : Loss) → found_at d i ≡ Founds.Lost loss → Stepped d i room (Items.Lost loss) room
  unfolding found_at item_at room_at
  step_lost loss f =
      let both = by_lost loss (ltb (512 * i) (length d)) (starts (from d i)) f in
      stepped both.0 both.1

  pub step_end : found_at d i ≡ Founds.End → Stepped d i room Items.End room
  unfolding found_at item_at room_at
  step_end f =
      let both = by_end (ltb (512 * i) (length d)) (starts (from d i)) f in
      stepped both.0 both.1

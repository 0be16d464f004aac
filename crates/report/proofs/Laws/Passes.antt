-- The two passes: one that counts, over no room, and one that writes.
--     Short, pass_short             what the first pass shows where its count does not fit the room
--     WrittenWhole, pass_written    what both show where it does
--     pass_none          what the first shows where it counts nothing: there is nothing to write
--     filled_short, filled_written      the room at the end
--     report_long, filled_long          how long the entries' octets are, and that the room keeps its length
--     filled_report      the report in the room is the entries' octets, where they fit
--     enough_by_length   whether they fit asks nothing of the room but its length
-- Assumes nothing.
use mathlib.Core.Path.{◌≡◌, refl, sym, ap, ◌∙◌}
use mathlib.Core.List.{List, [], ◌∷◌, ◌++◌, append_assoc, append-nil}
use mathlib.Core.Bool.{Bool, true, false, cond}
use Prim.Native.Nat.{ℕ, suc, ◌+◌, ◌*◌, ◌≤◌, ◌<◌, ◌^◌, min}
use native.Mathlib.Nat.{add-zero, zero-add}
use native.Mathlib.Omega.{arith}
use lib.Dec.{ltb, leb}
use lib.ListN.{length, take, drop, length-append, length-drop, take-append-drop}
use lib.Seq.{sets-eq, take_at, drop-drop, drop-append-add, length-take-le}
use borrow.Author.Tests.{ltb-true, ltb-false, lt-ltb, leb-true, leb-false, le-leb, lt-leb}
use Rattle.report.specs.declared.sink.Entry.{Entry}
use Rattle.report.specs.Entries.{width, entry_octets, report_octets}
use Rattle.report.specs.Putting.{cap, tick, put_one, counted, put_all, Put}
use Rattle.report.specs.Answers.{enough_room, filled}
use Rattle.report.proofs.Laws.Putting.{nothing}

-- what is known once a first pass has found the room short
pub record Short (es : List Entry) (room last : List ℕ) : Type 0 where
  pub short : enough_room es room ≡ false
  pub bytes : last ≡ filled es room

-- what is known once a first pass has found room for n findings, and a second one has written them
pub record WrittenWhole (es : List Entry) (room : List ℕ) (n : ℕ) (last : List ℕ) : Type 0 where
  pub enough : enough_room es room ≡ true
  pub count : n ≡ length es
  pub bytes : last ≡ filled es room

-- ---- the count

ticked : (n k : ℕ) → n ≤ cap → (tick n ≤ cap) × (min cap (tick n + k) ≡ min cap (n + suc k))
unfolding tick
ticked n k h = go (ltb n cap) refl
  where
    go : (b : Bool) → ltb n cap ≡ b → (cond b (n + 1) n ≤ cap) × (min cap (cond b (n + 1) n + k) ≡ min cap (n + suc k))
    go true t = let l = ltb-true n cap t in (omega arith, omega arith)
    go false t = let l = ltb-false n cap t in (omega arith, omega arith)

counted_min : (es : List Entry) (n : ℕ) → n ≤ cap → counted es n ≡ min cap (n + length es)
unfolding counted
counted_min [] n h = omega arith
counted_min (e ∷ es) n h = counted_min es (tick n) (ticked n (length es) h).0 ∙ (ticked n (length es) h).1

-- the count is right wherever it can matter: where the octets of so many entries fit a slice
counted_right : (es : List Entry) (l : ℕ) → l < 2 ^ 63 → width * counted es 0 ≤ l → counted es 0 ≡ length es
counted_right es l k h = let c : counted es 0 ≡ min cap (0 + length es) = counted_min es 0 (omega arith) in omega arith

counted_over : (es : List Entry) (l : ℕ) → l < width * counted es 0 → l < width * length es
counted_over es l h = let c : counted es 0 ≡ min cap (0 + length es) = counted_min es 0 (omega arith) in omega arith

-- nothing is counted only where there is nothing
no_length : (es : List Entry) → length es ≡ 0 → es ≡ []
no_length [] h = refl
no_length (e ∷ es) h = absurd (omega arith)

counted_none : (es : List Entry) → counted es 0 ≤ 0 → es ≡ []
counted_none es h =
    let c : counted es 0 ≡ min cap (0 + length es) = counted_min es 0 (omega arith) in
    no_length es (omega arith)

-- ---- the octets

none_written : (es : List Entry) (n : ℕ) → put_all es n [] ≡ []
unfolding put_all put_one
none_written [] n = refl
none_written (e ∷ es) n = rw (lt-leb (width * n + width) 0 (omega arith)) (none_written es (tick n))

ticks : (n : ℕ) → n < cap → tick n ≡ n + 1
unfolding tick
ticks n h = rw (lt-ltb n cap h)

one_written : (n : ℕ) (room : List ℕ) (e : Entry) → width * n + width ≤ length room
    → put_one e n room ≡ take (width * n) room ++ entry_octets e ++ drop (width * n + width) room
unfolding put_one
one_written n room e h = rw (le-leb (width * n + width) (length room) h) (sets-eq (entry_octets e) room (width * n) h)

seam : (p q x : List ℕ) (j m : ℕ) → length p ≡ j → take j (p ++ q) ++ x ++ drop (j + m) (p ++ q) ≡ p ++ x ++ drop m q
seam p q x j m e = rw (take_at p q j e, ← e, drop-append-add p q m)

all_written : (es : List Entry) (n : ℕ) (room : List ℕ) → width * (n + length es) ≤ length room → length room < 2 ^ 63
    → put_all es n room ≡ take (width * n) room ++ report_octets es ++ drop (width * (n + length es)) room
unfolding put_all report_octets
all_written [] n room h k = simp (append-nil, add-zero, take-append-drop)
all_written (e ∷ es) n room h k =
    let before = take (width * n) room ++ entry_octets e in
    let behind = drop (width * n + width) room in
    let lp : length before ≡ width * n + width
    = length-append (take (width * n) room) (entry_octets e) ∙ rw (length-take-le (width * n) room (omega arith)) in
    let same : length (before ++ behind) ≡ length room
    = rw (length-append before behind, lp, length-drop (width * n + width) room) (omega arith) in
    let a : width * (n + 1) ≡ width * n + width = omega arith in
    let b : width * (n + 1 + length es) ≡ width * n + width + width * length es = omega arith in
    let d : width * (n + suc (length es)) ≡ width * n + width + width * length es = omega arith in
    rw (one_written n room e (omega arith), ticks n (omega arith), d)
    (all_written es (n + 1) (before ++ behind) (omega arith) (omega arith)
    ∙ rw (a, b)
    (seam before behind (report_octets es) (width * n + width) (width * length es) lp
    ∙ simp (drop-drop, append_assoc)))

-- ---- the room at the end

pub filled_short : (es : List Entry) (room : List ℕ) → enough_room es room ≡ false → filled es room ≡ room
unfolding filled
filled_short es room f = rw f

pub filled_written : (es : List Entry) (room : List ℕ) → enough_room es room ≡ true → filled es room ≡ report_octets es ++ drop (width * length es) room
unfolding filled
filled_written es room f = rw f

pub report_long : (es : List Entry) → length (report_octets es) ≡ width * length es
unfolding report_octets
report_long [] = refl
report_long (e ∷ es) = omega (arith, report_long es)

pub filled_long : (es : List Entry) (room : List ℕ) → length (filled es room) ≡ length room
filled_long es room = go (enough_room es room) refl
  where
    go : (b : Bool) → enough_room es room ≡ b → length (filled es room) ≡ length room
    go true t =
        let h : width * length es ≤ length room = leb-true _ _ t in
        ap length (filled_written es room t) ∙ simp (length-append, length-drop, report_long es) (omega arith)
    go false f = ap length (filled_short es room f)

pub filled_report : (es : List Entry) (room : List ℕ) → enough_room es room ≡ true → take (width * length es) (filled es room) ≡ report_octets es
filled_report es room t =
    let n : ℕ = width * length es in
    ap (λ (l : List ℕ). take n l) (filled_written es room t) ∙ take_at (report_octets es) (drop n room) n (report_long es)

pub enough_by_length : (es : List Entry) (room other : List ℕ) → length room ≡ length other → enough_room es room ≡ enough_room es other
enough_by_length es room other e = ap (λ (n : ℕ). leb (width * length es) n) e

-- ---- the two passes

-- the first pass, over no room, counts n and leaves `left`, which is empty; `fit` is whether n entries fit the room
module _ (es : List Entry) (room : List ℕ) {n : ℕ} {left : List ℕ} {fit : Bool}
    (p : Put es 0 [] n left) (t : fit ≡ leb (width * n) (length (left ++ room))) where
  same_room : left ++ room ≡ room
  same_room = rw (p.bytes ∙ none_written es 0)

  pub pass_short : fit ≡ false → Short es room (left ++ room)
  pass_short f =
      let c = p.count in
      let l : length (left ++ room) ≡ length room = ap length same_room in
      let k = leb-false (width * n) (length (left ++ room)) (sym t ∙ f) in
      let o : length room < width * length es = counted_over es (length room) (omega arith) in
      let short : enough_room es room ≡ false = lt-leb (width * length es) (length room) o in
      record { short = short; bytes = same_room ∙ sym (filled_short es room short) }

  pub pass_written : {m : ℕ} {last : List ℕ} → fit ≡ true → length room < 2 ^ 63 → Put es 0 (left ++ room) m last → WrittenWhole es room n last
  pass_written f small q =
      let c = p.count in
      let l : length (left ++ room) ≡ length room = ap length same_room in
      let k = leb-true (width * n) (length (left ++ room)) (sym t ∙ f) in
      let e : counted es 0 ≡ length es = counted_right es (length room) small (omega arith) in
      let o : width * length es ≤ length room = omega arith in
      let enough : enough_room es room ≡ true = le-leb (width * length es) (length room) o in
      record {
        enough = enough;
        count = c ∙ e;
        bytes =
            q.bytes ∙ ap (put_all es 0) same_room ∙ all_written es 0 room (omega arith) small
            ∙ (rw (zero-add (length es)) (sym (filled_written es room enough)));
      }

  pub pass_none : fit ≡ true → length room < 2 ^ 63 → n ≤ 0 → WrittenWhole es room n (left ++ room)
  pass_none f small z =
      let c = p.count in
      let e : es ≡ [] = counted_none es (omega arith) in
      pass_written {m = 0} f small (rw e (nothing 0 (left ++ room)))

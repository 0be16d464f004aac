-- A report read back.
--     entry_past, entry_by     an entry past the end of the report, and any other by its four pairs of octets
--     decode_none, decode_next     the first entries: none, and those with entry k behind the k before it
--     decode_take              they ask nothing of the octets behind them
--     Small, entry_small       all four numbers of an entry are below 65,536; such is each that octets say
--     pair_back, read_back     a number that was written, and entries, whatever stands behind them
--     report_back              the entries in the room at the end
-- Assumes nothing.
use mathlib.Core.Path.{◌≡◌, refl, sym, ap, ap₂, ◌∙◌}
use mathlib.Core.List.{List, [], ◌∷◌, ◌++◌}
use mathlib.Core.List.Memᴰ
use mathlib.Core.Bool.{true}
use Prim.Native.Nat.{ℕ, zero, suc, ◌+◌, ◌*◌, ◌/◌, ◌%◌, ◌≤◌, ◌<◌}
use native.Mathlib.Nat.{zero-add, suc-add, mod-eq_of_lt}
use native.Mathlib.Omega.{arith}
use lib.ListN.{length, take, drop}
use lib.Seq.{take-nil, get_or-take, get_or-drop}
use Rattle.report.specs.declared.sink.Entry.{Entry}
use Rattle.report.specs.Entries.{width, report_octets, entry_of, decode}
use Rattle.report.specs.Answers.{enough_room, filled}
use Rattle.report.specs.Order.{In, Ordered, EntriesInside, Levelled, EntriesLevelled}
use Rattle.octets.specs.Octets.{octet_at}
use Rattle.octets.specs.Numbers.{pair_at}
use Rattle.octets.proofs.Laws.Octets.{past}
use Rattle.report.proofs.Laws.Passes.{filled_written}
use Rattle.profiles.specs.Judged.{level_of}
use Rattle.profiles.proofs.Laws.Levels.{level_small}

-- ---- one entry

-- by its four numbers
abbrev made : ℕ → ℕ → ℕ → ℕ → Entry
made rule start len level = record { rule = rule; place = record { start = start; len = len }; level = level }

made_same : {a b c d x y z w : ℕ} → a ≡ x → b ≡ y → c ≡ z → d ≡ w → made a b c d ≡ made x y z w
made_same e f g h = rw (e, f, g, h)

pair_past : (s : List ℕ) (i : ℕ) → length s ≤ i → 0 ≡ pair_at s i
pair_past s i h = rw (← past s i h, ← past s (i + 1) (omega arith))

module _ (s : List ℕ) (k : ℕ) where
  pub entry_by : {rule start len level : ℕ} → rule ≡ pair_at s (width * k) → start ≡ pair_at s (width * k + 2) → len ≡ pair_at s (width * k + 4)
      → level ≡ pair_at s (width * k + 6) → made rule start len level ≡ entry_of s k
  unfolding entry_of
  entry_by e f g h = made_same e f g h

  pub entry_past : length s / width < k → made 0 0 0 0 ≡ entry_of s k
  entry_past h =
      entry_by (pair_past s (width * k) (omega arith)) (pair_past s (width * k + 2) (omega arith)) (pair_past s (width * k + 4) (omega arith))
      (pair_past s (width * k + 6) (omega arith))

-- all four numbers are below 65,536
abbrev pub Small : Entry → Type 0
Small e = (e.rule < 65536) × (e.place.start < 65536) × (e.place.len < 65536) × (e.level < 65536)

pub entry_small : (s : List ℕ) → ((i : ℕ) → octet_at s i < 256) → (k : ℕ) → Small (entry_of s k)
unfolding entry_of
entry_small s o k = (small (width * k), small (width * k + 2), small (width * k + 4), small (width * k + 6))
  where
    small : (i : ℕ) → pair_at s i < 65536
    small i = omega (arith, o i, o (i + 1))

-- ---- the first entries

pair_drop : (m : ℕ) (s : List ℕ) (i j : ℕ) → m + i ≡ j → pair_at (drop m s) i ≡ pair_at s j
pair_drop m s i j e =
    let f : m + (i + 1) ≡ j + 1 = omega arith in
    ap₂ (λ (a b : ℕ). 256 * a + b) (get_or-drop m s i 0 ∙ ap (octet_at s) e) (get_or-drop m s (i + 1) 0 ∙ ap (octet_at s) f)

entry_on : (s : List ℕ) (k : ℕ) → entry_of (drop width s) k ≡ entry_of s (suc k)
unfolding entry_of
entry_on s k =
    let at : ℕ = width * k in
    let next : ℕ = width * suc k in
    made_same
    (pair_drop width s at next (omega arith))
    (pair_drop width s (at + 2) (next + 2) (omega arith))
    (pair_drop width s (at + 4) (next + 4) (omega arith))
    (pair_drop width s (at + 6) (next + 6) (omega arith))

pub decode_none : (s : List ℕ) → decode 0 s ≡ []
unfolding decode
decode_none s = refl

pub decode_next : (s : List ℕ) (k : ℕ) → decode (suc k) s ≡ decode k s ++ (entry_of s k ∷ [])
unfolding decode
decode_next s zero = refl
decode_next s (suc k) =
    ap (λ (es : List Entry). entry_of s 0 ∷ es)
    (decode_next (drop width s) k ∙ ap (λ (e : Entry). decode k (drop width s) ++ (e ∷ [])) (entry_on s k))

drop-take : (m n : ℕ) (l : List ℕ) → drop m (take (m + n) l) ≡ take n (drop m l)
drop-take zero n l = ap (λ (k : ℕ). take k l) (zero-add n)
drop-take (suc m) n [] = ap (λ (l : List ℕ). drop (suc m) l) (take-nil (suc m + n)) ∙ sym (take-nil n)
drop-take (suc m) n (x ∷ l) = ap (λ (k : ℕ). drop (suc m) (take k (x ∷ l))) (suc-add m n) ∙ drop-take m n l

entry_take : (n : ℕ) (s : List ℕ) → width ≤ n → entry_of (take n s) 0 ≡ entry_of s 0
unfolding entry_of
entry_take n s h = made_same (pair 0 (omega arith)) (pair 2 (omega arith)) (pair 4 (omega arith)) (pair 6 (omega arith))
  where
    pair : (i : ℕ) → i + 1 < n → pair_at (take n s) i ≡ pair_at s i
    pair i l = ap₂ (λ (a b : ℕ). 256 * a + b) (get_or-take n s i 0 (omega arith)) (get_or-take n s (i + 1) 0 l)

pub decode_take : (n : ℕ) (s : List ℕ) → decode n (take (width * n) s) ≡ decode n s
unfolding decode
decode_take zero s = refl
decode_take (suc n) s =
    let e : width * suc n ≡ width + width * n = omega arith in
    ap₂ (λ (x : Entry) (xs : List Entry). x ∷ xs) (entry_take (width * suc n) s (omega arith))
    (ap (λ (k : ℕ). decode n (drop width (take k s))) e ∙ ap (λ (l : List ℕ). decode n l) (drop-take width (width * n) s) ∙ decode_take n (drop width s))

-- ---- what was written

pub pair_back : (n : ℕ) → n < 65536 → 256 * (n / 256 % 256) + n % 256 ≡ n
pair_back n l =
    let h : n / 256 < 256 = omega arith in
    rw (mod-eq_of_lt h) (omega arith)

read_all : (es : List Entry) (rest : List ℕ) → ((e : Entry) → In e es → Small e) → decode (length es) (report_octets es ++ rest) ≡ es
unfolding decode report_octets entry_of
read_all [] rest f = refl
read_all (e ∷ es) rest f =
    let k = f e (Memᴰ.head refl) in
    rw (pair_back e.rule k.0, pair_back e.place.start k.1, pair_back e.place.len k.2, pair_back e.level k.3)
    (ap (λ (l : List Entry). e ∷ l) (read_all es rest (λ g m. f g (Memᴰ.tail m))))

pub read_back : {from to limit : ℕ} {es : List Entry} (rest : List ℕ) → Ordered from to es → to ≤ 65536 → EntriesInside es limit → limit < 65536
    → EntriesLevelled es → decode (length es) (report_octets es ++ rest) ≡ es
read_back {from} {to} {limit} {es} rest o t i l v = read_all es rest (λ e m. go e (o.rules e m) (i e m) (v e m))
  where
    go : (e : Entry) → (from ≤ e.rule) × (e.rule < to) → e.place.start + e.place.len ≤ limit → Levelled e → Small e
    go e r k q = (omega arith, omega arith, omega arith, rw q (level_small (level_of e.rule)))

pub report_back : {from to limit : ℕ} {es : List Entry} (room : List ℕ) → Ordered from to es → to ≤ 65536 → EntriesInside es limit → limit < 65536
    → EntriesLevelled es → enough_room es room ≡ true → decode (length es) (filled es room) ≡ es
report_back {es = es} room o t i l v f = rw (filled_written es room f) (read_back _ o t i l v)

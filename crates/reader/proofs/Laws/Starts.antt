-- Where a record starts, in terms of the deck's octets.
--     block_whole                            a sound block has its 512 octets in the deck
--     part_by, unsound_no_part               one part, by the tests of its block
--     parts_next, parts_done, parts_within   the parts of a run from one on; all of them lie in the deck
--     last_fill                              the fill of a record is that of its last block
--     certificate_at                         the certificate's length stands in the first block
--     bad_head, good_length, bad_parts, good_parts, whole_by     a run, test after test as the code makes them
--     starts_by                              a run, by the fields of its first block
-- Assumes nothing.
use mathlib.Core.Path.{◌≡◌, refl, sym, ap, ap₂, ◌∙◌}
use mathlib.Core.Bool.{Bool, true, false, not, ◌&&◌, ◌||◌, true≢false, false≢true}
use mathlib.Core.List.{List, [], ◌∷◌, ◌++◌, append-nil}
use Prim.Native.Nat.{ℕ, zero, suc, ◌+◌, ◌-◌, ◌*◌, ◌≤◌, ◌<◌}
use native.Mathlib.Nat.{not-suc-le-zero}
use native.Mathlib.Omega.{arith}
use lib.ListN.{length, get_or, drop, length-take, length-drop, get_or-append}
use lib.Seq.{drop-append-add, get_or-take, get_or-drop}
use lib.Dec.{eqb, leb}
use Rattle.reader.specs.Runs.{blocks, block_at, from, is_part, are_parts, data_from, is_whole, run, first_block, starts}
use Rattle.octets.specs.Numbers.{pair_at}
use Rattle.blocks.specs.Tests.{◌and◌}
use Rattle.blocks.specs.Block.{sound, record_number, record_length, part_of, is_clear, data_of}
use Rattle.blocks.specs.Record.{is_record_length, parts, are_zero, certificate_length}
use Rattle.blocks.proofs.Laws.Logic.{and_same, and_left, and_right, and_passed, and_not_left, fits}
use Rattle.blocks.proofs.Laws.Check.{sound_length}
use Rattle.reader.proofs.Laws.Steps.{part_sound}
use Rattle.reader.proofs.Laws.Places.{first_is_lem, from_cons, block_long, data_full, parts_step}

-- ---- sound blocks

pub block_whole : (d : List ℕ) (i : ℕ) → sound (block_at d i) ≡ true → 512 * i + 512 ≤ length d
block_whole d i s =
    let h = simp (length-take, length-drop) at (sound_length (block_at d i) s) in
    omega arith

-- the block j of those from i on
later_block : (d : List ℕ) (i j : ℕ) → get_or (from d i) j [] ≡ first_block (from d (i + j))
later_block d i j =
    let e : i + j ≡ i + j + 0 = omega arith in
    get_or-drop i (blocks d) j [] ∙ ap (λ (m : ℕ). get_or (blocks d) m []) e ∙ sym (get_or-drop (i + j) (blocks d) 0 [])

-- ---- one part, as the code joins its tests

four_tests : (p q r t : Bool) → (p and (q and (r and t))) ≡ (p && q && r && t)
unfolding ◌and◌
four_tests true true r t = sym (and_same r t)
four_tests true false r t = refl
four_tests false q r t = refl

pub part_by : (number n j : ℕ) (b : List ℕ) → sound b ≡ true
    → is_part number n j b ≡ (eqb (record_number b) number && eqb (record_length b) n && eqb (part_of b) j && is_clear b)
unfolding is_part
part_by number n j b s = and_passed _ s ∙ four_tests (eqb (record_number b) number) (eqb (record_length b) n) (eqb (part_of b) j) (is_clear b)

pub unsound_no_part : (number n j : ℕ) (b : List ℕ) → sound b ≡ false → is_part number n j b ≡ false
unfolding is_part
unsound_no_part number n j b s = and_not_left _ s

-- ---- the parts of a run, from j on of k: one more, or none left

pub parts_next : (number n j k : ℕ) (d : List ℕ) (i : ℕ) → j < k → 512 * (i + j) ≤ length d
    → are_parts number n j (k - j) (from d (i + j))
    ≡ (is_part number n j (block_at d (i + j)) and are_parts number n (j + 1) (k - (j + 1)) (from d (i + (j + 1))))
parts_next number n j k d i h l =
    let e₁ : k - j ≡ suc (k - (j + 1)) = omega arith in
    let e₂ : suc j ≡ j + 1 = omega arith in
    let e₃ : suc (i + j) ≡ i + (j + 1) = omega arith in
    ap (λ (m : ℕ). are_parts number n j m (from d (i + j))) e₁
    ∙ parts_step number n j (k - (j + 1)) d (i + j) l
    ∙ ap₂ (λ (a c : ℕ). is_part number n j (block_at d (i + j)) and are_parts number n a (k - (j + 1)) (from d c)) e₂ e₃

pub parts_done : (number n j k : ℕ) (bs : List (List ℕ)) → k ≤ j → are_parts number n j (k - j) bs ≡ true
parts_done number n j k bs h =
    let e : k - j ≡ 0 = omega arith in
    ap (λ (m : ℕ). are_parts number n j m bs) e

pub parts_within : (number n j k : ℕ) (d : List ℕ) (i : ℕ) → are_parts number n j k (from d i) ≡ true → 512 * i ≤ length d → 512 * (i + k) ≤ length d
parts_within number n j zero d i t h = omega arith
parts_within number n j (suc k) d i t h =
    let both : (is_part number n j (block_at d i) and are_parts number n (suc j) k (from d (suc i))) ≡ true = sym (parts_step number n j k d i h) ∙ t in
    let whole : 512 * i + 512 ≤ length d = block_whole d i (part_sound number n j (block_at d i) (and_left _ _ both)) in
    omega (arith, parts_within number n (suc j) k d (suc i) (and_right _ _ both) (omega arith))

-- ---- the data of a run

-- the data of the last part
data_last : (number n j k : ℕ) (bs : List (List ℕ)) → are_parts number n j (suc k) bs ≡ true → (m : ℕ)
    → drop (k * 502 + m) (data_from (suc k) bs) ≡ drop m (data_of (get_or bs k []))
data_last number n j k [] t m = absurd (false≢true t)
data_last number n j zero (b ∷ bs) t m =
    let e : 0 * 502 + m ≡ m = omega arith in
    ap₂ (λ (x : ℕ) (l : List ℕ). drop x l) e (append-nil (data_of b))
data_last number n j (suc k) (b ∷ bs) t m =
    let e : suc k * 502 + m ≡ length (data_of b) + (k * 502 + m) = omega (arith, data_full b (sound_length b (part_sound number n j b (and_left _ _ t)))) in
    ap (λ (x : ℕ). drop x (data_of b ++ data_from (suc k) bs)) e
    ∙ drop-append-add (data_of b) (data_from (suc k) bs) (k * 502 + m)
    ∙ data_last number n (suc j) k bs (and_right _ _ t) m

-- "last zero-filled": all of a record's fill stands in its last block
pub last_fill : (number n k : ℕ) (d : List ℕ) (i : ℕ) → are_parts number n 0 k (from d i) ≡ true → 512 * i ≤ length d → 0 < k → 502 * (k - 1) ≤ n
    → are_zero (drop n (data_from k (from d i))) ≡ are_zero (drop (n - 502 * (k - 1)) (data_of (block_at d (i + (k - 1)))))
last_fill number n k d i t h l m =
    let e : k ≡ suc (k - 1) = omega arith in
    let rest : n ≡ (k - 1) * 502 + (n - 502 * (k - 1)) = omega arith in
    let inside : 512 * (i + (k - 1)) < length d = omega (arith, parts_within number n 0 k d i t h) in
    ap₂ (λ (x y : ℕ). are_zero (drop x (data_from y (from d i)))) rest e
    ∙ ap are_zero (data_last number n 0 (k - 1) (from d i) (ap (λ (y : ℕ). are_parts number n 0 y (from d i)) (sym e) ∙ t) (n - 502 * (k - 1)))
    ∙ ap (λ (b : List ℕ). are_zero (drop (n - 502 * (k - 1)) (data_of b))) (later_block d i (k - 1) ∙ first_is_lem d (i + (k - 1)) inside)

-- octets 1 and 2 of a record stand at 9 and 10 of its first block
pub certificate_at : (k : ℕ) (d : List ℕ) (i : ℕ) → 0 < k → 512 * (i + k) ≤ length d
    → certificate_length (data_from k (from d i)) ≡ pair_at (block_at d i) 9
certificate_at zero d i l h = absurd (not-suc-le-zero l)
certificate_at (suc k) d i l h =
    rw (from_cons d i (omega arith), at 1 (omega arith), at 2 (omega arith))
  where
    long : length (data_of (block_at d i)) ≡ 502
    long = data_full (block_at d i) (block_long d i (omega arith))

    at : (x : ℕ) → x < 502 → get_or (data_of (block_at d i) ++ data_from k (from d (suc i))) x 0 ≡ get_or (block_at d i) (8 + x) 0
    at x s =
        get_or-append (data_of (block_at d i)) (data_from k (from d (suc i))) 0 x (omega (arith, long))
        ∙ get_or-take 502 (drop 8 (block_at d i)) x 0 s ∙ get_or-drop 8 (block_at d i) x 0

-- ---- runs

-- its first two tests, of the number and of the length, as the code joins them: one fails, or both pass
head_fails : (zero_number long rest : Bool) → (zero_number || not long) ≡ true → (not zero_number and (long and rest)) ≡ false
unfolding ◌and◌
head_fails true long rest t = refl
head_fails false true rest t = absurd (false≢true t)
head_fails false false rest t = refl

head_passes : (zero_number long rest : Bool) → (zero_number || not long) ≡ false → (not zero_number and (long and rest)) ≡ rest
unfolding ◌and◌
head_passes true long rest f = absurd (true≢false f)
head_passes false true rest f = refl
head_passes false false rest f = absurd (true≢false f)

length_passes : (zero_number long : Bool) → (zero_number || not long) ≡ false → long ≡ true
length_passes true long f = absurd (true≢false f)
length_passes false true f = refl
length_passes false false f = absurd (true≢false f)

module _ (number n : ℕ) (bs : List (List ℕ)) where
  pub bad_head : (eqb number 0 || not (is_record_length n)) ≡ true → run number n bs ≡ false
  unfolding run
  bad_head t = head_fails (eqb number 0) (is_record_length n) _ t

  module _ (f : (eqb number 0 || not (is_record_length n)) ≡ false) where
    pub good_length : (3 ≤ n) × (n ≤ 16387)
    good_length = fits 3 16387 n (length_passes (eqb number 0) (is_record_length n) f)

    pub bad_parts : are_parts number n 0 (parts n) bs ≡ false → run number n bs ≡ false
    unfolding run
    bad_parts p = head_passes (eqb number 0) (is_record_length n) _ f ∙ and_not_left _ p

    pub good_parts : are_parts number n 0 (parts n) bs ≡ true → run number n bs ≡ is_whole n (data_from (parts n) bs)
    unfolding run
    good_parts p = head_passes (eqb number 0) (is_record_length n) _ f ∙ and_passed _ p

-- the last test, as the code joins it: of the fill by the last block, of the certificate's length by the first
pub whole_by : (number n k : ℕ) (d : List ℕ) (i : ℕ) → are_parts number n 0 k (from d i) ≡ true → 512 * i ≤ length d → 0 < k → 502 * (k - 1) ≤ n
    → is_whole n (data_from k (from d i)) ≡ (are_zero (drop (n - 502 * (k - 1)) (data_of (block_at d (i + (k - 1))))) && leb (pair_at (block_at d i) 9) (n - 3))
unfolding is_whole
whole_by number n k d i t h l m =
    ap₂ ◌and◌ (last_fill number n k d i t h l m) (ap (λ (x : ℕ). leb x (n - 3)) (certificate_at k d i l (parts_within number n 0 k d i t h)))
    ∙ sym (and_same _ _)

-- whether a run starts at a block, by that block's fields
pub starts_by : (d : List ℕ) (i number n : ℕ) → 512 * i < length d → record_number (block_at d i) ≡ number → record_length (block_at d i) ≡ n
    → starts (from d i) ≡ run number n (from d i)
unfolding starts
starts_by d i number n h p q =
    ap₂ (λ (a c : ℕ). run a c (from d i)) (ap record_number (first_is_lem d i h) ∙ p) (ap record_length (first_is_lem d i h) ∙ q)

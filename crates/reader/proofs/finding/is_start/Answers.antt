-- `reader::finding::is_start` meets its contract: its tests are those of a run, by the fields of the first block and the fill of the last.
use mathlib.Core.Path.{◌≡◌, sym, ap, ap₂, ◌∙◌}
use mathlib.Core.Bool.{Bool, true, false, not, ◌&&◌, ◌||◌}
use mathlib.Core.List.{List, []}
use Prim.Native.Nat.{ℕ, ◌*◌, ◌-◌, ◌≤◌, ◌<◌}
use native.Mathlib.Omega.{arith}
use lib.Dec.{eqb, leb}
use lib.ListN.{length, drop}
use Rattle.reader.specs.Runs.{block_at, from, are_parts, data_from, is_whole, run, starts}
use Rattle.octets.specs.Numbers.{pair_at}
use Rattle.blocks.specs.Block.{record_number, record_length, data_of}
use Rattle.blocks.specs.Record.{is_record_length, parts, are_zero}
use Rattle.reader.proofs.Laws.Starts.{starts_by, bad_head, good_length, bad_parts, good_parts, whole_by}
use Rattle.reader.proofs.finding.is_start.Goals as goal

-- the fields are the first block's
by_fields : (deck : List ℕ) (position number n : ℕ) (block : List ℕ) → 512 * position < length deck → block ≡ block_at deck position
    → number ≡ record_number block → n ≡ record_length block → starts (from deck position) ≡ run number n (from deck position)
by_fields deck position number n block inside is p q =
    starts_by deck position number n inside (ap record_number (sym is) ∙ sym p) (ap record_length (sym is) ∙ sym q)

-- a number and a length, and whether a record may have that length
module _ (number n : ℕ) (is : Bool) (e : is ≡ is_record_length n) where
  tested : (t : Bool) → (eqb number 0 || not is) ≡ t → (eqb number 0 || not (is_record_length n)) ≡ t
  tested t f = rw (← e) f

  sized : (eqb number 0 || not is) ≡ false → (3 ≤ n) × (n ≤ 16387)
  sized f = good_length number n [] (tested false f)

  -- the parts that the length says
  counted : (eqb number 0 || not is) ≡ false → (k : ℕ) → k ≡ parts n → (0 < k) × (502 * (k - 1) ≤ n)
  counted f k m = let s = sized f in (omega (arith, m), omega (arith, m))

-- as many parts as the code counts are as many as the definition does
run_parts : (number n k : ℕ) (bs : List (List ℕ)) (r : Bool) → k ≡ parts n → are_parts number n 0 k bs ≡ r → are_parts number n 0 (parts n) bs ≡ r
run_parts number n k bs r m p = ap (λ (j : ℕ). are_parts number n 0 j bs) (sym m) ∙ p

pub returns-then-number-is_record_length : goal.returns-then-number-is_record_length
returns-then-number-is_record_length c =
    let deck : List ℕ = c.args.deck.now in
    let position : ℕ = c.args.position in
    sym (by_fields deck position _ _ _ c.requires c.block_at-block.ensures c.record_number-number.ensures.0 c.record_length-n.ensures.0
    ∙ bad_head _ _ (from deck position) (tested _ _ _ c.is_record_length.ensures true c.if-number-is_record_length.true))

pub returns-then-not-are_parts : goal.returns-then-not-are_parts
returns-then-not-are_parts c =
    let deck : List ℕ = c.args.deck.now in
    let position : ℕ = c.args.position in
    sym (by_fields deck position _ _ _ c.requires c.block_at-block.ensures c.record_number-number.ensures.0 c.record_length-n.ensures.0
    ∙ bad_parts _ _ (from deck position) (tested _ _ _ c.is_record_length.ensures false c.if-number-is_record_length.false)
    (run_parts _ _ _ _ false c.parts_of-k.ensures (sym c.are_parts.ensures ∙ c.if-not-are_parts.true)))

pub overflow_sub-k : goal.overflow_sub-k
overflow_sub-k c = (counted _ _ _ c.is_record_length.ensures c.if-number-is_record_length.false _ c.parts_of-k.ensures).0

pub overflow_sub-k-2 : goal.overflow_sub-k-2
overflow_sub-k-2 c = (counted _ _ _ c.is_record_length.ensures c.if-number-is_record_length.false _ c.parts_of-k.ensures).0

pub overflow_sub-result : goal.overflow_sub-result
overflow_sub-result c = (sized _ _ _ c.is_record_length.ensures c.if-number-is_record_length.false).0

pub returns : goal.returns
returns c =
    let deck : List ℕ = c.args.deck.now in
    let position : ℕ = c.args.position in
    let n : ℕ = c.record_length-n.result in
    let k : ℕ = c.parts_of-k.result in
    let bs : List (List ℕ) = from deck position in
    let some = counted _ _ _ c.is_record_length.ensures c.if-number-is_record_length.false _ c.parts_of-k.ensures in
    let parts_there = sym c.are_parts.ensures ∙ c.if-not-are_parts.false in
    sym (by_fields deck position _ _ _ c.requires c.block_at-block.ensures c.record_number-number.ensures.0 c.record_length-n.ensures.0
    ∙ good_parts _ _ bs (tested _ _ _ c.is_record_length.ensures false c.if-number-is_record_length.false)
    (run_parts _ _ _ _ true c.parts_of-k.ensures parts_there)
    ∙ ap (λ (m : ℕ). is_whole n (data_from m bs)) (sym c.parts_of-k.ensures)
    ∙ whole_by _ n k deck position parts_there (omega arith) some.0 some.1
    ∙ ap₂ ◌&&◌
    (ap (λ (b : List ℕ). are_zero (drop (n - 502 * (k - 1)) (data_of b))) (sym c.block_at-last.ensures) ∙ sym c.is_filled.ensures)
    (ap (λ (m : ℕ). leb m (n - 3)) (ap (λ (b : List ℕ). pair_at b 9) (sym c.block_at-block.ensures) ∙ sym c.pair.ensures.0)))

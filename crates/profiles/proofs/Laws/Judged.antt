-- The code's bits say what the table of rules and profiles says.
--     bits_right     a profile's bit, whatever the rule
-- Assumes nothing.
use mathlib.Core.Path.{◌≡◌, refl, sym, ap, ◌∙◌}
use mathlib.Core.List.{List, [], ◌∷◌}
use mathlib.Core.Bool.{Bool, true, false, ◌&&◌}
use Prim.Native.Nat.{ℕ, ◌/◌, ◌%◌, ◌^◌, ◌≤◌}
use native.Mathlib.Nat.{zero-div}
use native.Mathlib.Omega.{arith}
use lib.Dec.{ltb, eqb}
use borrow.Author.Tests.{ne_eqb, ltb-true, ltb-false}
use Rattle.octets.specs.Octets.{is_one_of}
use Rattle.octets.proofs.Laws.Finite.{all_below, all_below_lem, same, same_true}
use Rattle.octets.proofs.Laws.Tests.{and_l, and_r}
use Rattle.profiles.specs.Judged.{rule_table, rule_limit, row_of, judged_in, judged_by, judges}
use Rattle.profiles.specs.Workings.Bits.{of_hundred, judged_bits}
use Rattle.profiles.specs.declared.fields.Profile.{Profile}
use Rattle.profiles.specs.declared.fields.Profile.TheVariants.{Domain, Organization, Responder, Subordinate}
use Rattle.profiles.specs.declared.levels.Level.{Level}
use Rattle.profiles.specs.declared.levels.Level.TheVariants.{Must}

-- bit k is set
abbrev bit_in : ℕ → ℕ → Bool
bit_in bits k = eqb (bits / 2 ^ k % 2) 1

-- as the code asks
held_by : Profile → ℕ → Bool
held_by p rule = bit_in (judged_bits p (rule / 100)) (rule % 100)

-- ---- below 500, by one computed test for each profile

agrees : Profile → ℕ → Bool
agrees p rule = same (held_by p rule) (judges p rule)

all_agree : (p : Profile) → all_below (agrees p) 500 ≡ true
unfolding all_below agrees held_by same judged_by judged_in row_of is_one_of
all_agree Domain = refl
all_agree Organization = refl
all_agree Responder = refl
all_agree Subordinate = refl

-- ---- from 500 on there is no rule, and no bit

all_rules : (ℕ × Level × List ℕ → Bool) → List (ℕ × Level × List ℕ) → Bool
all_rules test [] = true
all_rules test (row ∷ rows) = test row && all_rules test rows

row_past : (rows : List (ℕ × Level × List ℕ)) (limit rule : ℕ) → all_rules (λ row. ltb row.0 limit) rows ≡ true → limit ≤ rule
    → row_of rows rule ≡ (Must, [])
unfolding all_rules row_of
row_past [] limit rule e l = refl
row_past (row ∷ rows) limit rule e l =
    let below = ltb-true row.0 limit (and_l (ltb row.0 limit) (all_rules (λ row. ltb row.0 limit) rows) e) in
    let rest = row_past rows limit rule (and_r (ltb row.0 limit) (all_rules (λ row. ltb row.0 limit) rows) e) l in
    rw (ne_eqb rule row.0 (λ q. omega arith)) rest

all_said : all_rules (λ row. ltb row.0 rule_limit) rule_table ≡ true
unfolding all_rules
all_said = refl

no_rule : (p : Profile) (rule : ℕ) → 500 ≤ rule → judges p rule ≡ false
unfolding judged_in judged_by is_one_of
no_rule p rule l = ap (λ (row : Level × List ℕ). judged_by p row.1) (row_past rule_table rule_limit rule all_said (omega (arith, l)))

no_hundred : (hundred a b c d : ℕ) → 5 ≤ hundred → of_hundred hundred a b c d ≡ 0
no_hundred hundred a b c d l =
    rw (
      ne_eqb hundred 1 (λ q. omega (arith, l, q)),
      ne_eqb hundred 2 (λ q. omega (arith, l, q)),
      ne_eqb hundred 3 (λ q. omega (arith, l, q)),
      ne_eqb hundred 4 (λ q. omega (arith, l, q)),
    )

no_bits : (p : Profile) (hundred : ℕ) → 5 ≤ hundred → judged_bits p hundred ≡ 0
no_bits Domain hundred l = no_hundred hundred _ _ _ _ l
no_bits Organization hundred l = no_hundred hundred _ _ _ _ l
no_bits Responder hundred l = no_hundred hundred _ _ _ _ l
no_bits Subordinate hundred l = no_hundred hundred _ _ _ _ l

no_bit : (k : ℕ) → bit_in 0 k ≡ false
no_bit k = rw (zero-div (2 ^ k))

pub bits_right : (p : Profile) (rule : ℕ) → eqb (judged_bits p (rule / 100) / 2 ^ (rule % 100) % 2) 1 ≡ judges p rule
unfolding agrees held_by
bits_right p rule = go (ltb rule 500) refl
  where
    go : (b : Bool) → ltb rule 500 ≡ b → bit_in (judged_bits p (rule / 100)) (rule % 100) ≡ judges p rule
    go true e = same_true (held_by p rule) (judges p rule) (all_below_lem (agrees p) 500 rule (all_agree p) (ltb-true rule 500 e))
    go false e =
        let l = ltb-false rule 500 e in
        (λ i. bit_in (no_bits p (rule / 100) (omega (arith, l)) i) (rule % 100)) ∙ (no_bit (rule % 100) ∙ sym (no_rule p rule l))

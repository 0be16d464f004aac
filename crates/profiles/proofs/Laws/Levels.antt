-- The levels of rules.
--     should_rules      the rules of the table that say "should"
--     must_else        every other number says "must"
--     level_small      two octets hold a level's number
-- Assumes nothing.
use mathlib.Core.Path.{◌≡◌, refl, sym, ap, ◌∙◌}
use mathlib.Core.List.{List, [], ◌∷◌}
use mathlib.Core.Bool.{Bool, true, false, cond, ◌||◌, true≢false}
use Prim.Native.Nat.{ℕ, ◌<◌}
use native.Mathlib.Omega.{arith}
use lib.Dec.{eqb}
use borrow.Author.Tests.{ne_eqb, eqb-false}
use Rattle.octets.specs.Octets.{is_one_of}
use Rattle.profiles.specs.Judged.{rule_table, row_of, level_of}
use Rattle.profiles.specs.Levels.{level_number}
use Rattle.profiles.specs.declared.levels.Level.{Level}
use Rattle.profiles.specs.declared.levels.Level.TheVariants.{Must, Should}

-- a rule before others, if it says "should"
if_should : Level → ℕ → List ℕ → List ℕ
if_should Must rule others = others
if_should Should rule others = rule ∷ others

-- the rules that say "should", by the rows of a table
should_in : List (ℕ × Level × List ℕ) → List ℕ
should_in [] = []
should_in (row ∷ rows) = if_should row.1 row.0 (should_in rows)

-- of a row before others, the number being none of those that say "should": the row says "must", or is another number's
row_else : (l : Level) (row rule : ℕ) (others : List ℕ) (m : Level) → is_one_of rule (if_should l row others) ≡ false
    → (is_one_of rule others ≡ false → m ≡ Must) → cond (eqb rule row) l m ≡ Must
unfolding if_should is_one_of
row_else Must row rule others m e f = go (eqb rule row)
  where
    go : (b : Bool) → cond b Must m ≡ Must
    go true = refl
    go false = f e
row_else Should row rule others m e f = go (eqb row rule) refl e
  where
    go : (b : Bool) → eqb row rule ≡ b → (b || is_one_of rule others) ≡ false → cond (eqb rule row) Should m ≡ Must
    go true t k = absurd (true≢false k)
    go false t k = rw (ne_eqb rule row (λ same. eqb-false row rule t (sym same))) (f k)

level_else : (rows : List (ℕ × Level × List ℕ)) (rule : ℕ) → is_one_of rule (should_in rows) ≡ false → (row_of rows rule).0 ≡ Must
unfolding should_in row_of
level_else [] rule e = refl
level_else (row ∷ rows) rule e =
    first (eqb rule row.0) ∙ row_else row.1 row.0 rule (should_in rows) (row_of rows rule).0 e (level_else rows rule)
  where
    first : (b : Bool) → (cond b (row.1, row.2) (row_of rows rule)).0 ≡ cond b row.1 (row_of rows rule).0
    first true = refl
    first false = refl

-- of document 01's rules and document 02's so far
abbrev pub should_rules : List ℕ
should_rules = []

table_says : should_in rule_table ≡ should_rules
unfolding if_should should_in
table_says = refl

pub must_else : (rule : ℕ) → is_one_of rule should_rules ≡ false → Must ≡ level_of rule
unfolding level_of
must_else rule e = sym (level_else rule_table rule (ap (is_one_of rule) table_says ∙ e))

pub level_small : (l : Level) → level_number l < 65536
level_small Must = omega arith
level_small Should = omega arith

-- The side that a text names, by the tests that are made of all its octets. Assumes nothing.
use mathlib.Core.Path.{◌≡◌, ◌∙◌}
use mathlib.Core.List.{List}
use mathlib.Core.Bool.{Bool, true, false}
use Prim.Native.Nat.{ℕ}
use native.Mathlib.Omega.{arith}
use Rattle.std.specs.Prelude.{Some, None}
use lib.ListN.{length}
use lib.Seq.{take_all}
use Rattle.octets.specs.Octets.{octets_from}
use Rattle.octets.specs.Same.{same_by, exactly}
use Rattle.octets.proofs.Laws.Octets.{octets_inside}
use Rattle.texts.specs.Texts.{word}
use Rattle.lint.specs.declared.reasons.Side.TheVariants.{Certificate, Issuer}
use Rattle.deckget.specs.Sides.{side_named}

module _ (text : List ℕ) where
  abbrev pub is : List ℕ → Bool
  is name = same_by exactly (octets_from text 0 (length text)) name

  whole : (name : List ℕ) (b : Bool) → is name ≡ b → same_by exactly text name ≡ b
  whole name b e =
      let all : octets_from text 0 (length text) ≡ text = octets_inside text 0 (length text) (omega arith) ∙ take_all (length text) text (omega arith) in
      rw all at e

  pub names_certificate : is (word "certificate") ≡ true → Some Certificate ≡ side_named text
  unfolding side_named
  names_certificate e = rw (whole _ _ e)

  pub names_issuer : is (word "certificate") ≡ false → is (word "issuer") ≡ true → Some Issuer ≡ side_named text
  unfolding side_named
  names_issuer n e = rw (whole _ _ n, whole _ _ e)

  pub names_neither : is (word "certificate") ≡ false → is (word "issuer") ≡ false → None ≡ side_named text
  unfolding side_named
  names_neither n e = rw (whole _ _ n, whole _ _ e)

-- The side of a record that an argument names.
use Rattle.std.specs.Prelude.{cond, List, ℕ, Option, Some, None}
use Rattle.octets.specs.Same.{same_by, exactly}
use Rattle.texts.specs.Texts.{word}
use Rattle.lint.specs.declared.reasons.Side.TheVariants.{Certificate, Issuer}
use Rattle.lint.specs.declared.reasons.Side.{Side}

unfoldable pub side_named : List ℕ → Option Side
side_named text =
    cond (same_by exactly text (word "certificate")) (Some Certificate) (cond (same_by exactly text (word "issuer")) (Some Issuer) None)

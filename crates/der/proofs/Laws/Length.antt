-- Lengths of one octet and of two behind the first.
--     length_one, length_two      the length that they say
-- Assumes nothing.
use mathlib.Core.Path.{◌≡◌, ap, ◌∙◌}
use mathlib.Core.List.{List}
use Prim.Native.Nat.{ℕ, ◌+◌, ◌*◌, ◌<◌, min}
use native.Mathlib.Omega.{arith}
use Rattle.der.specs.Header.{length_by}
use Rattle.octets.specs.Octets.{octet_at, octets_from}
use Rattle.octets.specs.Numbers.{number_from, largest}

module _ (s : List ℕ) (at first : ℕ) where
  pub length_one : (a : ℕ) → first ≡ 129 → a ≡ octet_at s (at + 2) → a < 256 → a ≡ min (length_by s at first) largest
  unfolding octets_from number_from
  length_one a f e l = rw (f, ← e) (omega arith)

  pub length_two : (a b : ℕ) → first ≡ 130 → a ≡ octet_at s (at + 2) → b ≡ octet_at s (at + 3) → a < 256 → b < 256
      → 256 * a + b ≡ min (length_by s at first) largest
  unfolding octets_from number_from
  length_two a b f e g l m =
      let next : at + 3 ≡ at + 2 + 1 = omega arith in
      let low : b ≡ octet_at s (at + 2 + 1) = g ∙ ap (λ (i : ℕ). octet_at s i) next in
      rw (f, ← e, ← low) (omega arith)

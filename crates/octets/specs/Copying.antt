-- Octets copied from one list into another.
use Rattle.std.specs.Prelude.{List, cond, ◌&&◌, ℕ, ◌+◌, leb, length, drop}
use Rattle.std.proofs.Math.Seq.{paste}

-- `out` with the n octets of s from place `from` on instead of its own from place `at` on; as it was if either has fewer
unfoldable pub copied : List ℕ → ℕ → ℕ → List ℕ → ℕ → List ℕ
copied s from n out at = cond (leb (from + n) (length s) && leb (at + n) (length out)) (paste out at (drop from s) n) out

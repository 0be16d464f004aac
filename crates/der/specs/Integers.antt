-- The number that the contents of an INTEGER or ENUMERATED stand for (X.690, 8.3.3): two's complement, the high octet first.
use Rattle.std.specs.Prelude.{List, [], ◌∷◌, cond, ℕ, ◌^◌, length, ltb, ℤ, pos}
use Rattle.std.proofs.Math.IntN.{sub_ℕ}
use Rattle.octets.specs.Numbers.{number_of}

-- where the first bit is set, 2 ^ (8 n) less is meant. (No INTEGER is empty.)
unfoldable pub integer_of : List ℕ → ℤ
integer_of [] = pos 0
integer_of (b ∷ bs) = cond (ltb b 128) (pos (number_of (b ∷ bs))) (sub_ℕ (number_of (b ∷ bs)) (256 ^ length (b ∷ bs)))

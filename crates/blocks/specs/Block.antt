-- "Block: octets 0–3 record number, 4–5 record length N, 6 part, 7 zero, 8–509 data, 510–511 check; high octet first" (document 01, "The deck").
use Rattle.std.specs.Prelude.{Bool, List, [], ◌∷◌, ◌++◌, ℕ, suc, ◌+◌, ◌*◌, ◌%◌, eqb, length, take, drop}
use Rattle.blocks.specs.Tests.{◌and◌}
use Rattle.octets.specs.Octets.{octet_at}
use Rattle.octets.specs.Numbers.{pair_at, pair_of, quad_at, quad_of}

-- ---- the fields

abbrev pub record_number : List ℕ → ℕ
record_number b = quad_at b 0

abbrev pub record_length : List ℕ → ℕ
record_length b = pair_at b 4

abbrev pub part_of : List ℕ → ℕ
part_of b = octet_at b 6

-- "7 zero"
abbrev pub is_clear : List ℕ → Bool
is_clear b = eqb (octet_at b 7) 0

abbrev pub data_of : List ℕ → List ℕ
data_of b = take 502 (drop 8 b)

-- ---- the check

-- w times the first octet, w + 1 times the second, and so on, added up
abbrev pub weigh : ℕ → List ℕ → ℕ
weigh w [] = 0
weigh w (x ∷ xs) = w * x + weigh (suc w) xs

-- "1 plus the sum of (i+1) times octet i, i from 0 to 509, modulo the prime 65,521", of the octets before the check
unfoldable pub check_of : List ℕ → ℕ
check_of body = (1 + weigh 1 body) % 65521

-- 512 octets of which the last two are the check of those before
unfoldable pub sound : List ℕ → Bool
sound b = eqb (length b) 512 and eqb (check_of (take 510 b)) (pair_at b 510)

-- ---- a block put together

-- the octets before the check
abbrev pub body_of : ℕ → ℕ → ℕ → List ℕ → List ℕ
body_of number n part content = quad_of number ++ (pair_of n ++ (part ∷ 0 ∷ content))

-- the block of this part, with 502 octets of data, of record `number` whose length is n
unfoldable pub block_of : ℕ → ℕ → ℕ → List ℕ → List ℕ
block_of number n part content = body_of number n part content ++ pair_of (check_of (body_of number n part content))

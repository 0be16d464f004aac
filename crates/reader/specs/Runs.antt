-- "A record is handed out at a block exactly when it starts a run of consecutive sound blocks, parts 0 to the last, one number (not 0) and one N of 3
-- to 16,387, octet 7 and fill zero, certificate length at most N−3" (document 01, "The deck").
use Rattle.std.specs.Prelude.{Bool, true, false, not, List, [], ◌∷◌, ◌++◌, ℕ, zero, suc, ◌+◌, ◌-◌, ◌*◌, ◌/◌, eqb, leb, length, get_or, take, drop}
use Rattle.blocks.specs.Tests.{◌and◌}
use Rattle.blocks.specs.Block.{sound, record_number, record_length, part_of, is_clear, data_of}
use Rattle.blocks.specs.Record.{is_record_length, parts, are_zero, certificate_length}

-- ---- the blocks of a deck, the last perhaps short

-- n blocks of 512 octets
abbrev pub cut : ℕ → List ℕ → List (List ℕ)
cut zero deck = []
cut (suc n) deck = take 512 deck ∷ cut n (drop 512 deck)

unfoldable pub blocks : List ℕ → List (List ℕ)
blocks deck = cut ((length deck + 511) / 512) deck

-- those from a position on
abbrev pub from : List ℕ → ℕ → List (List ℕ)
from deck position = drop position (blocks deck)

-- the block at a position, empty past the end
abbrev pub block_at : List ℕ → ℕ → List ℕ
block_at deck position = take 512 (drop (512 * position) deck)

abbrev pub first_block : List (List ℕ) → List ℕ
first_block bs = get_or bs 0 []

-- ---- runs

-- the block is sound, and part j of record `number` whose length is n
unfoldable pub is_part : ℕ → ℕ → ℕ → List ℕ → Bool
is_part number n j b = sound b and (eqb (record_number b) number and (eqb (record_length b) n and (eqb (part_of b) j and is_clear b)))

-- the first k blocks are its parts from j on
abbrev pub are_parts : ℕ → ℕ → ℕ → ℕ → List (List ℕ) → Bool
are_parts number n j zero bs = true
are_parts number n j (suc k) [] = false
are_parts number n j (suc k) (b ∷ bs) = is_part number n j b and are_parts number n (suc j) k bs

-- the data of the first k blocks
abbrev pub data_from : ℕ → List (List ℕ) → List ℕ
data_from zero bs = []
data_from (suc k) [] = []
data_from (suc k) (b ∷ bs) = data_of b ++ data_from k bs

-- of the data of a record of n octets: "fill zero, certificate length at most N−3"
unfoldable pub is_whole : ℕ → List ℕ → Bool
is_whole n content = are_zero (drop n content) and leb (certificate_length content) (n - 3)

-- the blocks begin with a run, that of record `number` whose length is n
unfoldable pub run : ℕ → ℕ → List (List ℕ) → Bool
run number n bs =
    not (eqb number 0) and (is_record_length n and (are_parts number n 0 (parts n) bs and is_whole n (data_from (parts n) bs)))

-- a run starts at the first of the blocks, whose fields say which
unfoldable pub starts : List (List ℕ) → Bool
starts bs = run (record_number (first_block bs)) (record_length (first_block bs)) bs

-- the octets of the record whose run it is
unfoldable pub record_from : List (List ℕ) → List ℕ
record_from bs = take (record_length (first_block bs)) (data_from (parts (record_length (first_block bs))) bs)

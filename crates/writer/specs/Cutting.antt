-- "Parts from 0, 502 octets each, last zero-filled" (document 01, "The deck").
use Rattle.std.specs.Prelude.{List, [], ◌∷◌, ◌++◌, ℕ, zero, suc, ◌-◌, ◌*◌, length, take, drop, replicate}
use Rattle.blocks.specs.Block.{block_of}
use Rattle.blocks.specs.Record.{parts}

-- the record's octets, and zeros to the end of its last part
unfoldable pub zero_filled : List ℕ → List ℕ
zero_filled p = p ++ replicate (parts (length p) * 502 - length p) 0

-- k blocks from part j on, each with the next 502 octets of the data
abbrev pub blocks_from : ℕ → ℕ → ℕ → ℕ → List ℕ → List (List ℕ)
blocks_from number n j zero content = []
blocks_from number n j (suc k) content = block_of number n j (take 502 content) ∷ blocks_from number n (suc j) k (drop 502 content)

-- the blocks of record `number` whose octets are p
unfoldable pub blocks_of : ℕ → List ℕ → List (List ℕ)
blocks_of number p = blocks_from number (length p) 0 (parts (length p)) (zero_filled p)

-- blocks one behind the other
abbrev pub end_to_end : List (List ℕ) → List ℕ
end_to_end [] = []
end_to_end (b ∷ bs) = b ++ end_to_end bs

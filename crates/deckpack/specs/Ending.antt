-- How a deck ends, of whose octets every 512 are a block (document 01, "The deck").
use Rattle.std.specs.Prelude.{cond, ℕ, ◌%◌, eqb, ℤ, pos, negsuc}
use Rattle.deckpack.specs.declared.appending.Ending.{Ending}
use Rattle.deckpack.specs.declared.appending.Ending.TheVariants.{Whole, Torn, Unknown}

-- how many octets stand behind the last whole block of a deck of so many
abbrev pub torn_octets : ℕ → ℕ
torn_octets n = n % 512

-- by the length that the system gives, which is none where it is negative
abbrev pub ending_of : ℤ → Ending
ending_of (pos n) = cond (eqb (torn_octets n) 0) (Whole n) (Torn (torn_octets n))
ending_of (negsuc k) = Unknown

-- What is read of a file or an argument. No contract can say which octets a call of the system brings.
use Rattle.std.specs.Prelude.{List, ◌≡◌, ℕ, Option, Some, take, IfSome}
use Rattle.texts.specs.Numerals.{decimal_of}

-- a number is what an argument says, which stands at the front of the space
abbrev pub SaysNumber : List ℕ → Option ℕ → Type 0
SaysNumber space result = IfSome result (λ number. (n : ℕ) × (decimal_of (take n space) ≡ Some number))

-- What the program knows of the sides that it wrote. No contract can say which octets a call of the system takes.
-- How the code goes about it: named by contracts of functions that no other crate can call, and by nothing else of `specs/`.
use Rattle.std.specs.Prelude.{List, ◌≡◌, ℕ, length, Option, IfSome}

-- it counts all of them
abbrev pub WroteAll : List (List ℕ) → Option ℕ → Type 0
WroteAll sides count = IfSome count (λ n. n ≡ length sides)

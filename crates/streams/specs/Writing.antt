-- What a program knows of octets that it wrote. No contract can say which octets a call of the system takes.
use Rattle.std.specs.Prelude.{Bool, true, ◌≡◌, ℕ}

-- whether n octets could be written: where there are none, nothing fails
abbrev pub Delivered : ℕ → Bool → Type 0
Delivered n could = n ≡ 0 → could ≡ true

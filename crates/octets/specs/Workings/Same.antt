-- What a test of two octets answers, that a function which compares stretches is handed.
-- How the code goes about it: named by contracts of functions that no other crate can call, and by nothing else of `specs/`.
use Rattle.std.specs.Prelude.{◌≡◌, Bool, ℕ, ◌<◌}

-- it answers as `passes` does: `gives` says which answers it may give
abbrev pub ComputesOfTwo : (ℕ → ℕ → Bool → Type 0) → (ℕ → ℕ → Bool) → Type 0
ComputesOfTwo gives passes = (x y : ℕ) (answer : Bool) → x < 256 → y < 256 → gives x y answer → answer ≡ passes x y

-- Worked examples of the definitions, by computation. Assumes nothing.
use mathlib.Core.Path.{◌≡◌, refl}
use mathlib.Core.List.{List, [], ◌∷◌, ◌++◌, map}
use mathlib.Core.Bool.{true, false}
use Prim.Native.Nat.{ℕ, zero, suc}
use Prim.Native.Char.{code}
use Rattle.hosts.specs.Hosts.{label_octets, labels_from, labels_ok, is_host_name}
use Rattle.texts.specs.Texts.{word}

abbrev exes : ℕ → List ℕ
exes zero = []
exes (suc n) = code "x" ∷ exes n

-- names that are host names: case, digits, hyphens and underscores inside; a label of 63 octets; 253 octets in all
abbrev hosts : List (List ℕ)
hosts =
    word "a.b"
    ∷ word "WWW.Example.7"
    ∷ word "a-b.c_d"
    ∷ word "_a.b_"
    ∷ (exes 63 ++ word ".a")
    ∷ (exes 63 ++ (code "." ∷ (exes 63 ++ (code "." ∷ (exes 63 ++ (code "." ∷ exes 61))))))
    ∷ []

-- names that are none: one label; an empty one, also by a dot at the end; a hyphen at an end; other octets; a label of 64; 254 octets in all
abbrev others : List (List ℕ)
others =
    word ""
    ∷ word "a"
    ∷ word "a.b."
    ∷ word ".a.b"
    ∷ word "a..b"
    ∷ word "-a.b"
    ∷ word "a.b-"
    ∷ word "a b.c"
    ∷ word "*.a.b"
    ∷ (exes 64 ++ word ".a")
    ∷ (exes 63 ++ (code "." ∷ (exes 63 ++ (code "." ∷ (exes 63 ++ (code "." ∷ exes 62))))))
    ∷ []

pub plain : map (λ (name : List ℕ). is_host_name name) hosts ≡ map (λ (name : List ℕ). true) hosts
unfolding word label_octets labels_from labels_ok
plain = refl

pub neither : map (λ (name : List ℕ). is_host_name name) others ≡ map (λ (name : List ℕ). false) others
unfolding word label_octets labels_from labels_ok
neither = refl

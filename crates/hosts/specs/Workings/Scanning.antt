-- A host name's labels judged in one pass: of the label so far only its size and its last octet are kept.
-- How the code goes about it: named by contracts of functions that no other crate can call, and by nothing else of `specs/`.
use Rattle.std.specs.Prelude.{Bool, cond, not, ◌&&◌, ℕ, ◌+◌, ltb, eqb}
use Prim.Native.Char.{code}
use Rattle.hosts.specs.Hosts.{label_octet}

-- whether a label of this size, whose last octet is this one, may end
abbrev pub may_end : ℕ → ℕ → Bool
may_end size last = not (eqb size 0) && not (eqb last (code "-"))

-- whether a label of this size may go on with the octet b
abbrev pub may_grow : ℕ → ℕ → Bool
may_grow size b = label_octet b && (not (eqb size 0 && eqb b (code "-")) && ltb size 63)

-- whether b may follow: a dot ends the label, any other octet goes on with it
abbrev pub may_follow : ℕ → ℕ → ℕ → Bool
may_follow size last b = cond (eqb b (code ".")) (may_end size last) (may_grow size b)

abbrev pub size_after : ℕ → ℕ → ℕ
size_after size b = cond (eqb b (code ".")) 0 (size + 1)

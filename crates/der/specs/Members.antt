-- Members of an element by their order. A member that is missing is a head that is not sound and has no contents.
use Rattle.std.specs.Prelude.{List, cond, ℕ, eqb}
use Rattle.der.specs.Header.{head_of, broken_head, children_of}
use Rattle.der.specs.declared.header.Head.{Head}

-- no element, in a container that ends at end
abbrev pub missing : ℕ → Head
missing end = broken_head end end

-- the members of an element
abbrev pub members_in : List ℕ → Head → List Head
members_in s h = children_of s h.body h.end

-- the first of them
abbrev pub first_in : List ℕ → Head → Head
first_in s h = head_of s h.body h.end

-- the member after h in an element that ends at end
abbrev pub after : List ℕ → Head → ℕ → Head
after s h end = head_of s h.end end

-- the second of them
abbrev pub second_in : List ℕ → Head → Head
second_in s h = after s (first_in s h) h.end

-- the member that stands at h or, where h is an optional field with this tag, after it
unfoldable pub past : ℕ → List ℕ → Head → ℕ → Head
past tag s h end = cond (eqb h.tag tag) (after s h end) h

-- the first member of h, if h has this tag
unfoldable pub inside_tag : ℕ → List ℕ → Head → ℕ → Head
inside_tag tag s h end = cond (eqb h.tag tag) (first_in s h) (missing end)

-- The entries of "each" and of "one X" in one loop.
-- How the code goes about it: named by contracts of functions that no other crate can call, and by nothing else of `specs/`.
use Rattle.std.specs.Prelude.{List, map, Bool, ◌&&◌, ℕ, leb}
use Rattle.report.specs.declared.sink.Entry.{Entry}
use Rattle.report.specs.Entries.{entry_at}
use Rattle.report.specs.Forms.{filter, ones_of}
use Rattle.der.specs.declared.header.Head.{Head}

-- the entries of "each" at the items that the test picks, and of "one X"
unfoldable pub each : ℕ → (Head → Bool) → List Head → List Entry
each rule bad hs = map (entry_at rule) (filter bad hs)

unfoldable pub one : ℕ → (Head → Bool) → Head → List Head → List Entry
one rule is_x name hs = map (entry_at rule) (ones_of name (filter is_x hs))

-- an X that starts at a place or behind it: with the first X, "one X" is a rule of the form "each"
abbrev pub is_behind : (Head → Bool) → ℕ → Head → Bool
is_behind is_x place h = is_x h && leb place h.at

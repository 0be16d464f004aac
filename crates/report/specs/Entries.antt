-- "An entry is rule, start, whole length of the element (header included), each two octets, high first" (document 01, "The report"). "Every entry gets a fourth
-- pair of octets: 1 for must, 2 for should .. Entries are 8 octets" (document 02, CR 3).
use Rattle.std.specs.Prelude.{List, [], ◌∷◌, ◌++◌, Bool, true, false, ℕ, zero, suc, ◌+◌, ◌*◌, drop}
use Rattle.report.specs.declared.sink.Entry.{Entry}
use Rattle.octets.specs.Places.{place_from}
use Rattle.octets.specs.Numbers.{pair_at, pair_of}
use Rattle.der.specs.declared.header.Head.{Head}
use Rattle.profiles.specs.Judged.{level_of}
use Rattle.profiles.specs.Levels.{level_number}

-- the octets of an entry
abbrev pub width : ℕ
width = 8

abbrev pub entry_octets : Entry → List ℕ
entry_octets e = pair_of e.rule ++ pair_of e.place.start ++ pair_of e.place.len ++ pair_of e.level

-- the octets of the entries, one behind the other
unfoldable pub report_octets : List Entry → List ℕ
report_octets [] = []
report_octets (e ∷ es) = entry_octets e ++ report_octets es

-- entry k that octets say, from 0
unfoldable pub entry_of : List ℕ → ℕ → Entry
entry_of s k =
    let at : ℕ = width * k in
    record { rule = pair_at s at; place = record { start = pair_at s (at + 2); len = pair_at s (at + 4) }; level = pair_at s (at + 6) }

-- the first n entries that octets say
unfoldable pub decode : ℕ → List ℕ → List Entry
decode zero s = []
decode (suc n) s = entry_of s 0 ∷ decode n (drop width s)

-- the entry of a rule at an element: its level is the rule's
abbrev pub entry_at : ℕ → Head → Entry
entry_at rule h = record { rule = rule; place = place_from h.at h.end; level = level_number (level_of rule) }

-- a rule that judges one element: its entry where that is bad, or none
unfoldable pub noted : ℕ → Bool → Head → List Entry
noted rule true h = entry_at rule h ∷ []
noted rule false h = []

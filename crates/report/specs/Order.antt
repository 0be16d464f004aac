-- "Entries rise by rule, then start; no two are equal" (document 01, "The report"), every entry is in the certificate, and has its rule's level.
use mathlib.Core.List.{List, [], ◌∷◌, Memᴰ}
use Rattle.std.specs.Prelude.{◌⊎◌, ◌≡◌, ℕ, ◌+◌, ◌≤◌, ◌<◌}
use Rattle.report.specs.declared.sink.Entry.{Entry}
use Rattle.profiles.specs.Judged.{level_of}
use Rattle.profiles.specs.Levels.{level_number}

-- x is one of the list
abbrev pub In : {A : Type 0} → A → List A → Type 0
In x xs = Memᴰ x xs

-- by rule, then start
abbrev pub Before : Entry → Entry → Type 0
Before e f = (e.rule < f.rule) ⊎ ((e.rule ≡ f.rule) × (e.place.start < f.place.start))

-- each entry comes before all that are behind it
pub data RisingEntries : List Entry → Type 0 where
  no_entries : RisingEntries []
  more_entries : {e : Entry} {es : List Entry} → ((f : Entry) → In f es → Before e f) → RisingEntries es → RisingEntries (e ∷ es)

-- the entries of the rules from `from` on and below `to`, in order
pub record Ordered (from to : ℕ) (es : List Entry) : Type 0 where
  pub span : from ≤ to
  pub rules : (e : Entry) → In e es → (from ≤ e.rule) × (e.rule < to)
  pub rising : RisingEntries es

-- each entry's place lies in the octets before limit
abbrev pub EntriesInside : List Entry → ℕ → Type 0
EntriesInside es limit = (e : Entry) → In e es → e.place.start + e.place.len ≤ limit

-- an entry says "must" or "should" as its rule does: "1 for must, 2 for should" (document 02, CR 3)
abbrev pub Levelled : Entry → Type 0
Levelled e = e.level ≡ level_number (level_of e.rule)

abbrev pub EntriesLevelled : List Entry → Type 0
EntriesLevelled es = (e : Entry) → In e es → Levelled e

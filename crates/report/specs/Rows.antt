-- A report by its rules: for each rule its number, the profiles that judge it, and the elements at which a certificate breaks it. Whether a profile is one of
-- them is asked in one place, `entries_of`.
use Rattle.std.specs.Prelude.{List, [], ◌∷◌, ◌++◌, map, Bool, true, false, cond, ◌&&◌, ◌≡◌, ℕ, ◌+◌, leb}
use Rattle.report.specs.declared.sink.Entry.{Entry}
use Rattle.report.specs.Entries.{entry_at}
use Rattle.report.specs.Order.{In}
use Rattle.report.specs.Putting.{Put}
use Rattle.der.specs.declared.header.Head.{Head}
use Rattle.profiles.specs.Judged.{judged_in, judged_by}
use Rattle.profiles.specs.declared.fields.Profile.{Profile}

-- a rule, the profiles that judge it, and the elements that break it
pub record Row : Type 0 where
  pub rule : ℕ
  pub profiles : List ℕ
  pub broken : List Head

-- as rules are written down: each with its profiles where its number stands
infixr 80 ◌for◌⦂◌
abbrev pub ◌for◌⦂◌ : ℕ → List ℕ → List Head → Row
rule for profiles ⦂ hs = record { rule = rule; profiles = profiles; broken = hs }

-- as the code goes about any rule: the table of rules has its profiles
infixr 80 ◌⦂◌
abbrev pub ◌⦂◌ : ℕ → List Head → Row
rule ⦂ hs = rule for judged_in rule ⦂ hs

-- a rule on one element: broken at it, or not
unfoldable pub broken_at : Bool → Head → List Head
broken_at true h = h ∷ []
broken_at false h = []

-- a rule that is judged under a condition
abbrev pub only_if : Bool → List Entry → List Entry
only_if judged es = cond judged es []

-- the entries of a rule: none where the profile does not judge it
unfoldable pub entries_of : Profile → Row → List Entry
entries_of p r = only_if (judged_by p r.profiles) (map (entry_at r.rule) r.broken)

-- the entries of several, one rule behind the other
unfoldable pub findings_of : Profile → List Row → List Entry
findings_of p [] = []
findings_of p (r ∷ rs) = entries_of p r ++ findings_of p rs

-- A function that appends the entries of these rules, in profile p, to room in which n are: its answer r, and the room that it leaves, last.
pub record Puts (p : Profile) (rs : List Row) (n : ℕ) (room : List ℕ) (r : ℕ) (last : List ℕ) : Type 0 where
  pub put : Put (findings_of p rs) n room r last

-- the rules' numbers ascend, from `from` on and below `to`
unfoldable pub ascend : ℕ → ℕ → List Row → Bool
ascend from to [] = leb from to
ascend from to (r ∷ rs) = leb from r.rule && ascend (r.rule + 1) to rs

-- the rule of an entry is judged, and is broken at the element where the entry is
pub record BrokenIn (p : Profile) (e : Entry) (r : Row) (h : Head) : Type 0 where
  pub judged : judged_by p r.profiles ≡ true
  pub among : In h r.broken
  pub entry : e ≡ entry_at r.rule h

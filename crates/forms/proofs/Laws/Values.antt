-- Rules on values, which are not judged if the extension is missing or bad.
--     puts_good, puts_none     where it is good, and where it is not
--     good_at                  at the OCTET STRING
--     by_standing              rules on an extension, by how it stands
-- Assumes nothing.
use mathlib.Core.Path.{◌≡◌, refl}
use mathlib.Core.List.{List, [], ◌∷◌}
use mathlib.Core.Bool.{Bool, true, false, cond, ◌&&◌}
use Prim.Native.Nat.{ℕ}
use Rattle.forms.specs.Values.{if_good}
use Rattle.der.specs.Elements.{is_empty}
use Rattle.der.specs.declared.header.Head.{Head}
use Rattle.profiles.specs.declared.fields.Profile.{Profile}
use Rattle.certificate.specs.declared.slots.Slot.{Slot}
use Rattle.certificate.specs.Standing.{Standing, extension_by, standing_by}
use Rattle.report.specs.Rows.{Row, ◌⦂◌, broken_at}
use Rattle.report.specs.Sinks.{SinkPuts}
use Rattle.report.specs.declared.sink.Sink.{Sink}
use Rattle.report.proofs.Laws.Sinks.{sink_empty}

pub puts_good : {a b : Sink} (p : Profile) (rule : ℕ) (v : Slot) (hs : List Head) → v.good ≡ true → SinkPuts p (rule ⦂ hs ∷ []) a b
    → SinkPuts p (rule ⦂ if_good v hs ∷ []) a b
puts_good p rule v hs t x = rw t x

pub puts_none : (p : Profile) (rule : ℕ) (v : Slot) (hs : List Head) (sink : Sink) → v.good ≡ false
    → SinkPuts p (rule ⦂ if_good v hs ∷ []) sink sink
puts_none p rule v hs sink t = rw t (sink_empty p rule sink)

pub good_at : (v : Slot) (bad : Bool) (h : Head) → broken_at (v.good && bad) h ≡ if_good v (broken_at bad h)
unfolding broken_at
good_at v bad h = go v.good
  where
    go : (good : Bool) → broken_at (good && bad) h ≡ cond good (broken_at bad h) []
    go true = refl
    go false = refl

pub by_standing : {a b : Sink} (p : Profile) (v : Slot) (rows : Standing → List Row)
    → (v.good ≡ true → SinkPuts p (rows (Standing.good (extension_by v) v.element)) a b) → (v.good ≡ false → SinkPuts p (rows Standing.missing) a b)
    → (v.good ≡ false → SinkPuts p (rows (Standing.bad (extension_by v))) a b) → SinkPuts p (rows (standing_by v)) a b
by_standing {a} {b} p v rows good missing bad = go v.good refl (is_empty v.place)
  where
    go : (g : Bool) → v.good ≡ g → (e : Bool)
        → SinkPuts p (rows (cond g (Standing.good (extension_by v) v.element) (cond e Standing.missing (Standing.bad (extension_by v))))) a b
    go true t e = good t
    go false t true = missing t
    go false t false = bad t

-- The elements of sound octets are sound.
--     element_sound       each of them, by its header and its universal type
-- Assumes nothing.
use mathlib.Core.Path.{◌≡◌, refl, sym, ◌∙◌}
use mathlib.Core.List.Memᴰ
use mathlib.Core.List.{List, [], ◌∷◌}
use mathlib.Core.Logic.{⊎_elim}
use mathlib.Core.Bool.{Bool, true, false, cond, ◌||◌}
use Prim.Native.Nat.{ℕ, ◌-◌}
use lib.Dec.{leb}
use lib.ListN.{length}
use Rattle.facts.specs.Elements.{Element}
use Rattle.facts.specs.Elements.Topmost.{outermost, in_value, in_bits}
use Rattle.places.specs.Statement.{SoundElement}
use Rattle.octets.proofs.Laws.Tests.{and_l}
use Rattle.der.specs.Contents.{constructed, universal_ok, contents_of, element_ok}
use Rattle.der.specs.Elements.{held_by, joined, elements_of}
use Rattle.der.specs.Elements.HeldFrom.{outer, held}
use Rattle.der.specs.Soundness.{soundness, der_soundness}
use Rattle.der.specs.declared.header.Head.{Head}
use Rattle.der.proofs.Laws.Walks.{soundness_join, then_parts, sound_stretch, sound_self, sound_members}
use Rattle.der.specs.Members.{members_in}
use Rattle.report.specs.Order.{In}
use Rattle.std.specs.Prelude.{Ok}

-- an element that is sound with all that it holds, in so many levels
record Whole (s : List ℕ) (h : Head) : Type 0 where
  levels : ℕ
  is : soundness s (elements_of s levels h) ≡ Ok tt

each_whole : (s : List ℕ) (levels : ℕ) (hs : List Head) → soundness s (joined (elements_of s levels) hs) ≡ Ok tt
    → (h : Head) → In h hs → Whole s h
each_whole s levels [] e h i = absurd (Memᴰ.not-nil i)
each_whole s levels (x ∷ hs) e h i =
    let p = then_parts _ _ (sym (soundness_join s (elements_of s levels x) (joined (elements_of s levels) hs)) ∙ e) in
    ⊎_elim (λ (q : h ≡ x). rw q (record { levels = levels; is = p.0 })) (each_whole s levels hs p.1 h) (Memᴰ.cases_cons i)

held_whole : (s : List ℕ) (holder : Head) → Whole s holder → (h : Head) → In h (held_by s holder) → Whole s h
held_whole s holder w h = go (constructed holder.tag) refl
  where
    go : (b : Bool) → constructed holder.tag ≡ b → In h (cond b (members_in s holder) []) → Whole s h
    go true c i = each_whole s (w.levels - 1) (members_in s holder) (sound_members s w.levels holder w.is c) h i
    go false c i = absurd (Memᴰ.not-nil i)

module _ (s : List ℕ) (e : der_soundness s ≡ Ok tt) where
  whole : {h : Head} → Element s h → Whole s h
  whole (outer outermost) = record { levels = 16; is = (sound_stretch s 0 (length s) e).1 }
  whole (held {holder} {h} k i) = held_whole s holder (whole k) h i
  whole (outer (in_value i v f)) = record { levels = 16; is = (sound_stretch s _ _ f).1 }
  whole (outer (in_bits b f tag)) = record { levels = 16; is = (sound_stretch s _ _ f).1 }

  pub element_sound : (h : Head) → Element s h → SoundElement s h
  unfolding element_ok
  element_sound h k =
      let w = whole k in
      let o = sound_self s w.levels h w.is in
      record { header = and_l h.sound (leb 64 h.tag || universal_ok h.tag (contents_of s h)) o; contents = o }

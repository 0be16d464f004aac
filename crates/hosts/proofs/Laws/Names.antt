-- A common name held to a list of names, of which h is the first.
--     named_skip      h is no dNSName, or of another length
--     named_enter     h is a dNSName of the same length
--     named_none      there is none
-- Assumes nothing.
use mathlib.Core.Path.{◌≡◌, refl, sym, ap, ◌∙◌}
use mathlib.Core.List.{List, [], ◌∷◌}
use mathlib.Core.Bool.{Bool, true, false, ◌&&◌, ◌||◌}
use Prim.Native.Nat.{ℕ, ◌-◌}
use lib.Dec.{eqb}
use borrow.Author.Tests.{eqb-true, eqb-false}
use Rattle.hosts.specs.Names.{is_named, some_named}
use Rattle.octets.specs.Octets.{octets_from}
use Rattle.octets.specs.Same.{same_by, lower_case}
use Rattle.octets.proofs.Laws.Octets.{octets_long}
use Rattle.octets.proofs.Laws.Same.{same_length}
use Rattle.octets.proofs.Laws.Tests.{and_l, and_r}
use Rattle.der.specs.Elements.{any_of}
use Rattle.der.specs.declared.header.Head.{Head}

-- octets of different lengths are not the same
apart : (s : List ℕ) (a n : ℕ) (h : Head) (tagged same : Bool) → same ≡ eqb (h.end - h.body) n → (tagged && same) ≡ false
    → (tagged && same_by lower_case (octets_from s a n) (octets_from s h.body (h.end - h.body))) ≡ false
apart s a n h false same z f = refl
apart s a n h true true z f = cc
apart s a n h true false z f =
    let differ = eqb-false (h.end - h.body) n (sym z) in
    same_length lower_case (octets_from s a n) (octets_from s h.body (h.end - h.body))
    (λ e. differ (sym (octets_long s h.body (h.end - h.body)) ∙ (sym e ∙ octets_long s a n)))

module _ (s : List ℕ) (a n size : ℕ) (h : Head) (hs : List Head) {left : List Head} (l : left ≡ h ∷ hs) (z : size ≡ h.end - h.body) where
  next : some_named s (octets_from s a n) left ≡ (is_named s (octets_from s a n) h || some_named s (octets_from s a n) hs)
  unfolding any_of
  next = ap (some_named s (octets_from s a n)) l

  pub named_skip : (eqb h.tag 130 && eqb size n) ≡ false → some_named s (octets_from s a n) left ≡ some_named s (octets_from s a n) hs
  named_skip f =
      next ∙ ap (λ (b : Bool). b || some_named s (octets_from s a n) hs)
      (apart s a n h (eqb h.tag 130) (eqb size n) (ap (λ (m : ℕ). eqb m n) z) f)

  pub named_enter : (eqb h.tag 130 && eqb size n) ≡ true
      → some_named s (octets_from s a n) left ≡ (same_by lower_case (octets_from s a n) (octets_from s h.body n) || some_named s (octets_from s a n) hs)
  named_enter f =
      let long : h.end - h.body ≡ n = sym z ∙ eqb-true size n (and_r (eqb h.tag 130) (eqb size n) f) in
      let tagged = and_l (eqb h.tag 130) (eqb size n) f in
      next ∙ (ap (λ (b : Bool). b && same_by lower_case (octets_from s a n) (octets_from s h.body (h.end - h.body)) || some_named s (octets_from s a n) hs) tagged
      ∙ ap (λ (m : ℕ). same_by lower_case (octets_from s a n) (octets_from s h.body m) || some_named s (octets_from s a n) hs) long)

-- where none is left
pub named_none : (s c : List ℕ) {left : List Head} → left ≡ [] → some_named s c left ≡ false
unfolding any_of
named_none s c l = ap (some_named s c) l

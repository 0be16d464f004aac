-- Texts held to a form.
--     beside_form              each character tested together with the form's beside it
--     uuid_read, uuid_none     a name by its tag, its length and its characters; one of another tag or length
-- Assumes nothing.
use mathlib.Core.Path.{◌≡◌, refl, sym, ap, ◌∙◌}
use mathlib.Core.List.{List, [], ◌∷◌}
use mathlib.Core.Bool.{Bool, true, false, ◌&&◌}
use Prim.Native.Nat.{ℕ, zero, suc, ◌+◌, ◌-◌}
use lib.ListN.{length}
use lib.Dec.{eqb}
use borrow.Author.Tests.{eqb-true, eqb-false}
use Rattle.std.specs.List.{list_all, zip}
use Rattle.badges.specs.Uuids.{uuid_form, is_as_in, has_form, is_uuid_uri}
use Rattle.locations.specs.Uris.{is_uri}
use Rattle.texts.specs.Texts.{word}
use Rattle.octets.specs.Octets.{octet_at, octets_from}
use Rattle.octets.proofs.Laws.Octets.{octets_long, octets_whole}
use Rattle.octets.proofs.Laws.Tests.{and_l, and_r}
use Rattle.der.specs.declared.header.Head.{Head}

pub beside_form : (form s : List ℕ) (a b n : ℕ)
    → list_all (λ pair. is_as_in pair.0 pair.1) (zip (octets_from form a n) (octets_from s b n)) ≡ has_form (octets_from form a n) (octets_from s b n)
unfolding octets_from has_form
beside_form form s a b zero = refl
beside_form form s a b (suc n) = ap (λ r. is_as_in (octet_at form a) (octet_at s b) && r) (beside_form form s (a + 1) (b + 1) n)

form_length : (form text : List ℕ) → (length form ≡ length text → ⊥) → has_form form text ≡ false
unfolding has_form
form_length [] [] h = absurd (h refl)
form_length [] (c ∷ cs) h = refl
form_length (f ∷ fs) [] h = refl
form_length (f ∷ fs) (c ∷ cs) h = rw (form_length fs cs (λ e. h (ap suc e))) (and_no (is_as_in f c))
  where
    and_no : (b : Bool) → (b && false) ≡ false
    and_no true = refl
    and_no false = refl

module _ (s : List ℕ) (h : Head) (uri : Bool) (n : ℕ) (e : uri ≡ is_uri h) (f : n ≡ h.end - h.body) where
  pub uuid_read : (formed : Bool) → (uri && eqb n 45) ≡ true → formed ≡ has_form (octets_from uuid_form 0 45) (octets_from s h.body 45)
      → formed ≡ is_uuid_uri s h
  unfolding word
  uuid_read formed t g =
      let long = eqb-true n 45 (and_r uri (eqb n 45) t) in
      rw (← e, and_l uri (eqb n 45) t, ← f, long, g, octets_whole uuid_form)

  pub uuid_none : (uri && eqb n 45) ≡ false → false ≡ is_uuid_uri s h
  unfolding word
  uuid_none t = rw (← e, ← f) (go uri t)
    where
      go : (u : Bool) → (u && eqb n 45) ≡ false → false ≡ (u && has_form uuid_form (octets_from s h.body n))
      go false k = refl
      go true k = sym (form_length uuid_form (octets_from s h.body n) (λ l. eqb-false n 45 k (sym (l ∙ octets_long s h.body n))))

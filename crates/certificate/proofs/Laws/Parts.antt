-- The parts of an accepted certificate's extensions and key are those that RFC 5280's grammar names.
--     extension_named, list_named         an Extension, and all of an extension list
--     key_named                           a SubjectPublicKeyInfo
--     certificate_key_named, certificate_extensions_named
--                                         those of an accepted certificate
-- Assumes nothing.
use mathlib.Core.Path.{◌≡◌, refl, sym, ap, ◌∙◌}
use mathlib.Core.List.{List, [], ◌∷◌, ◌++◌, append-nil}
use Prim.Native.Nat.{ℕ}
use native.Mathlib.Omega.{arith}
use lib.Dec.{eqb}
use Rattle.certificate.specs.Fields.{certificate_of}
use Rattle.certificate.specs.Key.{key_of}
use Rattle.certificate.specs.Extensions.{extension_of}
use Rattle.certificate.proofs.Terms.Named.{ExtensionsNamed, CriticalNamed, ExtensionNamed, AllNamed, ParametersNamed, KeyNamed}
use Rattle.certificate.proofs.Terms.Named.CriticalNamed.{unmarked, marked}
use Rattle.certificate.proofs.Terms.Named.AllNamed.{none, more}
use Rattle.certificate.proofs.Terms.Named.ExtensionsNamed.{without, listed}
use Rattle.certificate.proofs.Terms.Named.ParametersNamed.{lacking, given}
use Rattle.der.specs.Header.{children_of}
use Rattle.der.specs.declared.header.Head.{Head}
use Rattle.der.proofs.Laws.Children.{children_done}
use Rattle.asn.specs.Grammar.{Form, unless_wrong, fits, follows, Verdict}
use Rattle.asn.specs.Grammar.Slots.{done, many}
use Rattle.asn.specs.Answers.{certificate_verdict}
use Rattle.asn.specs.Module.{boolean_true, extension, extensions, algorithm_identifier, subject_public_key_info}
use Rattle.asn.proofs.Terms.Fields.{Optional}
use Rattle.asn.proofs.Terms.Fields.Optional.{absent, present}
use Rattle.asn.proofs.Laws.Fields.{parts_fit, one_fits, opt_fits, done_fits}
use Rattle.der.specs.Members.{first_in}
use Rattle.certificate.proofs.Laws.Named.{named, fit_tag, Stands, stands_here, stands_after, stands_optional, stands_unsound}
use Rattle.asn.specs.declared.fitting.Misfit.TheVariants.{Stranger, Wrong}
use Rattle.std.specs.Prelude.{Ok, Err}

-- ---- an Extension

tag_of : (x y : Head) (t : ℕ) → x ≡ y → y.tag ≡ t → x.tag ≡ t
tag_of x y t p q = ap (λ (h : Head). h.tag) p ∙ q

critical_named : (s : List ℕ) (end : ℕ) (second value : Head) (front : List Head) → Optional boolean_true s front → value.tag ≡ 0x04
    → Stands s end second (front ++ (value ∷ [])) → CriticalNamed (eqb second.tag 0x01) front
critical_named s end second value [] absent v k =
    let four = tag_of second value 0x04 (stands_here s end second value [] k) v in
    rw four unmarked
critical_named s end second value (b ∷ []) (present f) v k =
    let one = tag_of second b 0x01 (stands_here s end second b (value ∷ []) k) (fit_tag 0x01 _ s b refl f) in
    rw one marked
critical_named s end second value (b ∷ (_ ∷ _)) x7 v k = elim x7 [ ]

pub extension_named : (s : List ℕ) (h : Head) → fits extension s h ≡ Ok tt → ExtensionNamed s h
unfolding extension extension_of
extension_named s h e =
    let k = (parts_fit 0x30 _ s h e).1 in
    let a = one_fits _ _ s h.at _ k in
    let b = opt_fits _ _ s h.at _ a.more in
    let v = one_fits _ _ s h.at _ b.more in
    let d = done_fits s h.at _ v.more in
    let last : b.rest ≡ v.first ∷ [] = cc (v.is, d) in
    let all : children_of s h.body h.end ≡ a.first ∷ (b.front ++ (v.first ∷ [])) = a.is ∙ ap (λ (l : List Head). a.first ∷ l)
    (b.is ∙ ap (λ (l : List Head). b.front ++ l) last) in
    let first : Stands s h.end (first_in s h) (a.first ∷ (b.front ++ (v.first ∷ []))) = record { place = h.body; is = refl; members = all } in
    let second = stands_after s h.end _ _ _ first in
    let four = fit_tag 0x04 _ s v.first refl v.fit in
    let third = stands_optional s h.end boolean_true 0x01 _ b.front (v.first ∷ []) (λ x f. fit_tag 0x01 _ s x refl f)
    (λ x st t. let other = tag_of x v.first 0x04 (stands_here s h.end x v.first [] st) four in omega (arith, other, t)) b.fit
    second in
    let one_is = stands_here s h.end _ _ _ first in
    let value_is = stands_here s h.end _ _ _ third in
    record {
      boolean = b.front;
      tag = fit_tag 0x30 _ s h refl e;
      is = all ∙ (λ i. sym one_is i ∷ (b.front ++ (sym value_is i ∷ [])));
      identifier_fits = rw one_is a.fit;
      boolean_fits = b.fit;
      value_fits = rw value_is v.fit;
      critical = critical_named s h.end _ v.first b.front b.fit four second;
    }

all_named : (s : List ℕ) (o : ℕ) (hs : List Head) → follows (many extension done) s o hs ≡ Ok tt → AllNamed s hs
unfolding follows
all_named s o [] e = none
all_named s o (h ∷ hs) e = go (fits extension s h) refl e (all_named s o hs)
  where
    go : (v : Verdict) → fits extension s h ≡ v → unless_wrong v (follows done s o (h ∷ hs)) (follows (many extension done) s o hs) ≡ Ok tt
        → (follows (many extension done) s o hs ≡ Ok tt → AllNamed s hs) → AllNamed s (h ∷ hs)
    go (Err Stranger) f e rest = let z : ◌≡◌ {A = ℕ} 0 1 = cc in absurd (omega arith)
    go (Ok _) f e rest = more (extension_named s h f) (rest e)
    go (Err (Wrong p)) f e rest = let z : ◌≡◌ {A = ℕ} 0 1 = cc in absurd (omega arith)

pub list_named : (s : List ℕ) (list : Head) → fits extensions s list ≡ Ok tt → AllNamed s (children_of s list.body list.end)
unfolding extensions
list_named s list e =
    let k = (parts_fit 0x30 _ s list e).1 in
    let a = one_fits _ _ s list.at _ k in
    rw a.is (more (extension_named s a.first a.fit) (all_named s list.at a.rest a.more))

-- ---- a SubjectPublicKeyInfo

parameters_named : (s : List ℕ) (end : ℕ) (parameters : Head) (extra : List Head) (f : Form) → Optional f s extra
    → Stands s end parameters extra → ParametersNamed parameters extra
parameters_named s end parameters [] f absent k = lacking (stands_unsound s end parameters k)
parameters_named s end parameters (h ∷ []) f (present e) k = given (stands_here s end parameters h [] k)
parameters_named s end parameters (h ∷ (_ ∷ _)) f x6 k = elim x6 [ ]

pub key_named : (s : List ℕ) (key : Head) → fits subject_public_key_info s key ≡ Ok tt → KeyNamed s key
unfolding subject_public_key_info algorithm_identifier key_of
key_named s key e =
    let k = (parts_fit 0x30 _ s key e).1 in
    let a = one_fits _ _ s key.at _ k in
    let b = one_fits _ _ s key.at _ a.more in
    let d = done_fits s key.at _ b.more in
    let both : children_of s key.body key.end ≡ a.first ∷ b.first ∷ [] = cc (a.is, b.is, d) in
    let first : Stands s key.end (first_in s key) (a.first ∷ b.first ∷ []) = record { place = key.body; is = refl; members = both } in
    let algorithm = stands_here s key.end _ _ _ first in
    let bits = stands_here s key.end _ _ _ (stands_after s key.end _ _ _ first) in
    let m = (parts_fit 0x30 _ s a.first a.fit).1 in
    let o = one_fits _ _ s a.first.at _ m in
    let p = opt_fits _ _ s a.first.at _ o.more in
    let z = done_fits s a.first.at _ p.more in
    let held : children_of s (first_in s key).body (first_in s key).end ≡ o.first ∷ p.front =
    (λ i. children_of s (algorithm i).body (algorithm i).end) ∙ (o.is ∙ ap (λ (l : List Head). o.first ∷ l)
    (p.is ∙ (ap (λ (l : List Head). p.front ++ l) z ∙ append-nil p.front))) in
    let inside : Stands s (first_in s key).end (first_in s (first_in s key)) (o.first ∷ p.front) = record
    { place = (first_in s key).body; is = refl; members = held } in
    let identifier = stands_here s (first_in s key).end _ _ _ inside in
    record {
      extra = p.front;
      is = both ∙ (λ i. sym algorithm i ∷ sym bits i ∷ []);
      inner = held ∙ (λ i. sym identifier i ∷ p.front);
      identifier_fits = rw identifier o.fit;
      bits_fits = rw bits b.fit;
      parameters = parameters_named s (first_in s key).end _ p.front _ p.fit (stands_after s (first_in s key).end _ _ _ inside);
    }

-- ---- of an accepted certificate

module _ (s : List ℕ) (e : certificate_verdict s ≡ Ok tt) where
  pub certificate_key_named : KeyNamed s (certificate_of s).key
  certificate_key_named = let n = named s e in key_named s (certificate_of s).key (rw n.key n.fields.key_fits)

  pub certificate_extensions_named : AllNamed s (children_of s (certificate_of s).extensions.body (certificate_of s).extensions.end)
  certificate_extensions_named = go (named s e).fields.extended (named s e).extensions
    where
      go : (hs : List Head) → ExtensionsNamed s (certificate_of s).extensions (certificate_of s).tbs.end hs
          → AllNamed s (children_of s (certificate_of s).extensions.body (certificate_of s).extensions.end)
      go [] (without m) = rw (m, children_done s (certificate_of s).tbs.end (certificate_of s).tbs.end (omega arith)) none
      go (h ∷ []) (listed k f) = list_named s (certificate_of s).extensions f
      go (h ∷ (_ ∷ _)) x5 = elim x5 [ ]

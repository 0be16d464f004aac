-- The fields are read where RFC 5280's grammar has them.
--     fit_tag             what fits a type of one alternative has its identifier
--     named               the fields of a certificate that fits
--     times_rise          the second of its two times starts after the first
-- Assumes nothing.
use mathlib.Core.Path.{◌≡◌, refl, sym, ap, ◌∙◌}
use mathlib.Core.List.{List, [], ◌∷◌, ◌++◌}
use mathlib.Core.Bool.{Bool, true, false, cond}
use Prim.Native.Nat.{ℕ, ◌<◌}
use native.Mathlib.Omega.{arith}
use Rattle.std.specs.Prelude.{Option, Some, None, is_some, unwrap_or}
use lib.ListN.{length}
use lib.Dec.{ltb, eqb}
use borrow.Author.Tests.{ltb-true, ltb-false, eq-eqb, ne_eqb, eqb-true}
use Rattle.certificate.specs.Fields.{whole_of, tbs_of, outer_of, version_in, serial_in, inner_in, issuer_in, period_in, subject_in, key_in, extended_after}
use Rattle.certificate.specs.Fields.{list_after, extension_list_in, not_before_in, not_after_in, no_time, time_in, validity_of, certificate_of}
use Rattle.certificate.proofs.Terms.Named.{VersionNamed, ExtensionsNamed, Named}
use Rattle.certificate.proofs.Terms.Named.VersionNamed.{unwritten, written}
use Rattle.certificate.proofs.Terms.Named.ExtensionsNamed.{without, listed}
use Rattle.der.specs.Header.{head_of, children_of, broken_head}
use Rattle.der.specs.declared.header.Head.{Head}
use Rattle.der.proofs.Laws.Header.{head_narrow, head_start, head_forward}
use Rattle.der.proofs.Laws.Children.{children_next}
use Rattle.der.proofs.Laws.Members.{children_first}
use Rattle.der.specs.Contents.{contents_of}
use Rattle.times.specs.Reads.{time_of}
use Rattle.times.specs.declared.validity.Time.{Time}
use Rattle.asn.specs.Grammar.{Form, Inside, takes, fits, holds, Verdict}
use Rattle.asn.specs.Answers.{certificate_verdict}
use Rattle.asn.specs.Module.{explicit, free, version, time, validity, extensions}
use Rattle.asn.specs.Grammar.Form.{none, alt}
use Rattle.asn.proofs.Terms.Fields.{Optional, Outermost, TbsFields}
use Rattle.asn.proofs.Terms.Fields.Optional.{absent, present}
use Rattle.asn.proofs.Laws.Fields.{takes_tag, parts_fit, one_fits, done_fits, certificate_fields, tbs_fields}
use Rattle.der.specs.Members.{first_in, after, past, inside_tag}
use Rattle.asn.specs.declared.fitting.Misfit.TheVariants.{Stranger, Wrong}
use Rattle.std.specs.Prelude.{Ok, Err}

-- ---- identifiers

pub fit_tag : (i : ℕ) (x : Inside) (s : List ℕ) (h : Head) → eqb i 0 ≡ false → fits (alt i x none) s h ≡ Ok tt → h.tag ≡ i
unfolding fits
fit_tag i x s h z e = takes_tag i h.tag z (go (takes i h.tag) e)
  where
    go : (b : Bool) → cond b (holds x s h) (Err Stranger) ≡ Ok tt → b ≡ true
    go true e = refl
    go false e = cc

-- ---- a head that stands first among elements

pub record Stands (s : List ℕ) (end : ℕ) (h : Head) (hs : List Head) : Type 0 where
  pub place : ℕ
  pub is : h ≡ head_of s place end
  pub members : children_of s place end ≡ hs

module _ (s : List ℕ) (end : ℕ) where
  pub stands_here : (h x : Head) (xs : List Head) → Stands s end h (x ∷ xs) → h ≡ x
  stands_here h x xs k = k.is ∙ (children_first s k.place end x xs k.members).is

  pub stands_after : (h x : Head) (xs : List Head) → Stands s end h (x ∷ xs) → Stands s end (after s h end) xs
  stands_after h x xs k =
      let f = children_first s k.place end x xs k.members in
      record { place = h.end; is = refl; members = rw k.is f.rest }

  -- where none is left the head is broken
  stands_broken : (h : Head) → Stands s end h [] → h ≡ broken_head h.at end
  stands_broken h k = go (ltb k.place end) refl
    where
      go : (t : Bool) → ltb k.place end ≡ t → h ≡ broken_head h.at end
      go true l =
          let e : head_of s k.place end ∷ children_of s (head_of s k.place end).end end ≡ [] = sym
          (children_next s k.place end (ltb-true k.place end l)) ∙ k.members in
          let z : ◌≡◌ {A = ℕ} 0 1 = cc e in
          absurd (omega arith)
      go false l =
          let f = ltb-false k.place end l in
          rw (k.is, head_narrow s k.place end (omega (arith, f)))

  stands_none : (h : Head) → Stands s end h [] → h.tag ≡ 0
  stands_none h k = ap (λ (y : Head). y.tag) (stands_broken h k)

  pub stands_unsound : (h : Head) → Stands s end h [] → h.sound ≡ false
  stands_unsound h k = ap (λ (y : Head). y.sound) (stands_broken h k)

  stands_past : (tag : ℕ) (h x : Head) (xs : List Head) → x.tag ≡ tag → Stands s end h (x ∷ xs) → Stands s end (past tag s h end) xs
  unfolding past
  stands_past tag h x xs t k =
      let e : eqb h.tag tag ≡ true = eq-eqb h.tag tag (ap (λ (y : Head). y.tag) (stands_here h x xs k) ∙ t) in
      rw e (stands_after h x xs k)

  stands_still : (tag : ℕ) (h : Head) (xs : List Head) → (h.tag ≡ tag → ⊥) → Stands s end h xs → Stands s end (past tag s h end) xs
  unfolding past
  stands_still tag h xs t k = rw (ne_eqb h.tag tag t) k

  -- past an optional field, where what follows has another tag
  pub stands_optional : (f : Form) (tag : ℕ) (h : Head) (front rest : List Head) → ((x : Head) → fits f s x ≡ Ok tt → x.tag ≡ tag)
      → ((x : Head) → Stands s end x rest → x.tag ≡ tag → ⊥) → Optional f s front → Stands s end h (front ++ rest)
      → Stands s end (past tag s h end) rest
  stands_optional f tag h [] rest fit other absent k = stands_still tag h rest (other h k) k
  stands_optional f tag h (x ∷ []) rest fit other (present e) k = stands_past tag h x rest (fit x e) k
  stands_optional f tag h (x ∷ (_ ∷ _)) rest fit other x9 k = elim x9 [ ]

  -- what stands there has the optional field's tag, or the tag of what follows: so not a third one
  optional_other : (f : Form) (tag third : ℕ) (front rest : List Head) → ((x : Head) → fits f s x ≡ Ok tt → x.tag ≡ tag) → (tag ≡ third → ⊥)
      → ((x : Head) → Stands s end x rest → x.tag ≡ third → ⊥) → Optional f s front → (x : Head) → Stands s end x (front ++ rest)
      → x.tag ≡ third → ⊥
  optional_other f tag third [] rest fit apart other absent x k t = other x k t
  optional_other f tag third (y ∷ []) rest fit apart other (present e) x k t =
      apart (sym (fit y e) ∙ (ap (λ (h : Head). h.tag) (sym (stands_here x y rest k)) ∙ t))
  optional_other f tag third (y ∷ (_ ∷ _)) rest fit apart other x13 x k t = elim x13 [ ]

-- ---- times

is_some_lem : (r : Option Time) → is_some r ≡ true → r ≡ Some (unwrap_or r no_time)
is_some_lem (Some t) e = refl
is_some_lem None e = cc

time_named : (s : List ℕ) (h : Head) → fits time s h ≡ Ok tt → time_of h.tag (contents_of s h) ≡ Some (time_in s h)
unfolding time fits holds time_in
time_named s h e = is_some_lem (time_of h.tag (contents_of s h)) (by_tag (eqb 23 h.tag) (eqb 24 h.tag) refl refl e)
  where
    passed : (tag : ℕ) (b : Bool) → ◌≡◌ {A = Verdict} (cond b (Ok tt) (Err (Wrong tag))) (Ok tt) → b ≡ true
    passed tag true e = refl
    passed tag false e = cc

    by_tag : (a b : Bool) → eqb 23 h.tag ≡ a → eqb 24 h.tag ≡ b
        → ◌≡◌ {A = Verdict}
        (cond a (cond (is_some (time_of 23 (contents_of s h))) (Ok tt) (Err (Wrong h.at)))
        (cond b (cond (is_some (time_of 24 (contents_of s h))) (Ok tt) (Err (Wrong h.at))) (Err Stranger)))
        (Ok tt)
        → is_some (time_of h.tag (contents_of s h)) ≡ true
    by_tag true b p q e =
        ap (λ (t : ℕ). is_some (time_of t (contents_of s h))) (sym (eqb-true 23 h.tag p)) ∙ passed h.at
        (is_some (time_of 23 (contents_of s h))) e
    by_tag false true p q e =
        ap (λ (t : ℕ). is_some (time_of t (contents_of s h))) (sym (eqb-true 24 h.tag q)) ∙ passed h.at
        (is_some (time_of 24 (contents_of s h))) e
    by_tag false false p q e = cc

-- ---- the two times of a Validity

record TimesNamed (s : List ℕ) (period : Head) : Type 0 where
  is : children_of s period.body period.end ≡ not_before_in s period ∷ not_after_in s period ∷ []
  before : fits time s (not_before_in s period) ≡ Ok tt
  later : fits time s (not_after_in s period) ≡ Ok tt

times_named : (s : List ℕ) (period : Head) → fits validity s period ≡ Ok tt → TimesNamed s period
unfolding validity not_before_in not_after_in
times_named s period e =
    let k = (parts_fit 0x30 _ s period e).1 in
    let a = one_fits _ _ s period.at _ k in
    let b = one_fits _ _ s period.at _ a.more in
    let d = done_fits s period.at _ b.more in
    let both : children_of s period.body period.end ≡ a.first ∷ b.first ∷ [] = cc (a.is, b.is, d) in
    let stands : Stands s period.end (first_in s period) (a.first ∷ b.first ∷ []) = record { place = period.body; is = refl; members = both } in
    let p = stands_here s period.end _ _ _ stands in
    let q = stands_here s period.end _ _ _ (stands_after s period.end _ _ _ stands) in
    record { is = cc (both, p, q); before = rw p a.fit; later = rw q b.fit }

-- ---- the extension list

extensions_named : (s : List ℕ) (end : ℕ) (x : Head) (extended : List Head) → Optional (explicit 3 extensions) s extended
    → Stands s end x extended → ExtensionsNamed s (inside_tag 0xA3 s x end) end extended
unfolding inside_tag
extensions_named s end x [] absent k = let z = stands_none s end x k in rw z (without refl)
extensions_named s end x (h ∷ []) (present e) k =
    let here = stands_here s end x h [] k in
    let tag : x.tag ≡ 0xA3 = ap (λ (y : Head). y.tag) here ∙ fit_tag 0xA3 _ s h refl e in
    let f = (parts_fit 0xA3 _ s h e).1 in
    let a = one_fits _ _ s h.at _ f in
    let d = done_fits s h.at _ a.more in
    let alone : children_of s h.body h.end ≡ a.first ∷ [] = cc (a.is, d) in
    let first = (children_first s h.body h.end a.first [] alone).is in
    rw (eq-eqb x.tag 0xA3 tag, here) (listed {h = h} (cc (alone, first)) (rw first a.fit))
extensions_named s end x (h ∷ (_ ∷ _)) x7 k = elim x7 [ ]

-- ---- all fields

module _ (s : List ℕ) (e : certificate_verdict s ≡ Ok tt) where
  outermost : Outermost s (children_of s 0 (length s))
  outermost = certificate_fields s e

  whole_named : whole_of s ≡ outermost.whole
  unfolding whole_of
  whole_named = stands_here s (length s) _ _ _ (record { place = 0; is = refl; members = outermost.is })

  tbs_stands : Stands s (whole_of s).end (tbs_of s) (outermost.members.tbs ∷ outermost.members.algorithm ∷ outermost.members.signature ∷ [])
  unfolding tbs_of
  tbs_stands = record { place = (whole_of s).body; is = refl; members = rw whole_named outermost.members.is }

  tbs_named : tbs_of s ≡ outermost.members.tbs
  tbs_named = stands_here s _ _ _ _ tbs_stands

  outer_named : outer_of s ≡ outermost.members.algorithm
  unfolding outer_of
  outer_named = stands_here s _ _ _ _ (stands_after s _ _ _ _ tbs_stands)

  fields : TbsFields s (children_of s outermost.members.tbs.body outermost.members.tbs.end)
  fields = tbs_fields s outermost.members.tbs outermost.members.tbs_fits

  abbrev later : List Head
  later = fields.issuer_id ++ (fields.subject_id ++ fields.extended)

  abbrev end : ℕ
  end = (tbs_of s).end

  version_stands : Stands s end (version_in s (tbs_of s)) (fields.versions ++
      (fields.serial ∷ fields.algorithm ∷ fields.issuer ∷ fields.period ∷ fields.subject ∷ fields.key ∷ later))
  unfolding version_in
  version_stands = record { place = (tbs_of s).body; is = refl; members = (λ i. children_of s (tbs_named i).body (tbs_named i).end) ∙ fields.is }

  -- the serial number is no [0]
  no_version : (x : Head)
      → Stands s end x (fields.serial ∷ fields.algorithm ∷ fields.issuer ∷ fields.period ∷ fields.subject ∷ fields.key ∷ later)
      → x.tag ≡ 0xA0 → ⊥
  no_version x k t =
      let two : x.tag ≡ 0x02 = ap (λ (y : Head). y.tag) (stands_here s end x _ _ k) ∙ fit_tag 0x02 _ s fields.serial refl fields.serial_fits in
      omega (arith, two, t)

  serial_stands : Stands s end (serial_in s (tbs_of s)) (fields.serial ∷ fields.algorithm ∷ fields.issuer ∷ fields.period ∷ fields.subject ∷ fields.key ∷ later)
  unfolding serial_in
  serial_stands =
      stands_optional s end (explicit 0 version) 0xA0 _ fields.versions _ (λ x f. fit_tag 0xA0 _ s x refl f) no_version
      fields.versions_fit version_stands

  inner_stands : Stands s end (inner_in s (tbs_of s)) (fields.algorithm ∷ fields.issuer ∷ fields.period ∷ fields.subject ∷ fields.key ∷ later)
  unfolding inner_in
  inner_stands = stands_after s end _ _ _ serial_stands

  issuer_stands : Stands s end (issuer_in s (tbs_of s)) (fields.issuer ∷ fields.period ∷ fields.subject ∷ fields.key ∷ later)
  unfolding issuer_in
  issuer_stands = stands_after s end _ _ _ inner_stands

  period_stands : Stands s end (period_in s (tbs_of s)) (fields.period ∷ fields.subject ∷ fields.key ∷ later)
  unfolding period_in
  period_stands = stands_after s end _ _ _ issuer_stands

  subject_stands : Stands s end (subject_in s (tbs_of s)) (fields.subject ∷ fields.key ∷ later)
  unfolding subject_in
  subject_stands = stands_after s end _ _ _ period_stands

  key_stands : Stands s end (key_in s (tbs_of s)) (fields.key ∷ later)
  unfolding key_in
  key_stands = stands_after s end _ _ _ subject_stands

  -- what may come last has the tag A3, so none of 81 and 82
  no_extended : (third : ℕ) → (0xA3 ≡ third → ⊥) → (0 ≡ third → ⊥) → (x : Head) → Stands s end x fields.extended → x.tag ≡ third → ⊥
  no_extended third apart some = go fields.extended fields.extended_fit
    where
      go : (hs : List Head) → Optional (explicit 3 extensions) s hs → (x : Head) → Stands s end x hs → x.tag ≡ third → ⊥
      go [] absent x k t = some (sym (stands_none s end x k) ∙ t)
      go (h ∷ []) (present f) x k t = apart (sym (fit_tag 0xA3 _ s h refl f) ∙ (ap (λ (y : Head). y.tag) (sym (stands_here s end x h [] k)) ∙ t))
      go (h ∷ (_ ∷ _)) x10 x k t = elim x10 [ ]

  extended_stands : Stands s end (extended_after s (key_in s (tbs_of s)) end) fields.extended
  extended_stands =
      stands_optional s end (free 2) 0x82 _ fields.subject_id _ (λ x f. fit_tag 0x82 _ s x refl f)
      (no_extended 0x82 (λ p. omega (arith, p)) (λ p. omega (arith, p))) fields.subject_id_fits
      (stands_optional s end (free 1) 0x81 _ fields.issuer_id _ (λ x f. fit_tag 0x81 _ s x refl f)
      (optional_other s end (free 2) 0x82 0x81 fields.subject_id fields.extended (λ x f. fit_tag 0x82 _ s x refl f)
      (λ p. omega (arith, p)) (no_extended 0x81 (λ p. omega (arith, p)) (λ p. omega (arith, p))) fields.subject_id_fits)
      fields.issuer_id_fits
      (stands_after s end _ _ _ key_stands))

  list_named : ExtensionsNamed s (extension_list_in s (tbs_of s)) end fields.extended
  unfolding extension_list_in list_after
  list_named = extensions_named s end _ fields.extended fields.extended_fit extended_stands

  serial_named : serial_in s (tbs_of s) ≡ fields.serial
  serial_named = stands_here s end _ _ _ serial_stands

  period_named : period_in s (tbs_of s) ≡ fields.period
  period_named = stands_here s end _ _ _ period_stands

  version_named : VersionNamed (version_in s (tbs_of s)) (serial_in s (tbs_of s)) fields.versions
  version_named = go fields.versions fields.versions_fit version_stands
    where
      go : (hs : List Head) → Optional (explicit 0 version) s hs
          → Stands s end (version_in s (tbs_of s)) (hs ++ (fields.serial ∷ fields.algorithm ∷ fields.issuer ∷ fields.period ∷ fields.subject ∷ fields.key ∷ later))
          → VersionNamed (version_in s (tbs_of s)) (serial_in s (tbs_of s)) hs
      go [] absent k = unwritten (stands_here s end _ _ _ k ∙ sym serial_named)
      go (h ∷ []) (present f) k = written (stands_here s end _ _ _ k)
      go (h ∷ (_ ∷ _)) x6 k = elim x6 [ ]

  times_are : TimesNamed s (period_in s (tbs_of s))
  times_are = times_named s (period_in s (tbs_of s)) (rw period_named fields.period_fits)

  pub named : Named s
  unfolding certificate_of validity_of
  named =
      record {
        outermost = outermost;
        fields = fields;
        tbs = tbs_named;
        outer = outer_named;
        version = version_named;
        serial = serial_named;
        inner = stands_here s end _ _ _ inner_stands;
        issuer = stands_here s end _ _ _ issuer_stands;
        period = period_named;
        subject = stands_here s end _ _ _ subject_stands;
        key = stands_here s end _ _ _ key_stands;
        extensions = list_named;
        times = rw (← period_named) times_are.is;
        before = time_named s _ times_are.before;
        later = time_named s _ times_are.later;
      }

  pub times_rise : (certificate_of s).not_before.at < (certificate_of s).not_after.at
  times_rise =
      let period = named.fields.period in
      let a = children_first s period.body period.end _ _ named.times in
      let b = children_first s (head_of s period.body period.end).end period.end _ _ a.rest in
      let f = (head_forward s period.body period.end a.some).0 in
      rw (← a.is, ← b.is, head_start s period.body period.end, head_start s (head_of s period.body period.end).end period.end) f

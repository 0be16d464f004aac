-- The fields of what fits, one by one.
--     takes_tag                             what a type takes by its identifier has that identifier
--     parts_fit                             an element that fits a SEQUENCE or tag: its identifier, and its members against the fields
--     one_fits, opt_fits, done_fits         a field that must be there, one that may, and the end
--     certificate_fields, tbs_fields        where the fields of a certificate are
-- Assumes nothing.
use mathlib.Core.Path.{◌≡◌, refl, sym, ap, ◌∙◌}
use mathlib.Core.List.{List, [], ◌∷◌, ◌++◌, append-nil}
use mathlib.Core.Bool.{Bool, true, false, cond}
use Prim.Native.Nat.{ℕ}
use native.Mathlib.Omega.{arith}
use lib.Dec.{eqb}
use lib.ListN.{length}
use borrow.Author.Tests.{eqb-true}
use Rattle.asn.specs.Grammar.{Form, Slots, takes, unless_wrong, fits, holds, follows, Verdict}
use Rattle.asn.specs.Grammar.Form.{none, alt}
use Rattle.asn.specs.Grammar.Inside.{parts}
use Rattle.asn.specs.Grammar.Slots.{done, one, opt}
use Rattle.asn.specs.Module.{certificate, tbs_certificate}
use Rattle.asn.specs.Answers.{certificate_verdict}
use Rattle.asn.proofs.Terms.Fields.{Taken, Perhaps, CertificateFields, Outermost, TbsFields}
use Rattle.asn.proofs.Terms.Fields.Optional.{absent, present}
use Rattle.der.specs.Header.{children_of}
use Rattle.der.specs.declared.header.Head.{Head}
use Rattle.asn.specs.declared.fitting.Misfit.TheVariants.{Stranger, Wrong}
use Rattle.std.specs.Prelude.{Ok, Err}

pub takes_tag : (i tag : ℕ) → eqb i 0 ≡ false → takes i tag ≡ true → tag ≡ i
takes_tag i tag z t = sym (eqb-true i tag (rw z at t))

pub parts_fit : (i : ℕ) (p : Slots) (s : List ℕ) (h : Head) → fits (alt i (parts p) none) s h ≡ Ok tt
    → (takes i h.tag ≡ true) × (follows p s h.at (children_of s h.body h.end) ≡ Ok tt)
unfolding fits holds
parts_fit i p s h = go (takes i h.tag)
  where
    go : (b : Bool) → cond b (follows p s h.at (children_of s h.body h.end)) (Err Stranger) ≡ Ok tt
        → (b ≡ true) × (follows p s h.at (children_of s h.body h.end) ≡ Ok tt)
    go true e = (refl, e)
    go false e = (cc, cc)

-- an element that fits, where another would have been wrong
first_fits : (v rest : Verdict) (p : ℕ) → unless_wrong v (Err (Wrong p)) rest ≡ Ok tt → (v ≡ Ok tt) × (rest ≡ Ok tt)
first_fits (Err Stranger) rest p e = (cc, cc)
first_fits (Ok _) rest p e = (refl, e)
first_fits (Err (Wrong q)) rest p e = (cc, cc)

pub one_fits : (f : Form) (p : Slots) (s : List ℕ) (o : ℕ) (hs : List Head) → follows (one f p) s o hs ≡ Ok tt → Taken f p s o hs
unfolding follows
one_fits f p s o [] e = let z : ◌≡◌ {A = ℕ} 0 1 = cc in absurd (omega arith)
one_fits f p s o (h ∷ hs) e =
    let w = first_fits (fits f s h) (follows p s o hs) h.at e in
    record { first = h; rest = hs; is = refl; fit = w.0; more = w.1 }

pub done_fits : (s : List ℕ) (o : ℕ) (hs : List Head) → follows done s o hs ≡ Ok tt → hs ≡ []
unfolding follows
done_fits s o [] e = refl
done_fits s o (h ∷ hs) e = cc

pub opt_fits : (f : Form) (p : Slots) (s : List ℕ) (o : ℕ) (hs : List Head) → follows (opt f p) s o hs ≡ Ok tt → Perhaps f p s o hs
unfolding follows
opt_fits f p s o [] e = record { front = []; rest = []; is = refl; fit = absent; more = e }
opt_fits f p s o (h ∷ hs) e = go (fits f s h) refl e
  where
    go : (v : Verdict) → fits f s h ≡ v → unless_wrong v (follows p s o (h ∷ hs)) (follows p s o hs) ≡ Ok tt → Perhaps f p s o (h ∷ hs)
    go (Err Stranger) k e = record { front = []; rest = h ∷ hs; is = refl; fit = absent; more = e }
    go (Ok _) k e = record { front = h ∷ []; rest = hs; is = refl; fit = present k; more = e }
    go (Err (Wrong q)) k e = let z : ◌≡◌ {A = ℕ} 0 1 = cc in absurd (omega arith)

-- the members of a Certificate
certificate_members : (s : List ℕ) (h : Head) → fits certificate s h ≡ Ok tt → CertificateFields s (children_of s h.body h.end)
unfolding certificate
certificate_members s h e =
    let k = (parts_fit 0x30 _ s h e).1 in
    let a = one_fits _ _ s h.at _ k in
    let b = one_fits _ _ s h.at _ a.more in
    let c = one_fits _ _ s h.at _ b.more in
    let d = done_fits s h.at _ c.more in
    record {
      tbs = a.first;
      algorithm = b.first;
      signature = c.first;
      is = cc (a.is, b.is, c.is, d);
      tbs_fits = a.fit;
      algorithm_fits = b.fit;
      signature_fits = c.fit;
    }

pub certificate_fields : (s : List ℕ) → certificate_verdict s ≡ Ok tt → Outermost s (children_of s 0 (length s))
unfolding certificate_verdict
certificate_fields s e =
    let a = one_fits certificate done s 0 (children_of s 0 (length s)) e in
    let d = done_fits s 0 a.rest a.more in
    record { whole = a.first; is = cc (a.is, d); members = certificate_members s a.first a.fit }

-- the members of the TBSCertificate
pub tbs_fields : (s : List ℕ) (h : Head) → fits tbs_certificate s h ≡ Ok tt → TbsFields s (children_of s h.body h.end)
unfolding tbs_certificate
tbs_fields s h e =
    let k = (parts_fit 0x30 _ s h e).1 in
    let v = opt_fits _ _ s h.at _ k in
    let serial = one_fits _ _ s h.at _ v.more in
    let algorithm = one_fits _ _ s h.at _ serial.more in
    let issuer = one_fits _ _ s h.at _ algorithm.more in
    let period = one_fits _ _ s h.at _ issuer.more in
    let subject = one_fits _ _ s h.at _ period.more in
    let key = one_fits _ _ s h.at _ subject.more in
    let one = opt_fits _ _ s h.at _ key.more in
    let two = opt_fits _ _ s h.at _ one.more in
    let three = opt_fits _ _ s h.at _ two.more in
    let end = done_fits s h.at _ three.more in
    record {
      versions = v.front;
      serial = serial.first;
      algorithm = algorithm.first;
      issuer = issuer.first;
      period = period.first;
      subject = subject.first;
      key = key.first;
      issuer_id = one.front;
      subject_id = two.front;
      extended = three.front;
      is =
          v.is
          ∙ ap (λ (l : List Head). v.front ++ l)
          (serial.is
          ∙ ap (λ (l : List Head). serial.first ∷ l)
          (algorithm.is
          ∙ ap (λ (l : List Head). algorithm.first ∷ l)
          (issuer.is
          ∙ ap (λ (l : List Head). issuer.first ∷ l)
          (period.is
          ∙ ap (λ (l : List Head). period.first ∷ l)
          (subject.is
          ∙ ap (λ (l : List Head). subject.first ∷ l)
          (key.is
          ∙ ap (λ (l : List Head). key.first ∷ l)
          (one.is
          ∙ ap (λ (l : List Head). one.front ++ l)
          (two.is
          ∙ ap (λ (l : List Head). two.front ++ l)
          (three.is
          ∙ (ap (λ (l : List Head). three.front ++ l) end
          ∙ append-nil three.front))))))))));
      versions_fit = v.fit;
      serial_fits = serial.fit;
      algorithm_fits = algorithm.fit;
      issuer_fits = issuer.fit;
      period_fits = period.fit;
      subject_fits = subject.fit;
      key_fits = key.fit;
      issuer_id_fits = one.fit;
      subject_id_fits = two.fit;
      extended_fit = three.fit;
    }

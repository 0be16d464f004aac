-- Rules 201 to 208: where they are broken.
--     key_ok        each of them at elements of the certificate, in their order
-- Assumes nothing.
use mathlib.Core.Path.{◌≡◌, refl, sym, ap, ◌∙◌}
use mathlib.Core.List.{List, [], ◌∷◌}
use mathlib.Core.List.Memᴰ.{tail as behind}
use mathlib.Core.Bool.{Bool, true, false, not, ◌&&◌}
use Prim.Native.Nat.{ℕ}
use native.Mathlib.Omega.{arith}
use lib.Dec.{ltb, eqb}
use borrow.Author.Tests.{ltb-true, ltb-false, eqb-true}
use Rattle.rules_key.specs.Algorithm.{algorithm_rows}
use Rattle.rules_key.specs.Bits.{bits_from, sequence_in, modulus_of, exponent_of, two_positive, rsa_bits}
use Rattle.rules_key.specs.Rsa.{judges_numbers, modulus, exponent, rsa_rows}
use Rattle.rules_key.specs.Rules.{key_rows}
use Rattle.octets.specs.Octets.{octet_at}
use Rattle.octets.proofs.Laws.Tests.{and_l, and_r}
use Rattle.der.specs.Header.{head_of, children_of}
use Rattle.der.specs.Contents.{constructed}
use Rattle.der.specs.Elements.HeldFrom.{outer}
use Rattle.der.specs.Soundness.{stretch_soundness}
use Rattle.der.specs.declared.header.Head.{Head}
use Rattle.der.proofs.Laws.Header.{head_narrow}
use Rattle.asn.specs.Answers.{certificate_verdict}
use Rattle.numbers.specs.Numbers.{modulus_ok, long_modulus, exponent_ok}
use Rattle.primes.specs.Primes.{primes_below, free_of}
use Rattle.profiles.specs.declared.fields.Profile.{Profile}
use Rattle.certificate.specs.Issuer.{Known}
use Rattle.facts.specs.Case.{case_in}
use Rattle.facts.specs.Elements.{Fills, subject_key, bits_start, RsaBits, Element}
use Rattle.facts.proofs.Laws.Members.{AllElements, here, among, same_element_lem, members_by}
use Rattle.facts.specs.Elements.Topmost.{in_bits}
use Rattle.facts.specs.Kinds.{is_rsa}
use Rattle.facts.proofs.Laws.Key.{algorithm_element, bits_element}
use Rattle.report.specs.Rows.{◌for◌⦂◌, broken_at}
use Rattle.report.proofs.Terms.Rows.{RowOk, RowsOk}
use Rattle.report.proofs.Terms.Rows.RowsOk.{no_rows, more_rows}
use Rattle.report.proofs.Laws.Rows.{at_ok}
use Rattle.rules_key.proofs.Laws.Bits.{rsa_members}
use Rattle.std.specs.Prelude.{is_ok, Ok}
use Rattle.der.proofs.Laws.Walks.{ok_alone}

-- ---- what rule 204 says of the bits

record Bits (s : List ℕ) (h : Head) : Type 0 where
  unused : octet_at s h.body ≡ 0
  from : bits_from h ≡ bits_start h
  sound : Fills s (bits_start h) h.end
  tag : (head_of s (bits_start h) h.end).tag ≡ 0x30

-- where an element is found, the string is longer than the octet that counts unused bits
from_behind : (s : List ℕ) (h : Head) → (sequence_in s h).tag ≡ 0x30 → bits_from h ≡ bits_start h
from_behind s h t = go (ltb (bits_start h) h.end) refl
  where
    go : (b : Bool) → ltb (bits_start h) h.end ≡ b → bits_from h ≡ bits_start h
    go true e = let l = ltb-true (bits_start h) h.end e in omega arith
    go false e =
        let l = ltb-false (bits_start h) h.end e in
        let z : (sequence_in s h).tag ≡ 0 = ap (λ (x : Head). x.tag) (head_narrow s (bits_from h) h.end (omega arith)) in
        absurd (omega (arith, z, t))

bits_said : (s : List ℕ) (h : Head) → rsa_bits s h ≡ true → Bits s h
unfolding rsa_bits
bits_said s h t =
    let two = two_positive s (children_of s (sequence_in s h).body (sequence_in s h).end) in
    let sound = is_ok (stretch_soundness s (bits_from h) h.end) in
    let a = and_r (eqb (octet_at s h.body) 0) (sound && (eqb (sequence_in s h).tag 48 && two)) t in
    let tag = eqb-true (sequence_in s h).tag 48 (and_l (eqb (sequence_in s h).tag 48) two (and_r sound (eqb (sequence_in s h).tag 48 && two) a)) in
    let from = from_behind s h tag in
    record {
      unused = eqb-true (octet_at s h.body) 0 (and_l (eqb (octet_at s h.body) 0) (sound && (eqb (sequence_in s h).tag 48 && two)) t);
      from = from;
      sound = ap (λ (n : ℕ). stretch_soundness s n h.end) (sym from) ∙ ok_alone _ (and_l sound (eqb (sequence_in s h).tag 48 && two) a);
      tag = ap (λ (n : ℕ). (head_of s n h.end).tag) (sym from) ∙ tag;
    }

-- ---- of a certificate that fits

module _ (s : List ℕ) (e : certificate_verdict s ≡ Ok tt) where
  abbrev bits : Head
  bits = (subject_key s).bits

  -- the two INTEGERs, where they are judged
  in_sequence : judges_numbers s (subject_key s) ≡ true → AllElements s (modulus_of s bits ∷ exponent_of s bits ∷ [])
  in_sequence t h i =
      let kept = and_r (is_rsa (subject_key s).kind) (rsa_bits s bits) t in
      let b = bits_said s bits kept in
      let string : RsaBits s bits = record { rsa = and_l (is_rsa (subject_key s).kind) (rsa_bits s bits) t; is = refl; unused = b.unused } in
      let whole : sequence_in s bits ≡ head_of s (bits_start bits) bits.end = ap (λ (n : ℕ). head_of s n bits.end) b.from in
      let tag : (sequence_in s bits).tag ≡ 0x30 = ap (λ (x : Head). x.tag) whole ∙ b.tag in
      let sequence = same_element_lem whole (outer (in_bits string b.sound b.tag)) in
      members_by s (sequence_in s bits) (ap constructed tag) sequence h (among (rsa_members s bits kept) i)

  module _ (t : judges_numbers s (subject_key s) ≡ true) where
    modulus_element : Element s (modulus_of s bits)
    modulus_element = in_sequence t _ here

    exponent_element : Element s (exponent_of s bits)
    exponent_element = in_sequence t _ (behind here)

  -- ---- rules 201 to 208

  -- a rule on the modulus, and one on the exponent
  modulus_ok_lem : {ps : List ℕ} (rule : ℕ) (bad : Bool) → RowOk (Element s) (rule for ps ⦂ broken_at (judges_numbers s (subject_key s) && bad) (modulus_of s bits))
  modulus_ok_lem rule bad = at_ok rule (judges_numbers s (subject_key s) && bad) _ (λ t. modulus_element (and_l (judges_numbers s (subject_key s)) bad t))

  exponent_ok_lem : {ps : List ℕ} (rule : ℕ) (bad : Bool) → RowOk (Element s) (rule for ps ⦂ broken_at (judges_numbers s (subject_key s) && bad) (exponent_of s bits))
  exponent_ok_lem rule bad = at_ok rule (judges_numbers s (subject_key s) && bad) _ (λ t. exponent_element (and_l (judges_numbers s (subject_key s)) bad t))

  algorithm_ok : {ps : List ℕ} (rule : ℕ) (bad : Bool) → RowOk (Element s) (rule for ps ⦂ broken_at bad (subject_key s).algorithm)
  algorithm_ok rule bad = at_ok rule bad _ (λ t. algorithm_element s e)

  pub key_ok : (p : Profile) (k : Known) → RowsOk (Element s) (key_rows p (case_in s k))
  unfolding key_rows algorithm_rows rsa_rows
  key_ok p k =
      more_rows (algorithm_ok 201 _)
      (more_rows (algorithm_ok 202 _)
      (more_rows (algorithm_ok 203 _)
      (more_rows (at_ok 204 _ bits (λ t. bits_element s e))
      (more_rows (modulus_ok_lem 205 (not (modulus_ok (modulus s (subject_key s)))))
      (more_rows (exponent_ok_lem 206 (not (exponent_ok (exponent s (subject_key s)))))
      (more_rows (modulus_ok_lem 207 (not (free_of (primes_below 752) (modulus s (subject_key s)))))
      (more_rows (modulus_ok_lem 208 (not (long_modulus (modulus s (subject_key s))))) no_rows)))))))

-- What is read of a certificate lies within its octets, whether it is accepted or not.
--     between_head, between_wider                             a header that is read; a wider stretch
--     between_spans                                           an element ends no earlier than it starts
--     between_first, between_after, between_past, between_tag members of an element
--     certificate_inside                                      the fields
--     members_inside                                          the members of a list, so also the extensions
--     first_inside, value_part_inside, key_inside             the first member, the value of an extension, the parts of a key
-- Assumes nothing.
use mathlib.Core.Path.{◌≡◌, refl}
use mathlib.Core.List.{List}
use mathlib.Core.Bool.{Bool, true, false, cond}
use Prim.Native.Nat.{ℕ, ◌≤◌}
use native.Mathlib.Nat.{le_trans}
use native.Mathlib.Omega.{arith}
use lib.ListN.{length}
use lib.Dec.{ltb, eqb}
use borrow.Author.Tests.{ltb-true, ltb-false}
use Rattle.certificate.proofs.Terms.Inside.{Between, LiesIn, FieldsInside, KeyInside, AllBetween, AllInside}
use Rattle.certificate.proofs.Terms.Inside.AllBetween.{none, more}
use Rattle.certificate.specs.Fields.{whole_of, tbs_of, outer_of, version_in, serial_in, inner_in, issuer_in, period_in, subject_in, key_in, list_after}
use Rattle.certificate.specs.Fields.{extension_list_in, not_before_in, not_after_in, certificate_of}
use Rattle.certificate.specs.Key.{key_of}
use Rattle.certificate.specs.Extensions.{extension_of}
use Rattle.der.specs.Header.{head_of, broken_head, children_of}
use Rattle.der.proofs.Terms.Walking.{Chain}
use Rattle.der.proofs.Terms.Walking.Chain.{done, next}
use Rattle.der.specs.declared.header.Head.{Head}
use Rattle.der.proofs.Laws.Header.{head_start, head_forward, head_body, head_narrow}
use Rattle.der.proofs.Laws.Walking.{children_chain}
use Rattle.der.specs.Members.{missing, first_in, after, past, inside_tag}

pub between_wider : (a b c d : ℕ) (h : Head) → a ≤ b → c ≤ d → Between b c h → Between a d h
between_wider a b c d h l m k = record { starts = omega (arith, k.starts); holds = k.holds; forward = k.forward; ends = omega (arith, k.ends) }

pub between_spans : {from to : ℕ} {h : Head} → Between from to h → h.at ≤ h.end
between_spans k = le_trans k.holds k.forward

between_none : (at end : ℕ) → at ≤ end → Between at end (broken_head at end)
between_none at end l = record { starts = omega arith; holds = l; forward = omega arith; ends = omega arith }

pub between_missing : (from end : ℕ) → from ≤ end → Between from end (missing end)
between_missing from end l = record { starts = l; holds = omega arith; forward = omega arith; ends = omega arith }

pub between_head : (s : List ℕ) (at end : ℕ) → at ≤ end → Between at end (head_of s at end)
between_head s at end l = go (ltb at end) refl
  where
    go : (t : Bool) → ltb at end ≡ t → Between at end (head_of s at end)
    go true e =
        let h = ltb-true at end e in
        let f = head_forward s at end h in
        let b = head_body s at end h in
        let a = head_start s at end in
        record { starts = omega (arith, a); holds = omega (arith, a, b.0); forward = b.1; ends = f.1 }
    go false e =
        let h = ltb-false at end e in
        rw (head_narrow s at end (omega (arith, h))) (between_none at end l)

module _ (s : List ℕ) (from to : ℕ) (h : Head) (k : Between from to h) where
  pub between_first : Between from to (first_in s h)
  between_first =
      between_wider from h.body h.end to (first_in s h) (omega (arith, k.starts, k.holds)) k.ends
      (between_head s h.body h.end k.forward)

  pub between_after : Between from to (after s h to)
  between_after =
      between_wider from h.end to to (after s h to) (omega (arith, k.starts, k.holds, k.forward)) (omega arith)
      (between_head s h.end to k.ends)

  pub between_past : (tag : ℕ) → Between from to (past tag s h to)
  unfolding past
  between_past tag = go (eqb h.tag tag)
    where
      go : (t : Bool) → Between from to (cond t (after s h to) h)
      go true = between_after
      go false = k

  pub between_tag : (tag : ℕ) → Between from to (inside_tag tag s h to)
  unfolding inside_tag
  between_tag tag = go (eqb h.tag tag)
    where
      go : (t : Bool) → Between from to (cond t (first_in s h) (missing to))
      go true = between_first
      go false = between_missing from to (omega (arith, k.starts, k.holds, k.forward, k.ends))

-- ---- the fields of a certificate

module _ (s : List ℕ) where
  whole_inside : LiesIn s (whole_of s)
  unfolding whole_of
  whole_inside = between_head s 0 (length s) (omega arith)

  tbs_between : Between (whole_of s).body (whole_of s).end (tbs_of s)
  unfolding tbs_of
  tbs_between = between_head s (whole_of s).body (whole_of s).end whole_inside.forward

  -- what lies in the outermost element lies in the octets
  in_whole : (h : Head) → Between (whole_of s).body (whole_of s).end h → LiesIn s h
  in_whole h k = between_wider 0 (whole_of s).body (whole_of s).end (length s) h (omega arith) whole_inside.ends k

  outer_inside : LiesIn s (outer_of s)
  unfolding outer_of
  outer_inside = in_whole _ (between_after s (whole_of s).body (whole_of s).end (tbs_of s) tbs_between)

  -- and so does what lies in the TBSCertificate
  in_tbs : (h : Head) → Between (tbs_of s).body (tbs_of s).end h → LiesIn s h
  in_tbs h k = let t = in_whole (tbs_of s) tbs_between in between_wider 0 (tbs_of s).body (tbs_of s).end (length s) h (omega arith) t.ends k

  version_between : Between (tbs_of s).body (tbs_of s).end (version_in s (tbs_of s))
  unfolding version_in
  version_between = between_head s (tbs_of s).body (tbs_of s).end tbs_between.forward

  serial_between : Between (tbs_of s).body (tbs_of s).end (serial_in s (tbs_of s))
  unfolding serial_in
  serial_between = between_past s _ _ _ version_between 0xA0

  inner_between : Between (tbs_of s).body (tbs_of s).end (inner_in s (tbs_of s))
  unfolding inner_in
  inner_between = between_after s _ _ _ serial_between

  issuer_between : Between (tbs_of s).body (tbs_of s).end (issuer_in s (tbs_of s))
  unfolding issuer_in
  issuer_between = between_after s _ _ _ inner_between

  period_between : Between (tbs_of s).body (tbs_of s).end (period_in s (tbs_of s))
  unfolding period_in
  period_between = between_after s _ _ _ issuer_between

  subject_between : Between (tbs_of s).body (tbs_of s).end (subject_in s (tbs_of s))
  unfolding subject_in
  subject_between = between_after s _ _ _ period_between

  key_between : Between (tbs_of s).body (tbs_of s).end (key_in s (tbs_of s))
  unfolding key_in
  key_between = between_after s _ _ _ subject_between

  extensions_between : Between (tbs_of s).body (tbs_of s).end (extension_list_in s (tbs_of s))
  unfolding extension_list_in list_after
  extensions_between = between_tag s _ _ _ (between_past s _ _ _ (between_past s _ _ _ (between_after s _ _ _ key_between) 0x81) 0x82) 0xA3

  -- in the Validity
  before_between : Between (period_in s (tbs_of s)).body (period_in s (tbs_of s)).end (not_before_in s (period_in s (tbs_of s)))
  unfolding not_before_in
  before_between = between_head s _ _ period_between.forward

  later_between : Between (period_in s (tbs_of s)).body (period_in s (tbs_of s)).end (not_after_in s (period_in s (tbs_of s)))
  unfolding not_after_in
  later_between = between_after s _ _ _ before_between

  in_period : (h : Head) → Between (period_in s (tbs_of s)).body (period_in s (tbs_of s)).end h → LiesIn s h
  in_period h k = between_wider 0 _ _ (length s) h (omega arith) (in_tbs _ period_between).ends k

  pub certificate_inside : FieldsInside s (certificate_of s)
  unfolding certificate_of
  certificate_inside =
      record {
        tbs = in_whole _ tbs_between;
        version = in_tbs _ version_between;
        serial = in_tbs _ serial_between;
        inner = in_tbs _ inner_between;
        issuer = in_tbs _ issuer_between;
        period = in_tbs _ period_between;
        before = in_period _ before_between;
        later = in_period _ later_between;
        subject = in_tbs _ subject_between;
        key = in_tbs _ key_between;
        extensions = in_tbs _ extensions_between;
        outer = outer_inside;
      }

-- ---- the members of an element, and the parts of an extension and of a key

chain_between : {s : List ℕ} {end at : ℕ} {hs : List Head} (to : ℕ) → end ≤ to → Chain s end at hs → AllBetween 0 to hs
chain_between to l done = none
chain_between {s} {end} to l (next {at} {hs} h c) =
    more (between_wider 0 at end to (head_of s at end) (omega arith) l (between_head s at end (omega (arith, h)))) (chain_between to l c)

module _ (s : List ℕ) (h : Head) (k : LiesIn s h) where
  in_element : (x : Head) → Between h.body h.end x → LiesIn s x
  in_element x b = between_wider 0 h.body h.end (length s) x (omega arith) k.ends b

  first_between : Between h.body h.end (first_in s h)
  first_between = between_head s h.body h.end k.forward

  pub first_inside : LiesIn s (first_in s h)
  first_inside = in_element _ first_between

  pub members_inside : AllInside s (children_of s h.body h.end)
  members_inside = chain_between (length s) k.ends (children_chain s h.body h.end k.forward)

  pub value_part_inside : LiesIn s (extension_of s h).value
  unfolding extension_of
  value_part_inside = in_element _ (between_past s _ _ _ (between_after s _ _ _ first_between) 0x01)

-- its members are in the AlgorithmIdentifier, which is in the SubjectPublicKeyInfo
pub key_inside : (s : List ℕ) (key : Head) → LiesIn s key → KeyInside s (key_of s key)
unfolding key_of
key_inside s key k =
    let a = first_inside s key k in
    record {
      algorithm = a;
      parameters = in_element s (first_in s key) a _ (between_after s _ _ _ (first_between s (first_in s key) a));
      bits = in_element s key k _ (between_after s _ _ _ (first_between s key k));
    }

-- The fields of a certificate that fits are elements of it, and so are the places of rules 101 to 111.
--     field_elements       the fields
--     in_extended          the [3], if there is one
--     fields_at            rules 101 to 111
-- Assumes nothing.
use mathlib.Core.Path.{◌≡◌, refl, sym, ◌∙◌}
use mathlib.Core.List.Memᴰ
use mathlib.Core.List.{List, [], ◌∷◌, ◌++◌}
use mathlib.Core.List.Memᴰ.{tail as behind}
use Prim.Native.Nat.{ℕ}
use lib.ListN.{length}
use Rattle.facts.specs.Elements.{Element}
use Rattle.facts.specs.Elements.Topmost.{outermost}
use Rattle.facts.proofs.Laws.Members.{AllElements, AllMembers, here, among, same_element_lem, members_of_lem}
use Rattle.der.specs.Header.{children_of}
use Rattle.der.specs.Elements.HeldFrom.{outer}
use Rattle.der.specs.declared.header.Head.{Head}
use Rattle.asn.specs.Grammar.{fits}
use Rattle.asn.specs.Grammar.Slots.{done}
use Rattle.asn.specs.Answers.{certificate_verdict}
use Rattle.asn.specs.Module.{certificate, tbs_certificate, validity}
use Rattle.asn.proofs.Terms.Fields.{TbsFields}
use Rattle.asn.proofs.Laws.Fields.{one_fits}
use Rattle.certificate.specs.Fields.{certificate_of}
use Rattle.certificate.proofs.Terms.Named.{VersionNamed}
use Rattle.certificate.proofs.Terms.Named.VersionNamed.{unwritten, written}
use Rattle.certificate.proofs.Laws.Named.{named}
use Rattle.der.proofs.Laws.Members.{children_first}
use Rattle.der.specs.Members.{members_in}
use Rattle.std.specs.Prelude.{Ok}

pub record FieldElements (s : List ℕ) : Type 0 where
  pub tbs : Element s (certificate_of s).tbs
  pub outer : Element s (certificate_of s).outer
  pub version : Element s (certificate_of s).version
  pub serial : Element s (certificate_of s).serial
  pub inner : Element s (certificate_of s).inner
  pub issuer : Element s (certificate_of s).issuer
  pub period : Element s (certificate_of s).period
  pub before : Element s (certificate_of s).not_before
  pub later : Element s (certificate_of s).not_after
  pub subject : Element s (certificate_of s).subject
  pub key : Element s (certificate_of s).key

module _ (s : List ℕ) (e : certificate_verdict s ≡ Ok tt) where
  -- ---- the members of the outermost element

  abbrev whole : Head
  whole = (named s e).outermost.whole

  abbrev tbs : Head
  tbs = (named s e).outermost.members.tbs

  whole_fits : fits certificate s whole ≡ Ok tt
  unfolding certificate_verdict
  whole_fits =
      let a = one_fits certificate done s 0 (children_of s 0 (length s)) e in
      let same : a.first ≡ whole = cc (a.is, (named s e).outermost.is) in
      rw (← same) a.fit

  whole_element : Element s whole
  whole_element = same_element_lem (sym (children_first s 0 (length s) _ _ (named s e).outermost.is).is) (outer outermost)

  in_whole : AllMembers s whole
  unfolding certificate
  in_whole = members_of_lem 0x30 _ s whole refl refl whole_fits whole_element

  tbs_element : Element s tbs
  tbs_element = in_whole tbs (among (named s e).outermost.members.is here)

  -- ---- the members of the TBSCertificate

  in_tbs : AllMembers s tbs
  unfolding tbs_certificate
  in_tbs = members_of_lem 0x30 _ s tbs refl refl (named s e).outermost.members.tbs_fits tbs_element

  abbrev fields : TbsFields s (members_in s tbs)
  fields = (named s e).fields

  -- the members behind the key, which may be missing, and all behind the version
  abbrev optional : List Head
  optional = fields.issuer_id ++ (fields.subject_id ++ fields.extended)

  abbrev required : List Head
  required = fields.serial ∷ fields.algorithm ∷ fields.issuer ∷ fields.period ∷ fields.subject ∷ fields.key ∷ optional

  in_required : AllElements s required
  in_required h i = in_tbs h (among fields.is (Memᴰ.append_right fields.versions i))

  pub in_extended : AllElements s fields.extended
  in_extended h i =
      let last = Memᴰ.append_right fields.issuer_id (Memᴰ.append_right fields.subject_id i) in
      in_required h (behind (behind (behind (behind (behind (behind last))))))

  version_element : Element s (certificate_of s).version
  version_element = go fields.versions (named s e).version (λ h i. in_tbs h (among fields.is (Memᴰ.append_left required i)))
    where
      version : Head
      version = (certificate_of s).version

      go : (hs : List Head) → VersionNamed version (certificate_of s).serial hs → AllElements s hs → Element s version
      go [] (unwritten q) k = same_element_lem (q ∙ (named s e).serial) (in_required _ here)
      go (h ∷ []) (written q) k = same_element_lem q (k h here)
      go (h ∷ (_ ∷ _)) x6 k = elim x6 [ ]

  -- ---- the two times

  period_element : Element s fields.period
  period_element = in_required _ (behind (behind (behind here)))

  in_period : AllMembers s fields.period
  unfolding validity
  in_period = members_of_lem 0x30 _ s fields.period refl refl fields.period_fits period_element

  pub field_elements : FieldElements s
  field_elements =
      let n = named s e in
      record {
        tbs = same_element_lem n.tbs tbs_element;
        outer = same_element_lem n.outer (in_whole _ (among n.outermost.members.is (behind here)));
        version = version_element;
        serial = same_element_lem n.serial (in_required _ here);
        inner = same_element_lem n.inner (in_required _ (behind here));
        issuer = same_element_lem n.issuer (in_required _ (behind (behind here)));
        period = same_element_lem n.period period_element;
        before = in_period _ (among n.times here);
        later = in_period _ (among n.times (behind here));
        subject = same_element_lem n.subject (in_required _ (behind (behind (behind (behind here)))));
        key = same_element_lem n.key (in_required _ (behind (behind (behind (behind (behind here))))));
      }

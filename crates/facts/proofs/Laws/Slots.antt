-- The extensions of a certificate that fits, and what is in the slots.
--     in_list                      the extensions are elements
--     list_place_lem                   and so is their list, or the TBS structure where there is none
--     standing_ok                  an extension that is there, its OCTET STRING, and a good value: the one element in it, which is of its slot's type
-- Assumes nothing.
use mathlib.Core.Path.{◌≡◌, refl, sym, ap, ◌∙◌, subst}
use mathlib.Core.List.Memᴰ
use mathlib.Core.List.{List, [], ◌∷◌}
use mathlib.Core.List.Memᴰ.{tail as behind}
use mathlib.Core.Logic.{⊎_elim}
use mathlib.Core.Bool.{Bool, true, false, cond, false≢true}
use Prim.Native.Nat.{ℕ, ◌<◌}
use lib.ListN.{get_or}
use native.Mathlib.Nat.{le_refl}
use Rattle.facts.specs.Case.{case_in, standing_of}
use Rattle.facts.specs.Elements.{extensions_of, Element}
use Rattle.facts.specs.Elements.Topmost.{in_value}
use Rattle.facts.proofs.Laws.Members.{AllElements, here, among, same_element_lem, members_by, members_of_lem}
use Rattle.der.specs.Contents.{constructed}
use Rattle.der.specs.Elements.{is_empty}
use Rattle.der.specs.Elements.HeldFrom.{outer}
use Rattle.der.specs.Members.{missing, members_in}
use Rattle.der.specs.declared.header.Head.{Head}
use Rattle.der.proofs.Laws.Children.{children_done}
use Rattle.der.proofs.Laws.Members.{children_first}
use Rattle.asn.specs.Grammar.{fits}
use Rattle.asn.specs.Module.{extensions, explicit, value_of}
use Rattle.asn.specs.Answers.{certificate_verdict}
use Rattle.asn.proofs.Terms.Fields.{Optional}
use Rattle.asn.proofs.Terms.Fields.Optional.{absent, present}
use Rattle.certificate.specs.Fields.{certificate_of}
use Rattle.certificate.specs.Extensions.{extension_of}
use Rattle.certificate.specs.Slots.{slot_count, empty_slot, slots_of}
use Rattle.certificate.proofs.Terms.Named.{ExtensionsNamed, ExtensionNamed, AllNamed}
use Rattle.certificate.proofs.Terms.Named.ExtensionsNamed.{without, listed}
use Rattle.certificate.proofs.Terms.Named.AllNamed.{none, more}
use Rattle.certificate.specs.Issuer.{Known}
use Rattle.certificate.specs.Standing.{Standing, standing_in, extension_by, standing_by}
use Rattle.certificate.specs.declared.extensions.Extension.{Extension}
use Rattle.certificate.specs.declared.slots.Slot.{Slot}
use Rattle.certificate.proofs.Laws.Named.{named}
use Rattle.certificate.proofs.Laws.Parts.{certificate_extensions_named}
use Rattle.certificate.proofs.Laws.Standing.{standing_is, table_at}
use Rattle.certificate.proofs.Laws.Values.{slot_there, slot_good}
use Rattle.report.specs.Order.{In}
use Rattle.facts.proofs.Laws.Fields.{field_elements, in_extended}
use Rattle.std.specs.Prelude.{Ok}

named_in : {s : List ℕ} {h : Head} {hs : List Head} → AllNamed s hs → In h hs → ExtensionNamed s h
named_in none i = absurd (Memᴰ.not-nil i)
named_in {s} {h} (more {h = x} {hs = xs} k ks) i =
    ⊎_elim (λ (q : h ≡ x). subst (λ (y : Head). ExtensionNamed s y) (sym q) k) (λ (j : In h xs). named_in ks j) (Memᴰ.cases_cons i)

-- an extension that is there
pub record ThereOk (s : List ℕ) (x : Extension) : Type 0 where
  pub place : Element s x.place
  pub value : Element s x.value

-- one with a good value
pub record GoodOk (s : List ℕ) (k : ℕ) (x : Extension) (v : Head) : Type 0 where
  pub there : ThereOk s x
  pub element : Element s v
  pub fit : fits (value_of k) s v ≡ Ok tt

abbrev pub StandingOk : List ℕ → ℕ → Standing → Type 0
StandingOk s k Standing.missing = Unit {0}
StandingOk s k (Standing.bad x) = ThereOk s x
StandingOk s k (Standing.good x v) = GoodOk s k x v

module _ (s : List ℕ) (e : certificate_verdict s ≡ Ok tt) where
  abbrev list : Head
  list = (certificate_of s).extensions

  abbrev last : ℕ
  last = (certificate_of s).tbs.end

  -- there is no list, and nothing in it, or it is the one member of the [3]
  data Listed : Type 0 where
    no_list : list.sound ≡ false → extensions_of s ≡ [] → Listed
    one_list : Element s list → AllElements s (extensions_of s) → Listed

  in_fitting : fits extensions s list ≡ Ok tt → Element s list → AllElements s (extensions_of s)
  unfolding extensions
  in_fitting f k = members_of_lem 0x30 _ s list refl refl f k

  list_is : Listed
  list_is = go (named s e).fields.extended (named s e).extensions (named s e).fields.extended_fit (in_extended s e)
    where
      go : (hs : List Head) → ExtensionsNamed s list last hs → Optional (explicit 3 extensions) s hs → AllElements s hs → Listed
      go [] (without m) absent k =
          no_list (ap (λ (h : Head). h.sound) m) ((λ i. members_in s (m i)) ∙ children_done s last last (le_refl last))
      go (h ∷ []) (listed is f) (present g) k =
          let element : Element s list = members_of_lem 0xA3 _ s h refl refl g (k h here) list (among is here) in
          one_list element (in_fitting f element)
      go (h ∷ (_ ∷ _)) x8 _ k = elim x8 [ ]

  list_element : list.sound ≡ true → Element s list
  list_element t = go list_is
    where
      go : Listed → Element s list
      go (no_list f n) = absurd (false≢true (sym f ∙ t))
      go (one_list k m) = k

  pub in_list : AllElements s (extensions_of s)
  in_list h i = go list_is
    where
      go : Listed → Element s h
      go (no_list f n) = absurd (Memᴰ.not-nil (among (sym n) i))
      go (one_list k m) = m h i

  value_element : (h : Head) → In h (extensions_of s) → Element s (extension_of s h).value
  value_element h i =
      let n = named_in (certificate_extensions_named s e) i in
      members_by s h (ap constructed n.tag) (in_list h i) _ (among n.is (behind (Memᴰ.append_right n.boolean here)))

  pub list_place_lem : Element s (cond list.sound list (certificate_of s).tbs)
  list_place_lem = go list.sound refl
    where
      go : (b : Bool) → list.sound ≡ b → Element s (cond b list (certificate_of s).tbs)
      go true t = list_element t
      go false t = (field_elements s e).tbs

  -- ---- a slot

  module _ (k : ℕ) (l : k < slot_count) where
    abbrev there : Slot
    there = get_or (slots_of s list) k (empty_slot (missing 0))

    extension_ok : is_empty there.place ≡ false → ThereOk s (extension_by there)
    extension_ok t =
        let n = slot_there s list k _ l t in
        record { place = in_list _ n.among; value = same_element_lem n.holder_is (value_element _ n.among) }

    good_ok : there.good ≡ true → GoodOk s k (extension_by there) there.element
    good_ok g =
        let n = slot_good s list k _ l g in
        record {
          there = extension_ok n.there;
          element = same_element_lem (sym (children_first s _ _ _ _ n.alone).is) (outer (in_value n.named.among n.named.holder_is n.filled));
          fit = n.element_fits;
        }

    slot_ok : StandingOk s k (standing_by there)
    slot_ok = go there.good refl (is_empty there.place) refl
      where
        go : (g : Bool) → there.good ≡ g → (b : Bool) → is_empty there.place ≡ b
            → StandingOk s k (cond g (Standing.good (extension_by there) there.element) (cond b Standing.missing (Standing.bad (extension_by there))))
        go true t b u = good_ok t
        go false t true u = tt
        go false t false u = extension_ok u

    pub standing_ok : (known : Known) → 0 < k → StandingOk s k (standing_of (case_in s known) k)
    standing_ok known m = subst (StandingOk s k) (standing_is s list k _ m l ∙ sym (table_at (standing_in s list) k m l)) slot_ok

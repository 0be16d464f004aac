-- Members as they are read, one from the other.
--     contents_read                  the contents of an element, by their start and their number
--     good_none, good_some           whether a value is good, by its tests
--     key_law, extension_law, list_law, slot_law, issuer_law
--                                    the parts of a key and of an extension; the extension list; a slot; the issuer
-- Assumes nothing.
use mathlib.Core.Path.{◌≡◌, refl, ap, ◌∙◌}
use mathlib.Core.List.{List}
use mathlib.Core.Bool.{Bool, true, false, not, ◌&&◌, ◌||◌, false≢true}
use Prim.Native.Nat.{ℕ, ◌-◌}
use Rattle.std.specs.Prelude.{Result}
use lib.Dec.{eqb}
use Rattle.certificate.specs.Fields.{list_after, certificate_of}
use Rattle.certificate.specs.Key.{kind_of, key_of}
use Rattle.certificate.specs.Extensions.{extension_of}
use Rattle.certificate.specs.Slots.{first_in_slot, is_good, slot_from}
use Rattle.certificate.specs.Issuer.{key_id_in, element_in, issuer_of}
use Rattle.certificate.specs.declared.fields.Certificate.{Certificate}
use Rattle.certificate.specs.declared.key.KeyKind.{KeyKind}
use Rattle.certificate.specs.declared.key.Key.{Key}
use Rattle.certificate.specs.declared.extensions.Extension.{Extension}
use Rattle.certificate.specs.declared.slots.Slot.{Slot}
use Rattle.certificate.specs.declared.issuer.Issuer.{Issuer}
use Rattle.octets.specs.Octets.{octets_from}
use Rattle.der.specs.Contents.{contents_of}
use Rattle.der.specs.Elements.{is_empty}
use Rattle.der.specs.declared.header.Head.{Head}
use Rattle.der.specs.Members.{members_in, first_in, after, second_in, past, inside_tag}
use Rattle.asn.specs.Answers.{value_ok}

-- h is the element as it was read, of n content octets
pub contents_read : (s : List ℕ) (x h : Head) (n : ℕ) → h ≡ x → n ≡ h.end - h.body → octets_from s h.body n ≡ contents_of s x
contents_read s x h n p q = (λ k. octets_from s h.body (q k)) ∙ (λ k. contents_of s (p k))

module _ (s : List ℕ) where
  pub key_law : (key algorithm identifier parameters bits : Head) (kind : KeyKind)
      → algorithm ≡ first_in s key → identifier ≡ first_in s algorithm
      → parameters ≡ after s identifier algorithm.end → bits ≡ after s algorithm key.end → kind ≡ kind_of s identifier
      → ◌≡◌ {A = Key} (record { algorithm = algorithm; parameters = parameters; bits = bits; kind = kind }) (key_of s key)
  unfolding key_of
  key_law key algorithm identifier parameters bits kind a i p b k =
      let identified : identifier ≡ first_in s (first_in s key) = i ∙ (λ j. first_in s (a j)) in
      let parameters_are : parameters ≡ after s (first_in s (first_in s key)) (first_in s key).end =
      p ∙ (λ j. after s (identified j) (a j).end) in
      let bits_are : bits ≡ after s (first_in s key) key.end = b ∙ (λ j. after s (a j) key.end) in
      let kind_is : kind ≡ kind_of s (first_in s (first_in s key)) = k ∙ (λ j. kind_of s (identified j)) in
      λ j. record { algorithm = a j; parameters = parameters_are j; bits = bits_are j; kind = kind_is j }

  pub extension_law : (h second value : Head) → second ≡ second_in s h → value ≡ past 0x01 s second h.end
      → ◌≡◌ {A = Extension} (record { place = h; critical = eqb second.tag 0x01; value = value }) (extension_of s h)
  unfolding extension_of
  extension_law h second value c v =
      let value_is : value ≡ past 0x01 s (second_in s h) h.end = v ∙ (λ j. past 0x01 s (c j) h.end) in
      λ j. record { place = h; critical = eqb (c j).tag 0x01; value = value_is j }

  -- past the two unique identifiers
  pub list_law : (key one two three list : Head) (end : ℕ) → one ≡ after s key end → two ≡ past 0x81 s one end → three ≡ past 0x82 s two end
      → list ≡ inside_tag 0xA3 s three end → list ≡ list_after s key end
  unfolding list_after
  list_law key one two three list end a b c d =
      let two_is : two ≡ past 0x81 s (after s key end) end = b ∙ (λ j. past 0x81 s (a j) end) in
      let three_is : three ≡ past 0x82 s (past 0x81 s (after s key end) end) end = c ∙ (λ j. past 0x82 s (two_is j) end) in
      d ∙ (λ j. inside_tag 0xA3 s (three_is j) end)

  -- b is whether the extension h is missing
  module _ (slot : ℕ) (h holder : Head) (b : Bool) (e : b ≡ is_empty h) where
    pub good_none : (eqb slot 0 || b) ≡ true → false ≡ is_good s slot h holder
    good_none t = rw (← e) (go (eqb slot 0) b t)
      where
        go : (x y : Bool) → (x || y) ≡ true → false ≡ ((not x && not y) && value_ok s slot holder.body holder.end)
        go true y t = refl
        go false true t = refl
        go false false t = absurd (false≢true t)

    pub good_some : (eqb slot 0 || b) ≡ false → value_ok s slot holder.body holder.end ≡ is_good s slot h holder
    good_some t = rw (← e) (go (eqb slot 0) b t)
      where
        go : (x y : Bool) → (x || y) ≡ false
            → value_ok s slot holder.body holder.end ≡ ((not x && not y) && value_ok s slot holder.body holder.end)
        go true y t = cc
        go false true t = cc
        go false false t = refl

  pub slot_law : (slot : ℕ) (h element : Head) (e : Extension) (good : Bool) → e ≡ extension_of s h → element ≡ first_in s e.value
      → good ≡ is_good s slot h e.value
      → ◌≡◌ {A = Slot} (record { place = h; critical = e.critical; holder = e.value; element = element; good = good }) (slot_from s slot h)
  unfolding slot_from
  slot_law slot h element e good x f g =
      let element_is : element ≡ first_in s (extension_of s h).value = f ∙ (λ j. first_in s (x j).value) in
      let good_is : good ≡ is_good s slot h (extension_of s h).value = g ∙ (λ j. is_good s slot h (x j).value) in
      λ j. record { place = h; critical = (x j).critical; holder = (x j).value; element = element_is j; good = good_is j }

  pub issuer_law : (c : Certificate) (place : Head) (v : Slot) (key : Result Head Head) → c ≡ certificate_of s
      → place ≡ first_in_slot s c.extensions.end (members_in s c.extensions) 3 → v ≡ slot_from s 3 place
      → key ≡ element_in v → ◌≡◌ {A = Issuer} (record { name = c.subject; key_id = key }) (issuer_of s)
  unfolding issuer_of key_id_in
  issuer_law c place v key p f g h =
      let place_is : place ≡ first_in_slot s (certificate_of s).extensions.end (members_in s (certificate_of s).extensions) 3 =
      f ∙ (λ j. first_in_slot s (p j).extensions.end (members_in s (p j).extensions) 3) in
      let v_is : v ≡ key_id_in s (certificate_of s).extensions = g ∙ ap (slot_from s 3) place_is in
      let key_is : key ≡ element_in (key_id_in s (certificate_of s).extensions) = h ∙ (λ j. element_in (v_is j)) in
      λ j. record { name = (p j).subject; key_id = key_is j }

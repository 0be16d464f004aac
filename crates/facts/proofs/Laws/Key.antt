-- The parts of a key are elements.
--     algorithm_element, bits_element
-- Assumes nothing.
use mathlib.Core.Path.{◌≡◌, refl}
use mathlib.Core.List.{List}
use mathlib.Core.List.Memᴰ.{tail as behind}
use Prim.Native.Nat.{ℕ}
use Rattle.facts.specs.Elements.{subject_key, Element}
use Rattle.asn.specs.Grammar.{fits}
use Rattle.asn.specs.Answers.{certificate_verdict}
use Rattle.asn.specs.Module.{subject_public_key_info}
use Rattle.certificate.specs.Fields.{certificate_of}
use Rattle.certificate.proofs.Laws.Named.{named}
use Rattle.certificate.proofs.Laws.Parts.{certificate_key_named}
use Rattle.facts.proofs.Laws.Members.{AllMembers, here, among, members_of_lem}
use Rattle.facts.proofs.Laws.Fields.{field_elements}
use Rattle.std.specs.Prelude.{Ok}

module _ (s : List ℕ) (e : certificate_verdict s ≡ Ok tt) where
  key_fits : fits subject_public_key_info s (certificate_of s).key ≡ Ok tt
  key_fits = rw (named s e).key (named s e).fields.key_fits

  in_key : AllMembers s (certificate_of s).key
  unfolding subject_public_key_info
  in_key = members_of_lem 0x30 _ s _ refl refl key_fits (field_elements s e).key

  pub algorithm_element : Element s (subject_key s).algorithm
  algorithm_element = in_key _ (among (certificate_key_named s e).is here)

  pub bits_element : Element s (subject_key s).bits
  bits_element = in_key _ (among (certificate_key_named s e).is (behind here))

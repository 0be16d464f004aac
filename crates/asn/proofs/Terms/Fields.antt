-- Where the fields of a certificate that fits are: the members of its lists, in RFC 5280's order. So reading a field needs no second judgement.
use mathlib.Core.Path.{◌≡◌}
use mathlib.Core.List.{List, [], ◌∷◌, ◌++◌}
use Prim.Native.Nat.{ℕ}
use Rattle.asn.specs.Grammar.{Form, Slots, fits, follows}
use Rattle.asn.specs.Module.{explicit, free, integer, bit_string, algorithm_identifier, name, validity, subject_public_key_info}
use Rattle.asn.specs.Module.{extensions, version, tbs_certificate}
use Rattle.der.specs.Header.{children_of}
use Rattle.der.specs.declared.header.Head.{Head}
use Rattle.std.specs.Prelude.{Ok}

-- a field that stands first among the elements, and the elements after it
pub record Taken (f : Form) (p : Slots) (s : List ℕ) (outer : ℕ) (hs : List Head) : Type 0 where
  pub first : Head
  pub rest : List Head
  pub is : hs ≡ first ∷ rest
  pub fit : fits f s first ≡ Ok tt
  pub more : follows p s outer rest ≡ Ok tt

-- a field that may be there: at most one element
pub data Optional (f : Form) (s : List ℕ) : List Head → Type 0 where
  absent : Optional f s []
  present : {h : Head} → fits f s h ≡ Ok tt → Optional f s (h ∷ [])

-- such a field at the front of the elements, and the elements after it
pub record Perhaps (f : Form) (p : Slots) (s : List ℕ) (outer : ℕ) (hs : List Head) : Type 0 where
  pub front : List Head
  pub rest : List Head
  pub is : hs ≡ front ++ rest
  pub fit : Optional f s front
  pub more : follows p s outer rest ≡ Ok tt

-- the members of a Certificate
pub record CertificateFields (s : List ℕ) (hs : List Head) : Type 0 where
  pub tbs : Head
  pub algorithm : Head
  pub signature : Head
  pub is : hs ≡ tbs ∷ algorithm ∷ signature ∷ []
  pub tbs_fits : fits tbs_certificate s tbs ≡ Ok tt
  pub algorithm_fits : fits algorithm_identifier s algorithm ≡ Ok tt
  pub signature_fits : fits bit_string s signature ≡ Ok tt

-- the outermost element, which stands alone, and its members
pub record Outermost (s : List ℕ) (hs : List Head) : Type 0 where
  pub whole : Head
  pub is : hs ≡ whole ∷ []
  pub members : CertificateFields s (children_of s whole.body whole.end)

-- the members of a TBSCertificate
pub record TbsFields (s : List ℕ) (hs : List Head) : Type 0 where
  pub versions : List Head
  pub serial : Head
  pub algorithm : Head
  pub issuer : Head
  pub period : Head
  pub subject : Head
  pub key : Head
  pub issuer_id : List Head
  pub subject_id : List Head
  pub extended : List Head
  pub is : hs ≡ versions ++ (serial ∷ algorithm ∷ issuer ∷ period ∷ subject ∷ key ∷ (issuer_id ++ (subject_id ++ extended)))
  pub versions_fit : Optional (explicit 0 version) s versions
  pub serial_fits : fits integer s serial ≡ Ok tt
  pub algorithm_fits : fits algorithm_identifier s algorithm ≡ Ok tt
  pub issuer_fits : fits name s issuer ≡ Ok tt
  pub period_fits : fits validity s period ≡ Ok tt
  pub subject_fits : fits name s subject ≡ Ok tt
  pub key_fits : fits subject_public_key_info s key ≡ Ok tt
  pub issuer_id_fits : Optional (free 1) s issuer_id
  pub subject_id_fits : Optional (free 2) s subject_id
  pub extended_fit : Optional (explicit 3 extensions) s extended

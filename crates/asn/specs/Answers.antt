-- Refusal 6, "not a certificate", and whether an extension's value is of its type (rules 340+s).
use Rattle.std.specs.Prelude.{Bool, ◌&&◌, List, ℕ, length, is_ok, Ok, Err}
use Rattle.asn.specs.Grammar.{Form, follows, Verdict}
use Rattle.asn.specs.Grammar.Slots.{done, one}
use Rattle.asn.specs.Module.{certificate, value_of}
use Rattle.refusals.specs.Table.{not_certificate}
use Rattle.der.specs.Header.{children_of}
use Rattle.der.specs.Soundness.{stretch_soundness}
use Rattle.asn.specs.declared.fitting.Misfit.TheVariants.{Stranger, Wrong}

-- the elements from at to end are one element of a type, and no more
abbrev pub only_element : Form → List ℕ → ℕ → ℕ → Verdict
only_element f s at end = follows (one f done) s at (children_of s at end)

-- "RFC 5280's Certificate, read left to right; the place is the first element not allowed there, or the enclosing one if it ends early."
unfoldable pub certificate_verdict : List ℕ → Verdict
certificate_verdict s = only_element certificate s 0 (length s)

-- The paper's number and place for each case of a verdict on a certificate. (0 is no refusal; a list is never a stranger.)
abbrev pub verdict_number : Verdict → ℕ
verdict_number (Ok _) = 0
verdict_number (Err Stranger) = not_certificate
verdict_number (Err (Wrong p)) = not_certificate

abbrev pub verdict_place : Verdict → ℕ
verdict_place (Ok _) = 0
verdict_place (Err Stranger) = 0
verdict_place (Err (Wrong p)) = p

-- The octets from at to end are "exactly one sound element of its RFC ASN.1": sound DER, with SETs in order and depths from 1, and of the type
-- that slot s of the table of extensions has.
unfoldable pub value_ok : List ℕ → ℕ → ℕ → ℕ → Bool
value_ok octets s at end = is_ok (stretch_soundness octets at end) && is_ok (only_element (value_of s) octets at end)

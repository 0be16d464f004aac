-- The answers, by what is read of the octets.
--     certificate_law                 a side
-- Assumes nothing.
use mathlib.Core.Path.{◌≡◌, refl}
use mathlib.Core.List.{List}
use Prim.Native.Nat.{ℕ}
use lib.ListN.{length}
use Rattle.asn.specs.Module.{certificate, judged, value_of}
use Rattle.asn.specs.Answers.{only_element, certificate_verdict}

first_judged : value_of 0 ≡ certificate
unfolding value_of judged
first_judged = refl

pub certificate_law : (s : List ℕ) → only_element (value_of 0) s 0 (length s) ≡ certificate_verdict s
unfolding certificate_verdict
certificate_law s = rw first_judged

-- What a call of the linter is answered with, in document 01's own numbers: its table "Refusals and their order", of which "the first that applies" is given.
use Rattle.std.specs.Prelude.{not, List, [], ◌∷◌, ◌++◌, ℕ, eqb, length, Option, Some, None, is_none}
use Rattle.lint.specs.Judging.{side_length_ok}
use Rattle.refusals.specs.Table.{wrong_certificate_length, wrong_issuer_length, unknown_profile, not_sound_der, set_out_of_order, not_certificate, too_little_room}
use Rattle.refusals.specs.Table.{on_neither, on_certificate, on_issuer, unrefused, RefusalRow, refusal_row, first_that_applies}
use Rattle.refusals.specs.declared.table.Values.{Values}
use Rattle.der.specs.Soundness.{der_soundness, soundness_number, soundness_place, Soundness}
use Rattle.asn.specs.Answers.{certificate_verdict, verdict_number, verdict_place}
use Rattle.profiles.specs.declared.fields.Profile.{Profile}
use Rattle.profiles.specs.Fields.{asked_of}
use Rattle.report.specs.Answers.{enough_room}
use Rattle.report.specs.declared.sink.Entry.{Entry}
use Rattle.rules.specs.Rules.{findings}
use Rattle.asn.specs.Grammar.{Verdict}

-- the rows 1, 2 and 3, of sides of so many octets, and of what profile is asked for
abbrev pub admission_table : ℕ → ℕ → Option Profile → List RefusalRow
admission_table certificate issuer asked =
    refusal_row wrong_certificate_length on_certificate 0 (not (side_length_ok certificate))
    ∷ refusal_row wrong_issuer_length on_issuer 0 (not (side_length_ok issuer))
    ∷ refusal_row unknown_profile on_neither 0 (is_none asked)
    ∷ []

-- 4, 5 and 6 of a side, by what is found there: "first faulty element", "first such SET", "the first element not allowed there"
abbrev pub found_table : ℕ → Soundness → Verdict → List RefusalRow
found_table side d v =
    refusal_row not_sound_der side (soundness_place d) (eqb (soundness_number d) not_sound_der)
    ∷ refusal_row set_out_of_order side (soundness_place d) (eqb (soundness_number d) set_out_of_order)
    ∷ refusal_row not_certificate side (verdict_place v) (eqb (verdict_number v) not_certificate)
    ∷ []

abbrev pub side_table : ℕ → List ℕ → List RefusalRow
side_table side s = found_table side (der_soundness s) (certificate_verdict s)

-- 7: room is short when the octets of the findings, 8 each (document 02, CR 3), exceed it
abbrev pub room_table : List Entry → List ℕ → List RefusalRow
room_table es room = refusal_row too_little_room on_neither 0 (not (enough_room es room)) ∷ []

-- the findings under the profile of that number; none where there is no such profile
abbrev pub found_under : Option Profile → List ℕ → List ℕ → List Entry
found_under None certificate issuer = []
found_under (Some p) certificate issuer = findings p certificate issuer

-- the linter's: "4, 5, 6 are tried on the certificate, then on the issuer"
abbrev pub lint_table : List ℕ → List ℕ → Option Profile → List ℕ → List RefusalRow
lint_table certificate issuer asked room =
    admission_table (length certificate) (length issuer) asked
    ++ (side_table on_certificate certificate ++ (side_table on_issuer issuer ++ room_table (found_under asked certificate issuer) room))

unfoldable pub lint_values : List ℕ → List ℕ → ℕ → List ℕ → Values
lint_values certificate issuer profile room =
    first_that_applies (lint_table certificate issuer (asked_of profile) room) (unrefused (length (found_under (asked_of profile) certificate issuer)))

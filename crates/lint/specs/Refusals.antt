-- The paper's values for each case of the linter's answers (document 01, "Refusals and their order").
use Rattle.std.specs.Prelude.{ℕ, Err, Ok, Result}
use Rattle.lint.specs.declared.reasons.Side.{Side}
use Rattle.lint.specs.declared.reasons.Side.TheVariants.{Certificate, Issuer}
use Rattle.lint.specs.declared.reasons.Inadmissible.TheVariants.{CertificateLength, IssuerLength, UnknownProfile}
use Rattle.lint.specs.declared.reasons.Refusal.{Refusal}
use Rattle.lint.specs.declared.reasons.Refusal.TheVariants.{Inadmissible, Unsound, Unordered, NotCertificate, NoRoom}
use Rattle.refusals.specs.Table.{wrong_certificate_length, wrong_issuer_length, unknown_profile, not_sound_der, set_out_of_order, not_certificate, too_little_room}
use Rattle.refusals.specs.Table.{on_neither, on_certificate, on_issuer, refused, unrefused}
use Rattle.refusals.specs.declared.table.Values.{Values}
use Rattle.lint.specs.declared.reasons.Inadmissible as Reason

abbrev pub side_number : Side → ℕ
side_number Certificate = on_certificate
side_number Issuer = on_issuer

abbrev pub inadmissible_values : Reason.Inadmissible → Values
inadmissible_values CertificateLength = refused wrong_certificate_length on_certificate 0
inadmissible_values IssuerLength = refused wrong_issuer_length on_issuer 0
inadmissible_values UnknownProfile = refused unknown_profile on_neither 0

abbrev pub refusal_values : Refusal → Values
refusal_values (Inadmissible r) = inadmissible_values r
refusal_values (Unsound side place) = refused not_sound_der (side_number side) place
refusal_values (Unordered side place) = refused set_out_of_order (side_number side) place
refusal_values (NotCertificate side place) = refused not_certificate (side_number side) place
refusal_values NoRoom = refused too_little_room on_neither 0

-- the count is that of the findings
abbrev pub answer_values : Result ℕ Refusal → Values
answer_values (Ok count) = unrefused count
answer_values (Err r) = refusal_values r

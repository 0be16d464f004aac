-- What the writer takes is a record, and the linter is given of it what was submitted.
--     Proper, AllProper      what of a record's octets the reader asks
--     certificate_short      its certificate is no longer than the paper allows
--     proper, all_proper     the octets of what the writer takes are such
--     linted, linted_room_lem    what the reader hands out of these octets is the record as it was submitted, with the linter's answer to it alone
-- Assumes nothing.
use mathlib.Core.Path.{◌≡◌}
use mathlib.Core.List.{List, [], ◌∷◌}
use Prim.Native.Nat.{ℕ, ◌+◌, ◌-◌, ◌≤◌}
use native.Mathlib.Omega.{arith}
use lib.ListN.{length}
use Rattle.lint.specs.Answers.{room_of}
use Rattle.lint.proofs.Laws.Accepted.{admitted_certificate, admitted_issuer}
use Rattle.blocks.specs.Record.{certificate_length}
use Rattle.blocks.proofs.Laws.Record.{record_length_lem, record_profile, record_cut, record_certificate, record_issuer}
use Rattle.reader.specs.Stepping.{linted_record, linted_room}
use Rattle.recovery.specs.Submitted.{Submitted, submitted_octets, Writable, AllWritable}
use Rattle.recovery.specs.Expected.{handed_out}

pub record Proper (p : List ℕ) : Type 0 where
  pub least : 3 ≤ length p
  pub most : length p ≤ 16387
  pub inside : certificate_length p ≤ length p - 3

abbrev pub AllProper : List Submitted → Type 0
AllProper [] = Unit {0}
AllProper (s ∷ ss) = Proper (submitted_octets s) × AllProper ss

module _ (s : Submitted) (w : Writable s) where
  -- refusals 1 and 2
  pub certificate_short : length s.certificate ≤ 8192
  certificate_short = (admitted_certificate (length s.certificate) (length s.issuer) s.profile w.for w.admitted).1

  issuer_short : length s.issuer ≤ 8192
  issuer_short = (admitted_issuer (length s.certificate) (length s.issuer) s.profile w.for w.admitted).1

  pub proper : Proper (submitted_octets s)
  proper =
      let long : length (submitted_octets s) ≡ 3 + length s.certificate + length s.issuer = record_length_lem s.profile s.certificate s.issuer in
      record {
        least = omega (arith, long);
        most = omega (arith, long, certificate_short, issuer_short);
        inside = omega (arith, long, record_cut s.profile s.certificate s.issuer certificate_short);
      }

  pub linted : (number : ℕ) (room : List ℕ) → linted_record number (submitted_octets s) room ≡ handed_out room number s
  linted number room =
      rw (
        record_profile s.profile s.certificate s.issuer,
        record_certificate s.profile s.certificate s.issuer certificate_short,
        record_issuer s.profile s.certificate s.issuer certificate_short,
      )

  pub linted_room_lem : (room : List ℕ) → linted_room (submitted_octets s) room ≡ room_of s.certificate s.issuer s.profile room
  unfolding linted_room
  linted_room_lem room =
      rw (
        record_profile s.profile s.certificate s.issuer,
        record_certificate s.profile s.certificate s.issuer certificate_short,
        record_issuer s.profile s.certificate s.issuer certificate_short,
      )

pub all_proper : (ss : List Submitted) → AllWritable ss → AllProper ss
all_proper [] w = tt
all_proper (s ∷ ss) w = (proper s w.0, all_proper ss w.1)

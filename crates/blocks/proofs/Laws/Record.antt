-- A record's octets: how many, and what they say.
--     record_length_lem                              the length that the code counts
--     record_profile, record_cut, record_certificate, record_issuer     S6: a record says what it was made of
-- Assumes nothing.
use mathlib.Core.Path.{◌≡◌, refl}
use mathlib.Core.List.{List, ◌∷◌, ◌++◌}
use Prim.Native.Nat.{ℕ, ◌+◌, ◌≤◌}
use native.Mathlib.Omega.{arith}
use lib.ListN.{length, length-append}
use lib.Seq.{take_at, drop_at}
use Rattle.blocks.specs.Record.{record_of, profile_in, certificate_length, certificate_octets, issuer_octets}
use Rattle.octets.specs.Numbers.{pair_of}

module _ (profile : ℕ) (certificate issuer : List ℕ) where
  pub record_length_lem : length (record_of profile certificate issuer) ≡ 3 + length certificate + length issuer
  unfolding record_of
  record_length_lem = omega (arith, length-append certificate issuer)

  pub record_profile : profile_in (record_of profile certificate issuer) ≡ profile
  unfolding record_of
  record_profile = refl

  module _ (short : length certificate ≤ 8192) where
    pub record_cut : certificate_length (record_of profile certificate issuer) ≡ length certificate
    unfolding record_of
    record_cut = omega arith

    pub record_certificate : certificate_octets (record_of profile certificate issuer) ≡ certificate
    unfolding certificate_octets record_of
    record_certificate = rw record_cut (take_at certificate issuer (length certificate) refl)

    pub record_issuer : issuer_octets (record_of profile certificate issuer) ≡ issuer
    unfolding issuer_octets record_of
    record_issuer = rw record_cut (drop_at (profile ∷ (pair_of (length certificate) ++ certificate)) issuer (3 + length certificate) (omega arith))

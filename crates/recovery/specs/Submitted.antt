-- "Take a deck of any records, written by our own writer and numbered 1, 2, 3 and on without a gap" (document 00, demand 3).
use Rattle.std.specs.Prelude.{List, [], ◌∷◌, ◌++◌, ◌≡◌, ℕ, suc, length, Ok}
use Rattle.profiles.specs.declared.fields.Profile.{Profile}
use Rattle.lint.specs.Judging.{admission_of}
use Rattle.blocks.specs.Record.{record_of}
use Rattle.writer.specs.Cutting.{blocks_of}

-- what is given to the writer, besides the number
pub record Submitted : Type 0 where
  pub profile : ℕ
  pub certificate : List ℕ
  pub issuer : List ℕ

abbrev pub submitted_octets : Submitted → List ℕ
submitted_octets s = record_of s.profile s.certificate s.issuer

-- the writer takes it: refusals 1, 2 and 3 leave it alone
pub record Writable (s : Submitted) : Type 0 where
  pub for : Profile
  pub admitted : admission_of (length s.certificate) (length s.issuer) s.profile ≡ Ok for

abbrev pub AllWritable : List Submitted → Type 0
AllWritable [] = Unit {0}
AllWritable (s ∷ ss) = Writable s × AllWritable ss

-- the blocks that the writer makes of them, numbered `number` and on
abbrev pub written : ℕ → List Submitted → List (List ℕ)
written number [] = []
written number (s ∷ ss) = blocks_of number (submitted_octets s) ++ written (suc number) ss

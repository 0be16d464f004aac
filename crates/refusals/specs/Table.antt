-- "Refusals and their order" (document 01): a name for each number of the table, and the values of an answer. Every layer that refuses has an enum of
-- its own, and takes its numbers from here.
use Rattle.std.specs.Prelude.{Bool, cond, List, [], ◌∷◌, ℕ}
use Rattle.refusals.specs.declared.table.Values.{Values}

-- ---- "No.", each with its row: "Given exactly when"; "Side, place"

-- "certificate has 0 or over 8,192 bytes"; "1, 0"
abbrev pub wrong_certificate_length : ℕ
wrong_certificate_length = 1

-- "issuer has 0 or over 8,192 bytes"; "2, 0"
abbrev pub wrong_issuer_length : ℕ
wrong_issuer_length = 2

-- "profile not 1 to 3", "not 1 to 4" since document 02, CR 1; "0, 0"
abbrev pub unknown_profile : ℕ
unknown_profile = 3

-- "not sound DER"; "its side, first faulty element"
abbrev pub not_sound_der : ℕ
not_sound_der = 4

-- "a SET out of order"; "its side, first such SET"
abbrev pub set_out_of_order : ℕ
set_out_of_order = 5

-- "not a certificate"; "its side, see below"
abbrev pub not_certificate : ℕ
not_certificate = 6

-- "record number 0 (writer only)"; "0, 0"
abbrev pub record_number_zero : ℕ
record_number_zero = 8

-- "too little room"; "0, 0"
abbrev pub too_little_room : ℕ
too_little_room = 7

-- ---- "side (1 certificate, 2 issuer, 0 neither)"

abbrev pub on_neither : ℕ
on_neither = 0

abbrev pub on_certificate : ℕ
on_certificate = 1

abbrev pub on_issuer : ℕ
on_issuer = 2

-- ---- "Answer: number, side, place, zero findings"

abbrev pub refused : ℕ → ℕ → ℕ → Values
refused number side place = record { number = number; side = side; place = place; count = 0 }

-- no refusal, but so many findings of the linter or blocks of the writer
abbrev pub unrefused : ℕ → Values
unrefused count = record { number = 0; side = on_neither; place = 0; count = count }

-- ---- the table

-- a row: "No.", whether it applies ("given exactly when"), and "side, place"
pub record RefusalRow : Type 0 where
  pub number : ℕ
  pub applies : Bool
  pub side : ℕ
  pub place : ℕ

abbrev pub refusal_row : ℕ → ℕ → ℕ → Bool → RefusalRow
refusal_row number side place applies = record { number = number; applies = applies; side = side; place = place }

-- "The first that applies, top to bottom"; none of them applies to what is not refused
abbrev pub first_that_applies : List RefusalRow → Values → Values
first_that_applies [] otherwise = otherwise
first_that_applies (r ∷ rs) otherwise = cond r.applies (refused r.number r.side r.place) (first_that_applies rs otherwise)

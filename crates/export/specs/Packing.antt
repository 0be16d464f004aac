-- An answer as one number of 64 bits, for callers in other languages: a count as it is, a refusal with the paper's number, side and place.
use Rattle.std.specs.Prelude.{Bool, cond, ℕ, ◌+◌, ◌*◌, ◌^◌, ◌/◌, ◌%◌, eqb, leb}
use Rattle.refusals.specs.Table.{refused, unrefused}
use Rattle.refusals.specs.declared.table.Values.{Values}

-- bit 63, and below it number, side and place in sixteen bits each
unfoldable pub packed_refusal : ℕ → ℕ → ℕ → ℕ
packed_refusal number side place = 2 ^ 63 + number * 2 ^ 32 + side * 2 ^ 16 + place

-- number 0 is no refusal
abbrev pub packed_values : Values → ℕ
packed_values v = cond (eqb v.number 0) v.count (packed_refusal v.number v.side v.place)

-- ---- as a caller takes it apart (include/dlozamife.h)

abbrev pub is_refused : ℕ → Bool
is_refused answer = leb (2 ^ 63) answer

abbrev pub number_in : ℕ → ℕ
number_in answer = answer / 2 ^ 32 % 2 ^ 16

abbrev pub side_in : ℕ → ℕ
side_in answer = answer / 2 ^ 16 % 2 ^ 16

abbrev pub place_in : ℕ → ℕ
place_in answer = answer % 2 ^ 16

abbrev pub values_in : ℕ → Values
values_in answer = cond (is_refused answer) (refused (number_in answer) (side_in answer) (place_in answer)) (unrefused answer)

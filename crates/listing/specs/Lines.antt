-- The lines that document 01 ("The deck") prints, each quoted from it.
use Rattle.std.specs.Prelude.{cond, List, [], ◌++◌, ℕ, eqb, Err, Ok, Result}
use Prim.Native.String.{String}
use Rattle.texts.specs.Texts.{word, field_of}
use Rattle.profiles.specs.Levels.{level_number}
use Rattle.profiles.specs.declared.levels.Level.{Level}
use Rattle.profiles.specs.declared.levels.Level.TheVariants.{Must, Should}
use Rattle.report.specs.declared.sink.Entry.{Entry}
use Rattle.lint.specs.Refusals.{refusal_values}
use Rattle.lint.specs.declared.reasons.Refusal.{Refusal}
use Rattle.reader.specs.declared.finding.Loss.{Loss}
use Rattle.reader.specs.declared.finding.Loss.TheVariants.{Short, Unsound, Stray}
use Rattle.reader.specs.declared.stepping.Record.{Record}
use Rattle.reader.specs.declared.counting.Counts.{Counts}

-- "a printed finding ends in " must" or " should"" (document 02, CR 3)
abbrev pub level_word : Level → String
level_word Must = " must"
level_word Should = " should"

-- the word for an entry's fourth number; what is no level has none
abbrev pub level_text : ℕ → List ℕ
level_text number =
    cond (eqb number (level_number Must)) (word (level_word Must))
    (cond (eqb number (level_number Should)) (word (level_word Should)) [])

-- "  104 at 13 length 3", and then the level
unfoldable pub finding_line : Entry → List ℕ
finding_line e =
    field_of "  " e.rule ++ (field_of " at " e.place.start ++ (field_of " length " e.place.len ++ (level_text e.level ++ word "\n")))

-- " refused 6 side 1 at 0"
unfoldable pub refusal_text : Refusal → List ℕ
refusal_text r =
    field_of " refused " (refusal_values r).number ++ (field_of " side " (refusal_values r).side ++ field_of " at " (refusal_values r).place)

-- this, or " findings 2"
abbrev pub answer_text : Result ℕ Refusal → List ℕ
answer_text (Ok count) = field_of " findings " count
answer_text (Err r) = refusal_text r

-- "record 1 profile 3 findings 2", "record 1 profile 1 refused 6 side 1 at 0"
unfoldable pub record_line : Record → List ℕ
record_line r = field_of "record " r.number ++ (field_of " profile " r.profile ++ (answer_text r.answer ++ word "\n"))

abbrev pub loss_word : Loss → String
loss_word Short = " short\n"
loss_word Unsound = " unsound\n"
loss_word Stray = " stray\n"

-- "lost 1 unsound"
unfoldable pub lost_line : ℕ → Loss → List ℕ
lost_line position loss = field_of "lost " position ++ word (loss_word loss)

-- "records 1 blocks 3 lost 2"
unfoldable pub total_line : Counts → ℕ → List ℕ
total_line counts blocks =
    field_of "records " counts.records ++ (field_of " blocks " blocks ++ (field_of " lost " counts.lost ++ word "\n"))

-- "past that it prints only "deck too long""
unfoldable pub too_long_line : List ℕ
too_long_line = word "deck too long\n"

-- The lines that document 01 ("The deck") shows, by computation. The example of P12 is in the crate `examples`, from the deck on.
--     lines          single lines, of the largest record number too
--     all_lines      the lines of a record with findings, of a refused one and of lost blocks, one behind the other
--     empty          the listing of an empty deck
-- Assumes nothing.
use mathlib.Core.Path.{◌≡◌, refl}
use mathlib.Core.List.{List, [], ◌∷◌, map}
use Prim.Native.Nat.{ℕ}
use Prim.Native.String.{String}
use Rattle.std.specs.Prelude.{Result, Ok, Err}
use Rattle.listing.specs.Lines.{finding_line, refusal_text, record_line, lost_line, total_line, too_long_line}
use Rattle.listing.specs.Listing.{finding_lines, record_lines, lines_of, listing_of, printed}
use Rattle.texts.specs.Texts.{word, digits_by, decimal}
use Rattle.report.specs.Entries.{entry_of, decode}
use Rattle.lint.specs.declared.reasons.Refusal.{Refusal}
use Rattle.lint.specs.declared.reasons.Side.TheVariants.{Certificate, Issuer}
use Rattle.lint.specs.declared.reasons.Refusal.TheVariants.{Unsound, NotCertificate}
use Rattle.reader.specs.Runs.{blocks}
use Rattle.reader.specs.Events.{events}
use Rattle.reader.specs.Counting.{tally_of}
use Rattle.reader.specs.Walking.{Handed}
use Rattle.reader.specs.declared.stepping.Record.{Record}
use Rattle.reader.specs.declared.stepping.Item.{Item}
use Rattle.reader.specs.declared.finding.Loss.TheVariants as Losses
use Rattle.reader.specs.declared.stepping.Item.TheVariants as Items

abbrev told : ℕ → ℕ → Result ℕ Refusal → Record
told number profile answer = record { number = number; profile = profile; length = 7; answer = answer }

pub record Example : Type 0 where
  pub line : List ℕ
  pub text : String

abbrev shows : List ℕ → String → Example
shows line text = record { line = line; text = text }

unfoldable pub table : List Example
table =
    shows (record_line (told 1 1 (Err (NotCertificate Certificate 0)))) "record 1 profile 1 refused 6 side 1 at 0\n"
    ∷ shows (lost_line 1 Losses.Unsound) "lost 1 unsound\n"
    ∷ shows (lost_line 2 Losses.Short) "lost 2 short\n"
    ∷ shows (total_line (record { records = 1; lost = 2 }) 3) "records 1 blocks 3 lost 2\n"
    ∷ shows (record_line (told 1 3 (Ok 2))) "record 1 profile 3 findings 2\n"
    ∷ shows (finding_line (record { rule = 104; place = record { start = 13; len = 3 }; level = 1 })) "  104 at 13 length 3 must\n"
    ∷ shows (finding_line (record { rule = 65535; place = record { start = 8191; len = 1 }; level = 2 })) "  65535 at 8191 length 1 should\n"
    ∷ shows too_long_line "deck too long\n"
    ∷ shows (record_line (told 4294967295 255 (Err (Unsound Issuer 8191)))) "record 4294967295 profile 255 refused 4 side 2 at 8191\n"
    ∷ []

pub lines : map (λ (e : Example). e.line) table ≡ map (λ (e : Example). word e.text) table
unfolding table finding_line refusal_text record_line lost_line total_line too_long_line word decimal digits_by
lines = refl

abbrev handed : ℕ → Item → List ℕ → Handed
handed position item report = record { position = position; item = item; report = report }

pub all_lines : lines_of
    (handed 0 (Items.Record (told 1 3 (Ok 2))) (0 ∷ 104 ∷ 0 ∷ 13 ∷ 0 ∷ 3 ∷ 0 ∷ 1 ∷ 1 ∷ 0x90 ∷ 1 ∷ 0 ∷ 0 ∷ 10 ∷ 0 ∷ 2 ∷ [])
    ∷ handed 4 (Items.Lost Losses.Stray) []
    ∷ handed 5 (Items.Record (told 2 1 (Err (NotCertificate Certificate 0)))) []
    ∷ [])
    ≡ word "record 1 profile 3 findings 2\n  104 at 13 length 3 must\n  400 at 256 length 10 should\nlost 4 stray\nrecord 2 profile 1 refused 6 side 1 at 0\n"
unfolding finding_lines record_lines finding_line refusal_text record_line lost_line word decimal digits_by decode entry_of
all_lines = refl

pub empty : printed [] ≡ word "records 0 blocks 0 lost 0\n"
unfolding printed listing_of total_line word decimal digits_by tally_of events blocks
empty = refl

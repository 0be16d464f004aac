-- The lines of findings.
--     findings_next     those of the first k + 1 entries are those of the first k, and that of entry k
--     no_findings, one_finding                   put one behind the other
--     reported_lines, refused_lines              all lines of a record, by its answer
-- Assumes nothing.
use mathlib.Core.Path.{◌≡◌, refl, sym, ap, subst, ◌∙◌}
use mathlib.Core.List.{List, [], ◌∷◌, ◌++◌, append_assoc, append-nil}
use Prim.Native.Nat.{ℕ, suc, ◌+◌}
use native.Mathlib.Numerals.{add-one}
use Rattle.std.specs.Prelude.{Result, Ok, Err}
use Rattle.listing.specs.Lines.{finding_line, record_line}
use Rattle.listing.specs.Listing.{finding_lines, reported_entries, record_lines}
use Rattle.texts.specs.Putting.{Grown}
use Rattle.texts.specs.declared.putting.Text.{Text}
use Rattle.report.specs.Entries.{entry_of, decode}
use Rattle.report.specs.declared.sink.Entry.{Entry}
use Rattle.lint.specs.declared.reasons.Refusal.{Refusal}
use Rattle.reader.specs.declared.stepping.Record.{Record}
use Rattle.texts.proofs.Laws.Putting.{grown_nothing, ◌then◌}
use Rattle.report.proofs.Laws.Reading.{decode_none, decode_next}

lines_join : (es fs : List Entry) → finding_lines (es ++ fs) ≡ finding_lines es ++ finding_lines fs
unfolding finding_lines
lines_join [] fs = refl
lines_join (e ∷ es) fs = ap (λ (l : List ℕ). finding_line e ++ l) (lines_join es fs) ∙ sym (append_assoc (finding_line e) (finding_lines es) (finding_lines fs))

pub findings_next : (s : List ℕ) (k : ℕ) → finding_lines (decode (suc k) s) ≡ finding_lines (decode k s) ++ finding_line (entry_of s k)
unfolding finding_lines
findings_next s k = rw (decode_next s k, lines_join (decode k s) (entry_of s k ∷ []), append-nil (finding_line (entry_of s k)))

-- ---- put one behind the other

pub no_findings : (s : List ℕ) (t : Text) → Grown (finding_lines (decode 0 s)) t t
unfolding finding_lines
no_findings s t = rw (decode_none s) (grown_nothing t)

pub one_finding : (s : List ℕ) (k : ℕ) {t u v : Text}
    → Grown (finding_lines (decode k s)) t u → Grown (finding_line (entry_of s k)) u v → Grown (finding_lines (decode (k + 1) s)) t v
one_finding s k p q = rw (add-one k, findings_next s k) (p then q)

module _ (r : Record) (s : List ℕ) {t u : Text} where
  pub reported_lines : {count : ℕ} {v : Text} → r.answer ≡ Ok count
      → Grown (record_line r) t u → Grown (finding_lines (decode count s)) u v → Grown (record_lines r s) t v
  unfolding record_lines
  reported_lines {v = v} e p q = subst (λ (a : Result ℕ Refusal). Grown (record_line r ++ finding_lines (reported_entries a s)) t v) (sym e) (p then q)

  pub refused_lines : {refusal : Refusal} → r.answer ≡ Err refusal → Grown (record_line r) t u → Grown (record_lines r s) t u
  unfolding record_lines finding_lines
  refused_lines e p = subst (λ (a : Result ℕ Refusal). Grown (record_line r ++ finding_lines (reported_entries a s)) t u) (sym e) (p then grown_nothing u)

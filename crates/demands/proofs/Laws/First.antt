-- Demand 1, proved: `demand_1`. Assumes nothing.
use mathlib.Core.List.{List}
use mathlib.Core.Path.{◌≡◌, refl, sym, ◌∙◌}
use Prim.Native.Nat.{ℕ}
use lib.ListN.{length}
use Rattle.demands.specs.First.{Demand1}
use Rattle.refusals.specs.Table.{unrefused, first_that_applies}
use Rattle.refusals.specs.declared.table.Values.{Values}
use Rattle.profiles.specs.Fields.{asked_of}
use Rattle.lint.specs.Refusals.{answer_values}
use Rattle.lint.specs.Values.{found_under, lint_table, lint_values}
use Rattle.lint.proofs.Laws.Bounds.{refusal_inside}
use Rattle.lint.proofs.Laws.Statements.{room_kept}
use Rattle.writer.specs.Values.{placing_values, block_count, write_table, write_values}
use Rattle.writer.proofs.Laws.Statements.{room_kept as writer_room_kept}
use Rattle.demands.proofs.Laws.Tables.{by_table}

abbrev not_refused : List ℕ → List ℕ → ℕ → Values
not_refused certificate issuer profile = unrefused (length (found_under (asked_of profile) certificate issuer))

lint_tabled : (certificate issuer : List ℕ) (profile : ℕ) (room : List ℕ)
    → lint_values certificate issuer profile room
    ≡ first_that_applies (lint_table certificate issuer (asked_of profile) room) (not_refused certificate issuer profile)
unfolding lint_values
lint_tabled certificate issuer profile room = refl

write_tabled : (number profile : ℕ) (certificate issuer room : List ℕ)
    → write_values number profile certificate issuer room
    ≡ first_that_applies (write_table number profile (asked_of profile) certificate issuer room) (unrefused (block_count profile certificate issuer))
unfolding write_values
write_tabled number profile certificate issuer room = refl

pub demand_1 : Demand1
demand_1 =
    record {
      linter = λ certificate issuer profile room r last a. record {
        tabled = by_table (not_refused certificate issuer profile) refl (lint_table certificate issuer (asked_of profile) room)
            (answer_values r) refl (a.values ∙ lint_tabled certificate issuer profile room);
        within = λ q e. refusal_inside certificate issuer profile room q (sym a.told ∙ e);
        kept = λ q e. a.bytes ∙ room_kept certificate issuer profile room q (sym a.told ∙ e);
      };
      writer = λ number profile certificate issuer room r last a. record {
        tabled = by_table (unrefused (block_count profile certificate issuer)) refl (write_table number profile (asked_of profile) certificate issuer room)
            (placing_values r) refl (a.values ∙ write_tabled number profile certificate issuer room);
        kept = λ q e. a.bytes ∙ writer_room_kept number profile certificate issuer room q (sym a.told ∙ e);
      };
    }

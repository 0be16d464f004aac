use mathlib.Core.Path.{◌≡◌, sym, ap, ap₂, ◌∙◌}
use mathlib.Core.List.{List, []}
use Prim.Native.Nat.{ℕ, ◌+◌, ◌*◌, ◌-◌, ◌≤◌}
use native.Mathlib.Omega.{arith}
use lib.ListN.{length}
use Rattle.reader.specs.Runs.{from}
use Rattle.reader.specs.Finding.{found_at}
use Rattle.reader.specs.Events.{reading, events}
use Rattle.reader.specs.Counting.{records_in, lost_in, tally_of}
use Rattle.reader.specs.declared.counting.Counts.{Counts}
use Rattle.reader.specs.declared.finding.Found.{Found}
use Rattle.reader.specs.declared.finding.Found.TheVariants.{End}
use Rattle.reader.proofs.Laws.Counts.{Step, step, ends}
use Rattle.reader.proofs.counting.tally.Goals as goal

counts : ℕ → ℕ → Counts
counts records lost = record { records = records; lost = lost }

-- how far the reading goes with what stands at a block
went : (deck : List ℕ) (at : ℕ) {answer found : Found} → 512 * at ≤ length deck + 511 → answer ≡ found_at deck at → answer ≡ found → Step deck at found
went deck at inside says is = rw (sym says ∙ is) at (step deck at inside)

pub loop-n-init : goal.loop-n-init
unfolding events
loop-n-init c = (omega arith, omega arith, omega arith, omega arith)

pub overflow_add-records : goal.overflow_add-records
overflow_add-records c = omega (arith, went _ _ c.loop-n.invariant.0 c.find-found.ensures c.in-Record.is)

pub overflow_add-position : goal.overflow_add-position
overflow_add-position c = omega (arith, c.parts_of-position.ensures, went _ _ c.loop-n.invariant.0 c.find-found.ensures c.in-Record.is)

pub loop-n-smaller-in-Record : goal.loop-n-smaller-in-Record
loop-n-smaller-in-Record c = omega (arith, c.parts_of-position.ensures, went _ _ c.loop-n.invariant.0 c.find-found.ensures c.in-Record.is)

pub loop-n-preserved-in-Record : goal.loop-n-preserved-in-Record
loop-n-preserved-in-Record c =
    rw c.parts_of-position.ensures (omega (arith, went _ _ c.loop-n.invariant.0 c.find-found.ensures c.in-Record.is))

pub overflow_add-lost : goal.overflow_add-lost
overflow_add-lost c = omega (arith, went _ _ c.loop-n.invariant.0 c.find-found.ensures c.in-Lost.is)

pub overflow_add-position-in-Lost : goal.overflow_add-position-in-Lost
overflow_add-position-in-Lost c = omega (arith, went _ _ c.loop-n.invariant.0 c.find-found.ensures c.in-Lost.is)

pub loop-n-smaller : goal.loop-n-smaller
loop-n-smaller c = omega (arith, went _ _ c.loop-n.invariant.0 c.find-found.ensures c.in-Lost.is)

pub loop-n-preserved : goal.loop-n-preserved
loop-n-preserved c = omega (arith, went _ _ c.loop-n.invariant.0 c.find-found.ensures c.in-Lost.is)

pub returns-in-End : goal.returns-in-End
unfolding tally_of counts
returns-in-End c =
    let deck : List ℕ = c.args.deck.now in
    let at : ℕ = c.loop-n.position in
    let over : c.find-found.result ≡ End → from deck at ≡ [] = λ e. ends deck at (sym c.find-found.ensures ∙ e) in
    let e = over c.in-End.is in
    let i = c.loop-n.position in
    let some : c.loop-n.records ≡ length (records_in (events deck)) =
    omega (arith, ap (λ (bs : List (List ℕ)). length (records_in (reading 0 i bs))) e) in
    let others : c.loop-n.lost ≡ length (lost_in (events deck)) =
    omega (arith, ap (λ (bs : List (List ℕ)). length (lost_in (reading 0 i bs))) e) in
    ap₂ counts some others

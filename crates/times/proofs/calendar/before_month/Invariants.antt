-- `times::calendar::before_month` meets its contract. The invariant: the days are those of the months before m, at most 31 each. Assumes nothing.
use mathlib.Core.Path.{◌≡◌}
use Prim.Native.Nat.{◌*◌, ◌≤◌}
use Rattle.times.specs.Calendar.{before_month}
use Rattle.times.proofs.calendar.before_month.Given as goal

abbrev pub invariant-loop-m : goal.invariant-loop-m
invariant-loop-m l = (l.days ≡ before_month l.leap l.m) × (l.m ≤ l.month) × (l.days ≤ 31 * l.m)

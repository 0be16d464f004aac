-- `texts::numerals::decimal_of` meets its contract. The invariant: the text says the number so far, written on by the octets from the kth on.
-- Assumes nothing.
use mathlib.Core.Path.{◌≡◌}
use Prim.Native.Nat.{◌≤◌}
use lib.ListN.{drop}
use Rattle.texts.specs.Numerals.{largest_number, decimal_from, decimal_of}
use Rattle.texts.proofs.numerals.decimal_of.Given as goal

abbrev pub invariant-loop-c : goal.invariant-loop-c
invariant-loop-c l = (l.number ≤ largest_number) × (decimal_of l.text ≡ decimal_from l.number (drop l.c-index l.text))

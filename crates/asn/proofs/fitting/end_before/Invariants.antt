-- `asn::fitting::end_before` meets its contract: what the fields that are left lack is what those from row k on lack. Assumes nothing.
use mathlib.Core.Path.{◌≡◌}
use Rattle.asn.specs.Workings.Choosing.{lacking}
use Rattle.asn.specs.Workings.Table.{slots_at}
use Rattle.asn.proofs.fitting.end_before.Given as goal

abbrev pub invariant-loop-j : goal.invariant-loop-j
invariant-loop-j l = lacking (slots_at l.j) l.outer ≡ lacking (slots_at l.k) l.outer

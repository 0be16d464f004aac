-- `asn::fitting::find_alternative` meets its contract: the alternatives that are left have the one that is looked for. Assumes nothing.
use mathlib.Core.Path.{◌≡◌}
use Rattle.asn.specs.Workings.Choosing.{alternative_for}
use Rattle.asn.specs.Workings.Table.{form_at}
use Rattle.asn.proofs.fitting.find_alternative.Given as goal

abbrev pub invariant-loop-m : goal.invariant-loop-m
invariant-loop-m l = alternative_for (form_at l.m) l.tag ≡ alternative_for (form_at l.n) l.tag

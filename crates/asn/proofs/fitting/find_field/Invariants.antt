-- `asn::fitting::find_field` meets its contract: the fields that are left have the one that is looked for. Assumes nothing.
use mathlib.Core.Path.{◌≡◌}
use Rattle.asn.specs.Workings.Choosing.{field_for}
use Rattle.asn.specs.Workings.Table.{slots_at}
use Rattle.asn.proofs.fitting.find_field.Given as goal

abbrev pub invariant-loop-j : goal.invariant-loop-j
invariant-loop-j l = field_for (slots_at l.j) l.tag ≡ field_for (slots_at l.k) l.tag

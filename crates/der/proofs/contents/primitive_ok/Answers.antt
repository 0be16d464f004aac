-- `der::primitive_ok` meets its contract. Assumes nothing.
use mathlib.Core.Path.{sym, ap, ◌∙◌}
use mathlib.Core.Bool.{not}
use Rattle.der.specs.Contents.{primitive_ok}
use Rattle.octets.specs.Octets.{octets_from}
use Rattle.der.proofs.Laws.Contents.{null_law, number_integer, number_other}
use Rattle.der.proofs.contents.primitive_ok.Goals as goal

pub returns-in-1 : goal.returns-in-1
unfolding primitive_ok
returns-in-1 c = rw c.in-1.is c.boolean_ok.ensures

pub returns-in-2 : goal.returns-in-2
returns-in-2 c =
    let a = c.args in
    c.integer_ok.ensures ∙ sym (number_integer a.number (octets_from a.s.now a.body a.n) c.in-2.is)

pub returns-in-3 : goal.returns-in-3
unfolding primitive_ok
returns-in-3 c = rw c.in-3.is c.bits_ok.ensures

pub returns-in-5 : goal.returns-in-5
unfolding primitive_ok
returns-in-5 c = let a = c.args in rw c.in-5.is (null_law a.s.now a.body a.n)

pub returns-in-6 : goal.returns-in-6
unfolding primitive_ok
returns-in-6 c = rw c.in-6.is c.oid_ok.ensures

pub returns-in_default : goal.returns-in_default
returns-in_default c =
    let a = c.args in
    ap not c.holds_elements.ensures ∙ sym (number_other a.number (octets_from a.s.now a.body a.n) c.in_default.in_default-own.rest.0.0.0.0.1
    c.in_default.in_default-own.rest.0.0.0.1 c.in_default.in_default-own.rest.0.0.1 c.in_default.in_default-own.rest.0.1 c.in_default.in_default-own.rest.1)

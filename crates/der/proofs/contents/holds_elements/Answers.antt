-- `der::holds_elements` meets its contract. Assumes nothing.
use mathlib.Core.Path.{sym}
use Rattle.der.proofs.Laws.Contents.{holds_rare, holds_no}
use Rattle.der.proofs.contents.holds_elements.Goals as goal

pub returns-in-16 : goal.returns-in-16
returns-in-16 c = rw c.in-16.is

pub returns-in-17 : goal.returns-in-17
returns-in-17 c = rw c.in-17.is

pub returns-in-8 : goal.returns-in-8
returns-in-8 c = sym (holds_rare c.args.number c.in-8.is)

pub returns-in_default : goal.returns-in_default
returns-in_default c = sym (holds_no c.args.number c.in_default.in_default-own.rest.0.0.1 c.in_default.in_default-own.rest.0.1 c.in_default.in_default-own.rest.1)

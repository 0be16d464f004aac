-- `certificate::extensions::slot_by` meets its contract. Assumes nothing.
use borrow.Author.Tests.{ne_eqb}
use Rattle.certificate.proofs.extensions.slot_by.Goals as goal

pub returns-in-35 : goal.returns-in-35
returns-in-35 c = rw c.in-35.is

pub returns-in-19 : goal.returns-in-19
returns-in-19 c = rw c.in-19.is

pub returns-in-14 : goal.returns-in-14
returns-in-14 c = rw c.in-14.is

pub returns-in-15 : goal.returns-in-15
returns-in-15 c = rw c.in-15.is

pub returns-in-37 : goal.returns-in-37
returns-in-37 c = rw c.in-37.is

pub returns-in-32 : goal.returns-in-32
returns-in-32 c = rw c.in-32.is

pub returns-in-17 : goal.returns-in-17
returns-in-17 c = rw c.in-17.is

pub returns-in-31 : goal.returns-in-31
returns-in-31 c = rw c.in-31.is

pub returns-in-30 : goal.returns-in-30
returns-in-30 c = rw c.in-30.is

pub returns-in_default : goal.returns-in_default
returns-in_default c =
    rw (
      ne_eqb _ 35 c.in_default.in_default-own.rest.0.0.0.0.0.0.0.0.1,
      ne_eqb _ 19 c.in_default.in_default-own.rest.0.0.0.0.0.0.0.1,
      ne_eqb _ 14 c.in_default.in_default-own.rest.0.0.0.0.0.0.1,
      ne_eqb _ 15 c.in_default.in_default-own.rest.0.0.0.0.0.1,
      ne_eqb _ 37 c.in_default.in_default-own.rest.0.0.0.0.1,
      ne_eqb _ 32 c.in_default.in_default-own.rest.0.0.0.1,
      ne_eqb _ 17 c.in_default.in_default-own.rest.0.0.1,
      ne_eqb _ 31 c.in_default.in_default-own.rest.0.1,
      ne_eqb _ 30 c.in_default.in_default-own.rest.1,
    )

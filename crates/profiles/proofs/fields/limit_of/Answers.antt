-- `profiles::fields::limit_of` meets its contract: an arm a profile. Assumes nothing.
use Rattle.profiles.proofs.fields.limit_of.Goals as goal

pub returns-in-Domain : goal.returns-in-Domain
returns-in-Domain c = rw c.in-Domain.is

pub returns-in-Organization : goal.returns-in-Organization
returns-in-Organization c = rw c.in-Organization.is

pub returns-in-Responder : goal.returns-in-Responder
returns-in-Responder c = rw c.in-Responder.is

pub returns-in-Subordinate : goal.returns-in-Subordinate
returns-in-Subordinate c = rw c.in-Subordinate.is

-- `profiles::extensions::criticality_of` meets its contract: an arm a profile. Assumes nothing.
use Rattle.profiles.proofs.extensions.criticality_of.Goals as goal

pub returns-in-Domain : goal.returns-in-Domain
returns-in-Domain c = rw c.in-Domain.is c.crit.ensures

pub returns-in-Organization : goal.returns-in-Organization
returns-in-Organization c = rw c.in-Organization.is c.crit-in-Organization.ensures

pub returns-in-Responder : goal.returns-in-Responder
returns-in-Responder c = rw c.in-Responder.is c.crit-in-Responder.ensures

pub returns-in-Subordinate : goal.returns-in-Subordinate
returns-in-Subordinate c = rw c.in-Subordinate.is c.crit-in-Subordinate.ensures

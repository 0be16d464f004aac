-- `certificate::fields::validity_of` meets its contract. Assumes nothing.
use Rattle.certificate.specs.Fields.{validity_of}
use Rattle.certificate.proofs.fields.validity_of.Goals as goal

pub returns : goal.returns
unfolding validity_of
returns c = λ k. record { not_before = c.time_in.ensures k; not_after = c.time_in-2.ensures k }

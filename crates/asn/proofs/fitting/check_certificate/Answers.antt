-- `asn::check_certificate` meets its contract. Assumes nothing.
use mathlib.Core.Path.{◌∙◌}
use Rattle.asn.proofs.Laws.Answers.{certificate_law}
use Rattle.asn.proofs.fitting.check_certificate.Goals as goal

pub returns : goal.returns
returns c = c.only_element.ensures ∙ certificate_law c.args.s.now

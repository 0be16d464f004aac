-- `lint::linting::report_on` meets its contract. Assumes nothing.
use Rattle.rules.proofs.Laws.Findings.{found_by_facts}
use Rattle.lint.proofs.linting.report_on.Goals as goal

pub returns : goal.returns
returns c = rw (← found_by_facts _ _ _ _ c.facts_of.ensures) c.report_facts.ensures

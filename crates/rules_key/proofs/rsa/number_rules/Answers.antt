-- `rules_key::rsa::number_rules` meets its contract. Assumes nothing.
use Rattle.report.proofs.Laws.Sinks.{◌⋙◌, by_rows}
use Rattle.rules_key.proofs.Laws.Noted.{divided_noted}
use Rattle.rules_key.proofs.rsa.number_rules.Goals as goal

pub returns : goal.returns
returns c =
    let divided = by_rows (divided_noted c.args.p _ _) (rw (c.is_divided-divided.ensures, c.holds.ensures) at c.judge-3.ensures) in
    rw (← c.is_bad_modulus-modulus.ensures, ← c.is_short_modulus-short.ensures, ← c.is_bad_exponent-exponent.ensures)
    (c.judge.ensures ⋙ c.judge-2.ensures ⋙ divided ⋙ c.judge-4.ensures)

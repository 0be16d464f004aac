-- `subjects::authorities::is_number_from_one` meets its contract. Assumes nothing.
use Rattle.std.proofs.Common.{rules, tests}
use Rattle.std.proofs.lemmas.Iterator.Search.{all_from_yields_List}
use Rattle.octets.specs.Characters.{is_digit}
use Rattle.octets.proofs.Laws.Stretches.{stretch_walked}
use Rattle.subjects.proofs.Laws.Authorities.{number_read}
use Rattle.subjects.proofs.authorities.is_number_from_one.Goals as goal

pub returns : goal.returns
returns c =
    let a = c.args in
    let digits = all_from_yields_List is_digit _ _ c.all.result c.all.ensures.ran (stretch_walked _ c.octets_from.ensures.left) (λ x b q k. search (rules, tests)) in
    number_read a.s.now a.at a.n c.octet-first.result c.all.result c.octet-first.ensures digits

-- `times::reading::digits_first` meets its contract. Assumes nothing.
use Rattle.std.proofs.Common.{rules, tests}
use Rattle.std.proofs.lemmas.Iterator.Search.{all_from_yields_List}
use Rattle.octets.specs.Characters.{is_digit}
use Rattle.octets.proofs.Laws.Stretches.{stretch_walked}
use Rattle.times.proofs.Laws.Reads.{digits_read}
use Rattle.times.proofs.reading.digits_first.Goals as goal

pub returns : goal.returns
returns c =
    let a = c.args in
    digits_read a.s.now a.body a.n a.digits c.all.result
    (all_from_yields_List is_digit _ _ c.all.result c.all.ensures.ran (stretch_walked _ c.octets_from.ensures.left) (λ x b q k. search (rules, tests)))

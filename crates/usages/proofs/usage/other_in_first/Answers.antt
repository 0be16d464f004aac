-- `usages::usage::other_in_first` meets its contract. Assumes nothing.
use Rattle.usages.proofs.Laws.Usage.{first_bits}
use Rattle.usages.proofs.usage.other_in_first.Goals as goal

pub returns : goal.returns
returns c =
    let a = c.args in
    rw (
      c.odd_alone.ensures,
      c.odd_alone-2.ensures,
      c.odd_alone-3.ensures,
      c.odd_alone-4.ensures,
      c.odd_alone-5.ensures,
      c.odd_alone-6.ensures,
      c.odd_alone-7.ensures,
    ) (first_bits a.bits a.allowed)

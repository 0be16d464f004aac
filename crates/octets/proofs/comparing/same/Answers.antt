-- `octets::same` meets its contract. Assumes nothing.
use Rattle.std.proofs.Common.{eqb, ◌∙◌, rules, tests}
use Rattle.octets.specs.Same.{exactly}
use Rattle.octets.proofs.Laws.Same.{beside_same}
use Rattle.octets.proofs.comparing.same.Goals as goal

pub returns : goal.returns
returns c = let a = c.args in
    c.all_beside.ensures (λ x y. eqb (exactly x) (exactly y)) (λ x y answer h k g. search (rules, tests)) ∙ beside_same exactly a.s.now a.t.now a.a a.b a.n

-- `octets::comparing::all_beside` meets its contract. Assumes nothing.
use Rattle.std.proofs.Common.{◌≡◌, ◌+◌, refl, arith, rules, tests}
use Rattle.std.specs.List.{list_all, range_with_len}
use Rattle.std.proofs.lemmas.Iterator.{YieldsList-from_range}
use Rattle.std.proofs.lemmas.Iterator.Search.{all_from_yields_List}
use Rattle.octets.specs.Octets.{octet_at}
use Rattle.octets.proofs.Laws.Stretches.{beside_stretch}
use Rattle.octets.proofs.comparing.all_beside.Goals as goal

pub returns : goal.returns
returns g c = λ passes computes.
    let a = c.args in
    let ran : c.all.result ≡ list_all (λ k. passes (octet_at a.s.now (a.a + k)) (octet_at a.t.now (a.b + k))) (range_with_len 0 a.n) =
    all_from_yields_List (λ k. passes (octet_at a.s.now (a.a + k)) (octet_at a.t.now (a.b + k))) _ _ _ c.all.ensures.ran
    (YieldsList-from_range 0 a.n a.n refl (omega arith)) (λ x b q k. search (rules, tests, computes)) in
    rw ran (beside_stretch passes a.s.now a.t.now a.a a.b a.n)

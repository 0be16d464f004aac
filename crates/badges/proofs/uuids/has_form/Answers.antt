-- `badges::uuids::has_form` meets its contract. Assumes nothing.
use Rattle.std.proofs.Common.{◌≡◌, ◌+◌, ◌∙◌, refl, arith, rules, tests}
use Rattle.std.specs.List.{list_all, range_with_len}
use Rattle.std.proofs.lemmas.Iterator.{YieldsList-from_range}
use Rattle.std.proofs.lemmas.Iterator.Search.{all_from_yields_List}
use Rattle.octets.specs.Octets.{octet_at}
use Rattle.octets.proofs.Laws.Stretches.{beside_stretch}
use Rattle.badges.specs.Uuids.{is_as_in}
use Rattle.badges.proofs.Laws.Uuids.{beside_form}
use Rattle.badges.proofs.uuids.has_form.Goals as goal

pub returns : goal.returns
returns c =
    let a = c.args in
    let ran : c.all.result ≡ list_all (λ k. is_as_in (octet_at a.form.now (0 + k)) (octet_at a.s.now (a.at + k))) (range_with_len 0 a.n) =
    all_from_yields_List (λ k. is_as_in (octet_at a.form.now (0 + k)) (octet_at a.s.now (a.at + k))) _ _ _ c.all.ensures.ran
    (YieldsList-from_range 0 a.n a.n refl (omega arith)) (λ x b q k. search (rules, tests)) in
    ran ∙ beside_stretch is_as_in a.form.now a.s.now 0 a.at a.n ∙ beside_form a.form.now a.s.now 0 a.at a.n

-- `hosts::has_underscore` meets its contract. Assumes nothing.
use mathlib.Core.Path.{sym, ap, ◌∙◌}
use Prim.Native.Nat.{ℕ}
use Rattle.hosts.specs.Names.{is_dns_name}
use Rattle.octets.specs.Octets.{is_one_of, octets_from}
use Rattle.der.specs.Contents.{contents_of}
use Rattle.hosts.proofs.Laws.Tests.{behind, without}
use Rattle.hosts.proofs.hosts.has_underscore.Goals as goal

pub returns-then-is_dns_name : goal.returns-then-is_dns_name
returns-then-is_dns_name c =
    let a = c.args in
    behind (is_dns_name a.h) (is_one_of 95 (contents_of a.s.now a.h)) c.has_octet.result
    (sym c.is_dns_name.ensures ∙ c.if-is_dns_name.true) (c.has_octet.ensures ∙ ap
    (λ (n : ℕ). is_one_of 95 (octets_from a.s.now a.h.body n)) c.minus.ensures)

pub returns : goal.returns
returns c =
    let a = c.args in
    without (is_dns_name a.h) (is_one_of 95 (contents_of a.s.now a.h)) (sym c.is_dns_name.ensures ∙ c.if-is_dns_name.false)

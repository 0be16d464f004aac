-- `hosts::no_host` meets its contract. Assumes nothing.
use mathlib.Core.Path.{sym, ap, ◌∙◌}
use mathlib.Core.Bool.{not}
use Prim.Native.Nat.{ℕ}
use Rattle.hosts.specs.Names.{is_dns_name}
use Rattle.hosts.specs.Hosts.{is_host_name}
use Rattle.octets.specs.Octets.{octets_from}
use Rattle.der.specs.Contents.{contents_of}
use Rattle.hosts.proofs.Laws.Tests.{behind, without}
use Rattle.hosts.proofs.hosts.no_host.Goals as goal

pub returns-then-is_dns_name : goal.returns-then-is_dns_name
returns-then-is_dns_name c =
    let a = c.args in
    let host = c.is_host_name.ensures ∙ ap (λ (n : ℕ). is_host_name (octets_from a.s.now a.h.body n)) c.minus.ensures in
    behind (is_dns_name a.h) (not (is_host_name (contents_of a.s.now a.h))) (not c.is_host_name.result)
    (sym c.is_dns_name.ensures ∙ c.if-is_dns_name.true) (ap not host)

pub returns : goal.returns
returns c =
    let a = c.args in
    without (is_dns_name a.h) (not (is_host_name (contents_of a.s.now a.h))) (sym c.is_dns_name.ensures ∙ c.if-is_dns_name.false)

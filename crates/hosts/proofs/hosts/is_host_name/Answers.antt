-- `hosts::is_host_name` meets its contract. Assumes nothing.
use Rattle.hosts.proofs.Laws.Hosts.{host_long, host_short}
use Rattle.hosts.proofs.hosts.is_host_name.Goals as goal

pub returns-then-n-le253 : goal.returns-then-n-le253
returns-then-n-le253 c =
    let a = c.args in
    host_short a.s.now a.body a.n c.labels_ok.result c.if-n-le253.true c.labels_ok.ensures

pub returns : goal.returns
returns c =
    let a = c.args in
    host_long a.s.now a.body a.n c.if-n-le253.false

-- `hosts::hosts::may_grow` meets its contract. Assumes nothing.
use Rattle.hosts.proofs.hosts.may_grow.Goals as goal

pub returns : goal.returns
returns c = cc

-- `hosts::hosts::label_octet` meets its contract. Assumes nothing.
use Rattle.hosts.proofs.hosts.label_octet.Goals as goal

pub returns : goal.returns
returns c = rw c.is_digit.ensures

-- `badges::uuids::is_hex_digit` meets its contract. Assumes nothing.
use Rattle.badges.proofs.uuids.is_hex_digit.Goals as goal

pub returns : goal.returns
returns c = rw (c.is_digit.ensures, c.lower_case-small.ensures)

-- `locations::http_by` meets its contract. Assumes nothing.
use Rattle.locations.proofs.access.http_by.Goals as goal

pub returns : goal.returns
returns c = rw (c.is_http.ensures, c.after.ensures, c.is_method.ensures, c.first_in-first.ensures)

-- `forms::nests::holder_within` meets its contract: an arm a nest. Assumes nothing.
use Rattle.forms.proofs.nests.holder_within.Goals as goal

pub returns-in-Set : goal.returns-in-Set
returns-in-Set c = rw c.in-Set.is

pub returns-in-Policy : goal.returns-in-Policy
returns-in-Policy c = rw c.in-Policy.is c.qualifiers_of.ensures

pub returns-in-Point : goal.returns-in-Point
returns-in-Point c = rw c.in-Point.is c.full_name_of.ensures

-- A walk along the octets of a stretch.
use Rattle.std.specs.Prelude.{List, ℕ, ◌+◌, ◌-◌}
use Rattle.octets.specs.Octets.{octets_from}
use Rattle.octets.specs.declared.stretches.Stretch.{Stretch}

-- the octets that it has not come to yet
unfoldable pub octets_left : Stretch → List ℕ
octets_left walk = octets_from walk.octets.now (walk.at + walk.passed) (walk.len - walk.passed)

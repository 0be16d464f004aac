-- What packing asks of values.
-- How the code goes about it: named by contracts of functions that no other crate can call, and by nothing else of `specs/`.
use Rattle.std.specs.Prelude.{◌<◌}
use Rattle.refusals.specs.declared.table.Values.{Values}

-- the numbers have room
pub record Packable (v : Values) : Type 0 where
  pub number : v.number < 65536
  pub side : v.side < 65536
  pub place : v.place < 65536

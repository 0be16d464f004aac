-- What is asked of a rule, so that a report is in order and its entries are at elements.
use mathlib.Core.List.{List, [], ◌∷◌}
use Prim.Native.Nat.{◌<◌}
use Rattle.report.specs.Order.{In}
use Rattle.report.specs.Rows.{Row}
use Rattle.der.specs.declared.header.Head.{Head}

-- each element starts before all that are behind it
pub data Up : List Head → Type 0 where
  no_heads : Up []
  more_heads : {h : Head} {hs : List Head} → ((g : Head) → In g hs → h.at < g.at) → Up hs → Up (h ∷ hs)

-- the elements of a rule come in their order, and each of them is one of those that P holds of
pub record RowOk (P : Head → Type 0) (r : Row) : Type 0 where
  pub up : Up r.broken
  pub all : (h : Head) → In h r.broken → P h

pub data RowsOk (P : Head → Type 0) : List Row → Type 0 where
  no_rows : RowsOk P []
  more_rows : {r : Row} {rs : List Row} → RowOk P r → RowsOk P rs → RowsOk P (r ∷ rs)

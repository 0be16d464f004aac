-- The rows at which the fields of a list that holds one judged element begin.
--     root_row      such a row is read off a table
-- Assumes nothing.
use mathlib.Core.Path.{◌≡◌, refl, sym, ap, ◌∙◌}
use mathlib.Core.List.{List, [], ◌∷◌, map}
use Prim.Native.Nat.{ℕ, zero, suc}
use lib.ListN.{get_or}
use Rattle.asn.specs.Grammar.{Form, Slots}
use Rattle.asn.specs.Module.{judged, value_of}
use Rattle.asn.specs.Workings.Table.{alone, slots_at}

map_at : {A B : Type 0} (f : A → B) (xs : List A) (n : ℕ) (d : A) → get_or (map f xs) n (f d) ≡ f (get_or xs n d)
map_at f [] n d = refl
map_at f (x ∷ xs) zero d = refl
map_at f (x ∷ xs) (suc n) d = map_at f xs n d

pub root_row : (roots : List ℕ) → map slots_at roots ≡ map alone judged → slots_at 0 ≡ alone Form.none → (slot row : ℕ) → row ≡ get_or roots slot 0
    → slots_at row ≡ alone (value_of slot)
unfolding value_of
root_row roots right zeroth slot row e =
    ap slots_at e
    ∙ (sym (map_at slots_at roots slot 0)
    ∙ (ap (get_or (map slots_at roots) slot) zeroth
    ∙ (ap (λ (ps : List Slots). get_or ps slot (alone Form.none)) right
    ∙ map_at alone judged slot Form.none)))

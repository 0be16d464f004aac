-- What breaks a rule of the form "one X".
use Rattle.std.specs.Prelude.{List, ◌∷◌, ◌≡◌, Bool, true, false}
use Rattle.report.specs.Order.{In}
use Rattle.der.specs.declared.header.Head.{Head}

-- an item that is X, behind another one: "at each further X"
pub data Further (is_x : Head → Bool) (h : Head) : List Head → Type 0 where
  first : {x : Head} {hs : List Head} → is_x x ≡ true → In h hs → is_x h ≡ true → Further is_x h (x ∷ hs)
  later : {x : Head} {hs : List Head} → Further is_x h hs → Further is_x h (x ∷ hs)

-- "an entry at the subject name if none"
pub record Lacking (is_x : Head → Bool) (name : Head) (hs : List Head) (h : Head) : Type 0 where
  pub none : (x : Head) → In x hs → is_x x ≡ false
  pub is : h ≡ name

-- Which alternative of a type, and which field of a list, takes an element: its identifier octet alone says so. The interpreter goes by them;
-- `proofs/Laws/Choosing.antt` proves that this comes to what `Grammar` says.
-- How the code goes about it: named by contracts of functions that no other crate can call, and by nothing else of `specs/`.
use Rattle.std.specs.Prelude.{Bool, true, false, cond, List, ℕ, Ok, Err}
use Rattle.asn.specs.Grammar.{Form, Inside, Slots, passes, set_in_order, takes, Verdict}
use Rattle.asn.specs.Grammar.Form.{none, alt}
use Rattle.asn.specs.Grammar.Inside.{leaf, parts, set}
use Rattle.asn.specs.Grammar.Slots.{done, one, opt, many}
use Rattle.der.specs.Contents.{contents_of}
use Rattle.der.specs.declared.header.Head.{Head}
use Rattle.asn.specs.declared.fitting.Misfit.TheVariants.{Wrong}

-- an alternative, by what it holds
pub data Alternative : Type 0 where
  nobody : Alternative
  holding : Inside → Alternative

abbrev pub alternative_for : Form → ℕ → Alternative
alternative_for none tag = nobody
alternative_for (alt i x f) tag = cond (takes i tag) (holding x) (alternative_for f tag)

-- a field, by what its alternative holds, and the fields that the elements after it are held to
pub data Field : Type 0 where
  nowhere : Field
  here : Inside → Slots → Field

-- an alternative of a field, or another field
abbrev pub in_field : Alternative → Slots → Field → Field
in_field nobody q other = other
in_field (holding x) q other = here x q

abbrev pub field_for : Slots → ℕ → Field
field_for done tag = nowhere
field_for (one f p) tag = in_field (alternative_for f tag) p nowhere
field_for (opt f p) tag = in_field (alternative_for f tag) p (field_for p tag)
field_for (many f p) tag = in_field (alternative_for f tag) (many f p) (field_for p tag)

-- Whether an element may stand where an alternative takes it, whatever its members are; one that none takes may not.
abbrev pub may_stand : Alternative → List ℕ → Head → Bool
may_stand nobody s h = false
may_stand (holding (leaf t)) s h = passes t h.tag (contents_of s h)
may_stand (holding (parts p)) s h = true
may_stand (holding (set p)) s h = set_in_order s h

-- the fields that are left once no element is
abbrev pub lacking : Slots → ℕ → Verdict
lacking done outer = Ok tt
lacking (one f p) outer = Err (Wrong outer)
lacking (opt f p) outer = lacking p outer
lacking (many f p) outer = lacking p outer

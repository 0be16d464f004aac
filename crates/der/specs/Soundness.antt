-- Refusals 4 and 5: "not sound DER", at the first faulty element; "a SET out of order", at the first such SET.
use Rattle.std.specs.Prelude.{List, [], ◌∷◌, map, Bool, cond, not, ◌&&◌, ◌||◌, ℕ, length, eqb, Ok, Err}
use Rattle.std.specs.declared.result.Result.{Result}
use Rattle.refusals.specs.Table.{not_sound_der, set_out_of_order}
use Rattle.der.specs.Tags.{set_tag}
use Rattle.der.specs.Header.{head_of}
use Rattle.der.specs.Contents.{element_ok}
use Rattle.der.specs.Order.{ascending, octets_of}
use Rattle.der.specs.Elements.{Node, held_by, elements_of}
use Rattle.der.specs.declared.header.Head.{Head}
use Rattle.der.specs.declared.walk.Fault.{Fault}
use Rattle.der.specs.declared.walk.Fault.TheVariants.{Unsound, Unordered}
use Rattle.refusals.specs.Table.{not_sound_der, set_out_of_order}

-- nothing is wrong, or what is wrong first
abbrev pub Soundness : Type 0
Soundness = Result (Unit {0}) Fault

-- "its depth is over 16", its header is not sound, "or its universal type is broken"
abbrev pub faulty : List ℕ → Node → Bool
faulty s n = eqb n.levels 0 || not (element_ok s n.head)

abbrev pub is_set : Head → Bool
is_set h = eqb h.tag set_tag

-- a SET whose members do not ascend
abbrev pub unordered : List ℕ → Node → Bool
unordered s n = is_set n.head && not (ascending (map (octets_of s) (held_by s n.head)))

-- the start of the first element that a test picks
pub data FirstPlace : Type 0 where
  nothing : FirstPlace
  found : ℕ → FirstPlace

unfoldable pub first : (Node → Bool) → List Node → FirstPlace
first p [] = nothing
first p (n ∷ ns) = cond (p n) (found n.head.at) (first p ns)

-- a faulty element counts before a SET out of order, wherever the two stand
abbrev pub judge : FirstPlace → FirstPlace → Soundness
judge (found p) set = Err (Unsound p)
judge nothing (found p) = Err (Unordered p)
judge nothing nothing = Ok tt

unfoldable pub soundness : List ℕ → List Node → Soundness
soundness s ns = judge (first (faulty s) ns) (first (unordered s) ns)

-- "One outermost element fills the bytes" from place at to end (else it is faulty, at its start), and depths count from 1 to 16.
unfoldable pub stretch_soundness : List ℕ → ℕ → ℕ → Soundness
stretch_soundness s at end =
    cond (eqb (head_of s at end).end end) (soundness s (elements_of s 16 (head_of s at end))) (Err (Unsound at))

-- the whole of a side
abbrev pub der_soundness : List ℕ → Soundness
der_soundness s = stretch_soundness s 0 (length s)

-- The paper's number and place for each case. (0 is no refusal.)
abbrev pub soundness_number : Soundness → ℕ
soundness_number (Ok _) = 0
soundness_number (Err (Unsound p)) = not_sound_der
soundness_number (Err (Unordered p)) = set_out_of_order

abbrev pub soundness_place : Soundness → ℕ
soundness_place (Ok _) = 0
soundness_place (Err (Unsound p)) = p
soundness_place (Err (Unordered p)) = p

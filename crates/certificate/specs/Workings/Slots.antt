-- Slots found in two steps: first the extensions, then what is read of each.
-- How the code goes about it: named by contracts of functions that no other crate can call, and by nothing else of `specs/`.
use Rattle.std.specs.Prelude.{cond, List, ℕ, eqb}
use Rattle.certificate.specs.declared.slots.Firsts.{Firsts}
use Rattle.certificate.specs.Slots.{by_slot, first_in_slot, has_repeats}
use Rattle.der.specs.Members.{members_in}
use Rattle.der.specs.declared.header.Head.{Head}

unfoldable pub firsts_of : List ℕ → Head → Firsts
firsts_of s list = record { each = by_slot (first_in_slot s list.end (members_in s list)); repeated = has_repeats s list }

-- the slot of 2.5.29.n, as the code finds it
abbrev pub slot_by : ℕ → ℕ
slot_by n =
    cond (eqb n 35) 1
    (cond (eqb n 19) 2
    (cond (eqb n 14) 3
    (cond (eqb n 15) 4
    (cond (eqb n 37) 5
    (cond (eqb n 32) 6
    (cond (eqb n 17) 7
    (cond (eqb n 31) 9
    (cond (eqb n 30) 11 0))))))))

-- What the code reads of a certificate and its issuer.
--     case_is      is the case that rules speak of, but that repeats are asked as the code asks
-- Assumes nothing.
use mathlib.Core.Path.{◌≡◌, refl}
use mathlib.Core.List.{List, ◌∷◌, map}
use mathlib.Core.Bool.{Bool}
use Prim.Native.Nat.{ℕ, zero, suc, ◌+◌, ◌-◌, ◌≤◌, ◌<◌}
use native.Mathlib.Omega.{arith}
use Rattle.der.specs.Members.{missing}
use Rattle.der.specs.declared.header.Head.{Head}
use Rattle.certificate.specs.Fields.{certificate_of}
use Rattle.certificate.specs.Key.{key_of}
use Rattle.certificate.specs.Issuer.{Known, known_of}
use Rattle.certificate.specs.Slots.{numbers_from, slot_count, empty_slot, slots_of, has_repeats}
use Rattle.certificate.specs.Standing.{Standing, standing_in, over_table, standing_by, standings_by}
use Rattle.certificate.proofs.Laws.Standing.{standing_is, known_is}
use Rattle.facts.specs.Case.{Case, facts_of, slot_in, seen_by, case_of}

-- two tables are the same if they agree on slots 1 and on
tables_same : (f g : ℕ → Standing) → ((k : ℕ) → 0 < k → k < slot_count → f k ≡ g k) → (k n : ℕ) → 0 < k → k + n ≤ slot_count
    → map f (numbers_from k n) ≡ map g (numbers_from k n)
unfolding numbers_from
tables_same f g e k zero l m = refl
tables_same f g e k (suc n) l m =
    let here = e k l (omega (arith, m)) in
    let rest = tables_same f g e (k + 1) n (omega arith) (omega (arith, m)) in
    λ j. here j ∷ rest j

module _ (s : List ℕ) where
  abbrev list : Head
  list = (certificate_of s).extensions

  table_is : standings_by (slot_in (slots_of s list)) ≡ over_table (standing_in s list)
  table_is =
      tables_same (λ k. standing_by (slot_in (slots_of s list) k)) (standing_in s list) (λ k l m. standing_is s list k (empty_slot (missing 0)) l m) 1
      (slot_count - 1) (omega arith) (omega arith)

  -- the case of a certificate whose repeats are asked by `seen`
  abbrev pub case_by : Known → (Head → Bool) → Case
  case_by k seen =
      record {
        octets = s;
        fields = certificate_of s;
        key = key_of s (certificate_of s).key;
        table = over_table (standing_in s list);
        seen = seen;
        issuer = k;
      }

  pub case_is : (issuer : List ℕ) → case_of s (facts_of s issuer) issuer ≡ case_by (known_of issuer) (seen_by s list (has_repeats s list))
  unfolding facts_of
  case_is issuer =
      λ j. record {
        octets = s;
        fields = certificate_of s;
        key = key_of s (certificate_of s).key;
        table = table_is j;
        seen = seen_by s list (has_repeats s list);
        issuer = known_is issuer j;
      }

-- The types and the runs of fields that the tables' rows stand for, counted from 0.
-- How the code goes about it: named by contracts of functions that no other crate can call, and by nothing else of `specs/`.
use Rattle.std.specs.Prelude.{cond, ◌≡◌, List, [], ◌∷◌, ◌++◌, ℕ, ◌-◌, ◌/◌, ◌%◌, get_or, eqb, ltb}
use Rattle.asn.specs.Grammar.{Test, Form, Inside, Slots}
use Rattle.asn.specs.Grammar.Form.{none, alt}
use Rattle.asn.specs.Grammar.Inside.{leaf, parts, set}
use Rattle.asn.specs.Grammar.Slots.{done, one, opt, many}
use Rattle.asn.specs.Workings.Choosing.{Alternative, Field}
use Rattle.asn.specs.Workings.Choosing.Alternative.{nobody, holding}
use Rattle.asn.specs.Workings.Choosing.Field.{nowhere, here}
use Rattle.asn.specs.declared.fitting.Found.{Found}
use Rattle.asn.specs.Module.{any, boolean_true, integer, natural, positive, bit_string, named_bits, octet_string, object_identifier, sequence_of, implicit}
use Rattle.asn.specs.Module.{explicit, free, algorithm_identifier, attribute_type_and_value, relative_distinguished_name, name, time}
use Rattle.asn.specs.Module.{validity, subject_public_key_info, extension, extensions, version, tbs_certificate, certificate, general_name}
use Rattle.asn.specs.Module.{general_names, authority_key_identifier, basic_constraints, subject_key_identifier, key_usage, ext_key_usage}
use Rattle.asn.specs.Module.{policy_qualifier_info, policy_information, certificate_policies, access_description, authority_info_access}
use Rattle.asn.specs.Module.{distribution_point_name, distribution_point, crl_distribution_points, ocsp_no_check, general_subtree, general_subtrees}
use Rattle.asn.specs.Module.{name_constraints, judged}

-- the types that have rows of their own, in the order of the rows
unfoldable pub types : List Form
types =
    none
    ∷ certificate
    ∷ authority_key_identifier
    ∷ basic_constraints
    ∷ subject_key_identifier
    ∷ key_usage
    ∷ ext_key_usage
    ∷ certificate_policies
    ∷ general_names
    ∷ authority_info_access
    ∷ crl_distribution_points
    ∷ ocsp_no_check
    ∷ name_constraints
    ∷ tbs_certificate
    ∷ algorithm_identifier
    ∷ bit_string
    ∷ object_identifier
    ∷ any
    ∷ explicit 0 version
    ∷ integer
    ∷ name
    ∷ validity
    ∷ subject_public_key_info
    ∷ free 1
    ∷ free 2
    ∷ explicit 3 extensions
    ∷ version
    ∷ relative_distinguished_name
    ∷ attribute_type_and_value
    ∷ time
    ∷ extensions
    ∷ extension
    ∷ boolean_true
    ∷ octet_string
    ∷ general_name
    ∷ explicit 0 any
    ∷ implicit 0 octet_string
    ∷ implicit 1 general_names
    ∷ implicit 2 integer
    ∷ natural
    ∷ policy_information
    ∷ sequence_of policy_qualifier_info
    ∷ policy_qualifier_info
    ∷ access_description
    ∷ distribution_point
    ∷ explicit 0 distribution_point_name
    ∷ implicit 1 named_bits
    ∷ implicit 2 general_names
    ∷ distribution_point_name
    ∷ implicit 0 general_subtrees
    ∷ implicit 1 general_subtrees
    ∷ general_subtree
    ∷ implicit 0 positive
    ∷ implicit 1 natural
    ∷ []

-- a row for each alternative of a type, and one for the end
abbrev pub alternatives : Form → List Form
alternatives none = none ∷ []
alternatives (alt i x f) = alt i x f ∷ alternatives f

-- a row for each field, and one for the end
abbrev pub fields : Slots → List Slots
fields done = done ∷ []
fields (one f p) = one f p ∷ fields p
fields (opt f p) = opt f p ∷ fields p
fields (many f p) = many f p ∷ fields p

abbrev pub fields_in : Form → List Slots
fields_in none = []
fields_in (alt i (leaf t) f) = fields_in f
fields_in (alt i (parts p) f) = fields p ++ fields_in f
fields_in (alt i (set p) f) = fields p ++ fields_in f

abbrev pub all_forms : List Form → List Form
all_forms [] = []
all_forms (f ∷ fs) = alternatives f ++ all_forms fs

abbrev pub all_slots : List Form → List Slots
all_slots [] = []
all_slots (f ∷ fs) = fields_in f ++ all_slots fs

-- the fields of a list that holds one element alone
abbrev pub alone : Form → Slots
alone f = one f done

abbrev pub lists : List Form → List Slots
lists [] = []
lists (f ∷ fs) = alone f ∷ done ∷ lists fs

-- the rows of fields: first those of a list of no type, then those of the types, and last those of lists of one judged element
unfoldable pub slot_rows : List Slots
slot_rows = alone none ∷ done ∷ (all_slots types ++ lists judged)

-- the type at a row, and the fields from a row on
unfoldable pub form_at : ℕ → Form
form_at n = get_or (all_forms types) n none

unfoldable pub slots_at : ℕ → Slots
slots_at k = get_or slot_rows k done

-- the tests by their numbers
abbrev pub test_at : ℕ → Test
test_at n =
    cond (eqb n 2) Test.integer
    (cond (eqb n 3) Test.natural
    (cond (eqb n 4) Test.version
    (cond (eqb n 5) Test.yes_octet
    (cond (eqb n 6) Test.oid
    (cond (eqb n 7) Test.bits
    (cond (eqb n 8) Test.bits_named
    (cond (eqb n 9) Test.nothing
    (cond (eqb n 10) Test.utc
    (cond (eqb n 11) Test.generalized
    (cond (eqb n 12) Test.positive
    Test.free))))))))))

-- the tests' numbers are below this
abbrev pub test_count : ℕ
test_count = 13

-- what a row says of the contents: below `test_count` the number of a test, and from there the row of the first field; 128 marks a SET
abbrev pub inside_of : ℕ → Inside
inside_of r =
    cond (ltb (r % 128) test_count) (leaf (test_at (r % 128)))
    (cond (eqb (r / 128 % 2) 0) (parts (slots_at (r % 128 - test_count))) (set (slots_at (r % 128 - test_count))))

-- what a row says, with the type of the next row
abbrev pub form_of : ℕ → Form → Form
form_of r f = cond (eqb r 0) none (alt (r / 256) (inside_of r) f)

-- what a field's row says, with the fields from the next row on
abbrev pub fields_of : ℕ → Slots → Slots
fields_of r p =
    cond (eqb (r / 256) 0) done
    (cond (eqb (r / 256) 1) (one (form_at (r % 256)) p)
    (cond (eqb (r / 256) 2) (opt (form_at (r % 256)) p)
    (many (form_at (r % 256)) p)))

-- ---- what is found in the tables

-- the alternative by its row, which is 0 if there is none
abbrev pub alternative_at : ℕ → Alternative
alternative_at r = cond (eqb r 0) nobody (holding (inside_of r))

abbrev pub field_at : Found → Field
field_at x = cond (eqb x.row 0) nowhere (here (inside_of x.row) (slots_at x.next))

-- ---- tables that say so

-- what the rows say, from the last to the first; `say` is what a row says, given what the next says, and `nil` what the end says
abbrev pub rows_say {ℓ} : {A : Type ℓ} → (ℕ → A → A) → A → List ℕ → List A
rows_say say nil [] = []
rows_say say nil (r ∷ rs) = say r (get_or (rows_say say nil rs) 0 nil) ∷ rows_say say nil rs

-- tables of rows that stand for the types and for their fields
pub record Tables (rows slots : List ℕ) : Type 0 where
  pub forms : rows_say form_of none rows ≡ all_forms types
  pub fields : rows_say fields_of done slots ≡ slot_rows

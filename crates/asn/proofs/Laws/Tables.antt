-- The rows of src/table.rt say what specs/Workings/Table.antt has: antt reads the whole tables. Written by tools/grammar_table.py.
--     tables_right, roots_right      the rows of the types and of their fields; the rows where the judged types begin
-- Assumes nothing.
use mathlib.Core.Path.{◌≡◌, refl}
use mathlib.Core.List.{List, [], ◌∷◌, map}
use Prim.Native.Nat.{ℕ}
use Rattle.asn.specs.Grammar.{Form, Slots}
use Rattle.asn.specs.Module.{judged, algorithm_identifier, attribute_type_and_value, relative_distinguished_name, name, time, validity}
use Rattle.asn.specs.Module.{subject_public_key_info, extension, extensions, version, tbs_certificate, certificate, other_name}
use Rattle.asn.specs.Module.{general_name, general_names, authority_key_identifier, basic_constraints, subject_key_identifier, key_usage}
use Rattle.asn.specs.Module.{ext_key_usage, policy_qualifier_info, policy_information, certificate_policies, access_description}
use Rattle.asn.specs.Module.{authority_info_access, distribution_point_name, distribution_point, crl_distribution_points, ocsp_no_check}
use Rattle.asn.specs.Module.{general_subtree, general_subtrees, name_constraints}
use Rattle.asn.specs.Workings.Table.{Tables, types, alone, all_forms, slot_rows, form_of, fields_of, rows_say, form_at, slots_at}

unfoldable pub rows : List ℕ
rows =
    0x0 ∷ 0x300F ∷ 0x0 ∷ 0x3013 ∷ 0x0 ∷ 0x3017 ∷ 0x0 ∷ 0x401 ∷ 0x0 ∷ 0x308 ∷ 0x0 ∷ 0x301A ∷ 0x0 ∷ 0x301D ∷ 0x0 ∷
    0x3020 ∷ 0x0 ∷ 0x3023 ∷ 0x0 ∷ 0x3026 ∷ 0x0 ∷ 0x509 ∷ 0x0 ∷ 0x3029 ∷ 0x0 ∷ 0x302C ∷ 0x0 ∷ 0x3037 ∷ 0x0 ∷ 0x307 ∷
    0x0 ∷ 0x606 ∷ 0x0 ∷ 0x1 ∷ 0x0 ∷ 0xA03A ∷ 0x0 ∷ 0x202 ∷ 0x0 ∷ 0x303C ∷ 0x0 ∷ 0x303E ∷ 0x0 ∷ 0x3041 ∷ 0x0 ∷ 0x8101 ∷
    0x0 ∷ 0x8201 ∷ 0x0 ∷ 0xA344 ∷ 0x0 ∷ 0x204 ∷ 0x0 ∷ 0x31C6 ∷ 0x0 ∷ 0x3049 ∷ 0x0 ∷ 0x170A ∷ 0x180B ∷ 0x0 ∷ 0x304C ∷
    0x0 ∷ 0x304F ∷ 0x0 ∷ 0x105 ∷ 0x0 ∷ 0x401 ∷ 0x0 ∷ 0xA053 ∷ 0x8101 ∷ 0x8201 ∷ 0xA301 ∷ 0xA456 ∷ 0xA501 ∷ 0x8601 ∷
    0x8701 ∷ 0x8806 ∷ 0x0 ∷ 0xA058 ∷ 0x0 ∷ 0x8001 ∷ 0x0 ∷ 0xA120 ∷ 0x0 ∷ 0x8202 ∷ 0x0 ∷ 0x203 ∷ 0x0 ∷ 0x305D ∷ 0x0 ∷
    0x3060 ∷ 0x0 ∷ 0x3049 ∷ 0x0 ∷ 0x3066 ∷ 0x0 ∷ 0x3069 ∷ 0x0 ∷ 0xA06D ∷ 0x0 ∷ 0x8108 ∷ 0x0 ∷ 0xA220 ∷ 0x0 ∷ 0xA020 ∷
    0xA1C6 ∷ 0x0 ∷ 0xA078 ∷ 0x0 ∷ 0xA178 ∷ 0x0 ∷ 0x307E ∷ 0x0 ∷ 0x800C ∷ 0x0 ∷ 0x8103 ∷ 0x0 ∷ []

unfoldable pub slots : List ℕ
slots =
    0x100 ∷ 0x0 ∷ 0x119 ∷ 0x11B ∷ 0x11D ∷ 0x0 ∷ 0x250 ∷ 0x252 ∷ 0x254 ∷ 0x0 ∷ 0x240 ∷ 0x256 ∷ 0x0 ∷ 0x11F ∷ 0x31F ∷
    0x0 ∷ 0x158 ∷ 0x358 ∷ 0x0 ∷ 0x144 ∷ 0x344 ∷ 0x0 ∷ 0x15E ∷ 0x35E ∷ 0x0 ∷ 0x160 ∷ 0x360 ∷ 0x0 ∷ 0x26B ∷ 0x26D ∷
    0x0 ∷ 0x223 ∷ 0x125 ∷ 0x11B ∷ 0x127 ∷ 0x129 ∷ 0x127 ∷ 0x12B ∷ 0x22D ∷ 0x22F ∷ 0x231 ∷ 0x0 ∷ 0x11F ∷ 0x221 ∷ 0x0 ∷
    0x133 ∷ 0x0 ∷ 0x335 ∷ 0x0 ∷ 0x139 ∷ 0x139 ∷ 0x0 ∷ 0x11B ∷ 0x11D ∷ 0x0 ∷ 0x13C ∷ 0x0 ∷ 0x137 ∷ 0x337 ∷ 0x0 ∷
    0x11F ∷ 0x121 ∷ 0x0 ∷ 0x13E ∷ 0x33E ∷ 0x0 ∷ 0x11F ∷ 0x240 ∷ 0x107 ∷ 0x0 ∷ 0x11F ∷ 0x14E ∷ 0x0 ∷ 0x127 ∷ 0x0 ∷
    0x121 ∷ 0x0 ∷ 0x144 ∷ 0x344 ∷ 0x0 ∷ 0x11F ∷ 0x25A ∷ 0x0 ∷ 0x137 ∷ 0x337 ∷ 0x0 ∷ 0x11F ∷ 0x121 ∷ 0x0 ∷ 0x11F ∷
    0x144 ∷ 0x0 ∷ 0x262 ∷ 0x264 ∷ 0x266 ∷ 0x0 ∷ 0x168 ∷ 0x0 ∷ 0x144 ∷ 0x344 ∷ 0x0 ∷ 0x144 ∷ 0x344 ∷ 0x0 ∷ 0x137 ∷
    0x337 ∷ 0x0 ∷ 0x16F ∷ 0x36F ∷ 0x0 ∷ 0x16F ∷ 0x36F ∷ 0x0 ∷ 0x144 ∷ 0x271 ∷ 0x273 ∷ 0x0 ∷ 0x101 ∷ 0x0 ∷ 0x103 ∷
    0x0 ∷ 0x105 ∷ 0x0 ∷ 0x107 ∷ 0x0 ∷ 0x109 ∷ 0x0 ∷ 0x10B ∷ 0x0 ∷ 0x10D ∷ 0x0 ∷ 0x10F ∷ 0x0 ∷ 0x111 ∷ 0x0 ∷ 0x113 ∷
    0x0 ∷ 0x115 ∷ 0x0 ∷ 0x117 ∷ 0x0 ∷ []

unfoldable pub roots : List ℕ
roots =
    0x75 ∷ 0x77 ∷ 0x79 ∷ 0x7B ∷ 0x7D ∷ 0x7F ∷ 0x81 ∷ 0x83 ∷ 0x85 ∷ 0x87 ∷ 0x89 ∷ 0x8B ∷ []

forms_right : rows_say form_of Form.none rows ≡ all_forms types
unfolding rows types judged slots_at slot_rows algorithm_identifier attribute_type_and_value relative_distinguished_name name time validity
    subject_public_key_info extension extensions version tbs_certificate certificate other_name general_name general_names authority_key_identifier
    basic_constraints subject_key_identifier key_usage ext_key_usage policy_qualifier_info policy_information certificate_policies access_description
    authority_info_access distribution_point_name distribution_point crl_distribution_points ocsp_no_check general_subtree general_subtrees
    name_constraints
forms_right = refl

fields_right : rows_say fields_of Slots.done slots ≡ slot_rows
unfolding slots slot_rows types judged form_at algorithm_identifier attribute_type_and_value relative_distinguished_name name time validity
    subject_public_key_info extension extensions version tbs_certificate certificate other_name general_name general_names authority_key_identifier
    basic_constraints subject_key_identifier key_usage ext_key_usage policy_qualifier_info policy_information certificate_policies access_description
    authority_info_access distribution_point_name distribution_point crl_distribution_points ocsp_no_check general_subtree general_subtrees
    name_constraints
fields_right = refl

pub tables_right : Tables rows slots
tables_right = record { forms = forms_right; fields = fields_right }

pub roots_right : map slots_at roots ≡ map alone judged
unfolding roots slots_at slot_rows types judged algorithm_identifier attribute_type_and_value relative_distinguished_name name time validity
    subject_public_key_info extension extensions version tbs_certificate certificate other_name general_name general_names authority_key_identifier
    basic_constraints subject_key_identifier key_usage ext_key_usage policy_qualifier_info policy_information certificate_policies access_description
    authority_info_access distribution_point_name distribution_point crl_distribution_points ocsp_no_check general_subtree general_subtrees
    name_constraints
roots_right = refl

pub none_right : slots_at 0 ≡ alone Form.none
unfolding slots_at slot_rows types
none_right = refl

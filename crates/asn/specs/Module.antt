-- RFC 5280's types, under the names and with the fields of its ASN.1 modules: appendix A.1, where tags are explicit, and A.2, where they are
-- implicit. Read it beside them.
use Rattle.std.specs.Prelude.{List, [], ◌∷◌, ℕ, get_or}
use Rattle.asn.specs.Grammar.{Test, Form, Slots}
use Rattle.asn.specs.Grammar.Form.{none, alt}
use Rattle.asn.specs.Grammar.Inside.{leaf, parts, set}
use Rattle.asn.specs.Grammar.Slots.{done, one, opt, many}
use Rattle.der.specs.Tags.{boolean_tag, integer_tag, bit_string_tag, octet_string_tag, null_tag, object_identifier_tag, ia5_string_tag}
use Rattle.der.specs.Tags.{utc_time_tag, generalized_time_tag, sequence_tag, set_tag, context_tag, context_holder}

-- ASN.1's own words

abbrev pub any : Form
any = alt 0 (leaf Test.free) none

abbrev pub boolean_true : Form
boolean_true = alt boolean_tag (leaf Test.yes_octet) none

abbrev pub integer : Form
integer = alt integer_tag (leaf Test.integer) none

abbrev pub natural : Form
natural = alt integer_tag (leaf Test.natural) none

abbrev pub positive : Form
positive = alt integer_tag (leaf Test.positive) none

abbrev pub bit_string : Form
bit_string = alt bit_string_tag (leaf Test.bits) none

abbrev pub named_bits : Form
named_bits = alt bit_string_tag (leaf Test.bits_named) none

abbrev pub octet_string : Form
octet_string = alt octet_string_tag (leaf Test.free) none

abbrev pub null : Form
null = alt null_tag (leaf Test.nothing) none

abbrev pub object_identifier : Form
object_identifier = alt object_identifier_tag (leaf Test.oid) none

abbrev pub ia5_string : Form
ia5_string = alt ia5_string_tag (leaf Test.free) none

abbrev pub sequence : Slots → Form
sequence p = alt sequence_tag (parts p) none

-- SIZE (1..MAX)
abbrev pub some : Form → Slots
some f = one f (many f done)

abbrev pub sequence_of : Form → Form
sequence_of f = sequence (some f)

abbrev pub set_of : Form → Form
set_of f = alt set_tag (set (some f)) none

-- [n] IMPLICIT of a type of one alternative, primitive or constructed
abbrev pub implicit : ℕ → Form → Form
implicit n none = none
implicit n (alt i (leaf t) f) = alt (context_tag n) (leaf t) none
implicit n (alt i (parts p) f) = alt (context_holder n) (parts p) none
implicit n (alt i (set p) f) = alt (context_holder n) (set p) none

-- [n] EXPLICIT
abbrev pub explicit : ℕ → Form → Form
explicit n f = alt (context_holder n) (parts (one f done)) none

-- a tag whose contents are free: primitive, constructed
abbrev pub free : ℕ → Form
free n = alt (context_tag n) (leaf Test.free) none

abbrev pub free_list : ℕ → Form
free_list n = alt (context_holder n) (leaf Test.free) none

-- CHOICE
abbrev pub either : Form → Form → Form
either none g = g
either (alt i x f) g = alt i x (either f g)

abbrev pub choice : List Form → Form
choice [] = none
choice (f ∷ fs) = either f (choice fs)

-- Certificate

unfoldable pub algorithm_identifier : Form
algorithm_identifier =
    sequence
    (one object_identifier  -- algorithm
    (opt any  -- parameters
    done))

unfoldable pub attribute_type_and_value : Form
attribute_type_and_value = sequence (one object_identifier (one any done))

unfoldable pub relative_distinguished_name : Form
relative_distinguished_name = set_of attribute_type_and_value

unfoldable pub name : Form
name = sequence (many relative_distinguished_name done)

unfoldable pub time : Form
time = choice (alt utc_time_tag (leaf Test.utc) none ∷ alt generalized_time_tag (leaf Test.generalized) none ∷ [])

unfoldable pub validity : Form
validity = sequence (one time (one time done))

unfoldable pub subject_public_key_info : Form
subject_public_key_info = sequence (one algorithm_identifier (one bit_string done))

unfoldable pub extension : Form
extension =
    sequence
    (one object_identifier  -- extnID
    (opt boolean_true  -- critical BOOLEAN DEFAULT FALSE
    (one octet_string  -- extnValue
    done)))

unfoldable pub extensions : Form
extensions = sequence_of extension

unfoldable pub version : Form
version = alt integer_tag (leaf Test.version) none

unfoldable pub tbs_certificate : Form
tbs_certificate =
    sequence
    (opt (explicit 0 version)
    (one integer  -- serialNumber
    (one algorithm_identifier  -- signature
    (one name  -- issuer
    (one validity
    (one name  -- subject
    (one subject_public_key_info
    (opt (free 1)  -- issuerUniqueID
    (opt (free 2)  -- subjectUniqueID
    (opt (explicit 3 extensions)
    done))))))))))

unfoldable pub certificate : Form
certificate =
    sequence
    (one tbs_certificate
    (one algorithm_identifier  -- signatureAlgorithm
    (one bit_string  -- signatureValue
    done)))

-- Extensions

unfoldable pub other_name : Form
other_name = sequence (one object_identifier (one (explicit 0 any) done))

unfoldable pub general_name : Form
general_name =
    choice
    (implicit 0 other_name
    ∷ implicit 1 ia5_string  -- rfc822Name
    ∷ implicit 2 ia5_string  -- dNSName
    ∷ free_list 3  -- x400Address
    ∷ explicit 4 name  -- directoryName, a CHOICE
    ∷ free_list 5  -- ediPartyName
    ∷ implicit 6 ia5_string  -- uniformResourceIdentifier
    ∷ implicit 7 octet_string  -- iPAddress
    ∷ implicit 8 object_identifier  -- registeredID
    ∷ [])

unfoldable pub general_names : Form
general_names = sequence_of general_name

unfoldable pub authority_key_identifier : Form
authority_key_identifier =
    sequence
    (opt (implicit 0 octet_string)  -- keyIdentifier
    (opt (implicit 1 general_names)  -- authorityCertIssuer
    (opt (implicit 2 integer)  -- authorityCertSerialNumber
    done)))

unfoldable pub basic_constraints : Form
basic_constraints =
    sequence
    (opt boolean_true  -- cA BOOLEAN DEFAULT FALSE
    (opt natural  -- pathLenConstraint INTEGER (0..MAX)
    done))

unfoldable pub subject_key_identifier : Form
subject_key_identifier = octet_string

unfoldable pub key_usage : Form
key_usage = named_bits

unfoldable pub ext_key_usage : Form
ext_key_usage = sequence_of object_identifier

unfoldable pub policy_qualifier_info : Form
policy_qualifier_info = sequence (one object_identifier (one any done))

unfoldable pub policy_information : Form
policy_information =
    sequence
    (one object_identifier  -- policyIdentifier
    (opt (sequence_of policy_qualifier_info)  -- policyQualifiers
    done))

unfoldable pub certificate_policies : Form
certificate_policies = sequence_of policy_information

unfoldable pub access_description : Form
access_description = sequence (one object_identifier (one general_name done))

unfoldable pub authority_info_access : Form
authority_info_access = sequence_of access_description

unfoldable pub distribution_point_name : Form
distribution_point_name =
    choice
    (implicit 0 general_names  -- fullName
    ∷ implicit 1 relative_distinguished_name  -- nameRelativeToCRLIssuer
    ∷ [])

unfoldable pub distribution_point : Form
distribution_point =
    sequence
    (opt (explicit 0 distribution_point_name)  -- a CHOICE
    (opt (implicit 1 named_bits)  -- reasons
    (opt (implicit 2 general_names)  -- cRLIssuer
    done)))

unfoldable pub crl_distribution_points : Form
crl_distribution_points = sequence_of distribution_point

unfoldable pub ocsp_no_check : Form
ocsp_no_check = null

unfoldable pub general_subtree : Form
general_subtree =
    sequence
    (one general_name  -- base
    (opt (implicit 0 positive)  -- minimum BaseDistance DEFAULT 0, where BaseDistance ::= INTEGER (0..MAX)
    (opt (implicit 1 natural)  -- maximum BaseDistance
    done)))

unfoldable pub general_subtrees : Form
general_subtrees = sequence_of general_subtree

unfoldable pub name_constraints : Form
name_constraints =
    sequence
    (opt (implicit 0 general_subtrees)  -- permittedSubtrees
    (opt (implicit 1 general_subtrees)  -- excludedSubtrees
    done))

-- The types that the refusals and the rules ask for: Certificate at 0, and at s the value of the extension that rule 340 + s judges

unfoldable pub judged : List Form
judged =
    certificate
    ∷ authority_key_identifier
    ∷ basic_constraints
    ∷ subject_key_identifier
    ∷ key_usage
    ∷ ext_key_usage
    ∷ certificate_policies
    ∷ general_names
    ∷ authority_info_access
    ∷ crl_distribution_points
    ∷ ocsp_no_check
    ∷ name_constraints
    ∷ []

unfoldable pub value_of : ℕ → Form
value_of s = get_or judged s none

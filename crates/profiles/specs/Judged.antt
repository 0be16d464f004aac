-- Which rule is judged in which profile, and at which level. Of its profiles every rule says so itself, where its number stands (`◌for◌⦂◌` in report's `Rows`);
-- here the same by numbers, as the code looks it up. No function that judges a rule could be proved if the two differed. Its level stands here alone.
use Rattle.std.specs.Prelude.{Bool, cond, List, [], ◌∷◌, ℕ, eqb}
use Rattle.octets.specs.Octets.{is_one_of}
use Rattle.profiles.specs.Fields.{profile_number}
use Rattle.profiles.specs.declared.fields.Profile.{Profile}
use Rattle.profiles.specs.declared.levels.Level.{Level}
use Rattle.profiles.specs.declared.levels.Level.TheVariants.{Must}

-- "S is profiles 1 and 2, O is 3"
abbrev pub S : List ℕ
S = 1 ∷ 2 ∷ []

abbrev pub O : List ℕ
O = 3 ∷ []

-- a rule without a letter holds in both
abbrev pub server_and_responder : List ℕ
server_and_responder = 1 ∷ 2 ∷ O

-- "source document 001 as profile 4" (document 02, CR 1)
abbrev pub subordinate : List ℕ
subordinate = 4 ∷ []

-- what document 01 has for S, and CR 1 says to hold in profile 4
abbrev pub server_and_subordinate : List ℕ
server_and_subordinate = 1 ∷ 2 ∷ subordinate

-- what document 01 has without a letter, and CR 1 says to hold
abbrev pub every_profile : List ℕ
every_profile = 1 ∷ 2 ∷ 3 ∷ subordinate

-- a rule, its level, and the profiles that judge it: "all rules so far are 1", which is must (CR 3)
abbrev pub rule_table : List (ℕ × Level × List ℕ)
rule_table =
    -- fields
    (101, Must, every_profile)
    ∷ (102, Must, every_profile)
    ∷ (103, Must, every_profile)
    ∷ (104, Must, O)
    ∷ (105, Must, every_profile)
    ∷ (106, Must, every_profile)
    ∷ (107, Must, every_profile)
    ∷ (108, Must, every_profile)
    ∷ (109, Must, every_profile)
    ∷ (110, Must, every_profile)
    ∷ (111, Must, every_profile)
    -- subject
    ∷ (112, Must, every_profile)
    ∷ (113, Must, every_profile)
    ∷ (114, Must, every_profile)
    ∷ (115, Must, every_profile)
    ∷ (116, Must, 2 ∷ 3 ∷ subordinate)
    ∷ (117, Must, 2 ∷ 3 ∷ subordinate)
    ∷ (118, Must, 2 ∷ [])
    ∷ (119, Must, 2 ∷ [])
    ∷ (120, Must, S)
    ∷ (121, Must, O)
    ∷ (122, Must, subordinate)
    -- key
    ∷ (201, Must, every_profile)
    ∷ (202, Must, server_and_responder)
    ∷ (203, Must, S)
    ∷ (204, Must, every_profile)
    ∷ (205, Must, server_and_responder)
    ∷ (206, Must, server_and_responder)
    ∷ (207, Must, O)
    ∷ (208, Must, subordinate)
    -- an extension that is missing (300 + slot)
    ∷ (301, Must, every_profile)
    ∷ (302, Must, server_and_subordinate)
    ∷ (303, Must, every_profile)
    ∷ (304, Must, every_profile)
    ∷ (305, Must, every_profile)
    ∷ (306, Must, every_profile)
    ∷ (307, Must, S)
    ∷ (308, Must, every_profile)
    ∷ (309, Must, subordinate)
    ∷ (310, Must, O)
    ∷ (311, Must, subordinate)
    -- its criticality (320 + slot)
    ∷ (321, Must, every_profile)
    ∷ (322, Must, server_and_subordinate)
    ∷ (323, Must, every_profile)
    ∷ (324, Must, every_profile)
    ∷ (325, Must, every_profile)
    ∷ (326, Must, every_profile)
    ∷ (327, Must, every_profile)
    ∷ (328, Must, every_profile)
    ∷ (329, Must, every_profile)
    ∷ (330, Must, O)
    ∷ (331, Must, subordinate)
    -- its value (340 + slot)
    ∷ (341, Must, every_profile)
    ∷ (342, Must, server_and_subordinate)
    ∷ (343, Must, every_profile)
    ∷ (344, Must, every_profile)
    ∷ (345, Must, every_profile)
    ∷ (346, Must, every_profile)
    ∷ (347, Must, every_profile)
    ∷ (348, Must, every_profile)
    ∷ (349, Must, every_profile)
    ∷ (350, Must, O)
    ∷ (351, Must, subordinate)
    -- extensions by their identifiers
    ∷ (361, Must, every_profile)
    ∷ (362, Must, O)
    ∷ (363, Must, S)
    -- what values say
    ∷ (401, Must, every_profile)
    ∷ (402, Must, S)
    ∷ (403, Must, every_profile)
    ∷ (404, Must, server_and_responder)
    ∷ (405, Must, server_and_responder)
    ∷ (407, Must, every_profile)
    ∷ (408, Must, server_and_responder)
    ∷ (409, Must, every_profile)
    ∷ (410, Must, server_and_subordinate)
    ∷ (411, Must, server_and_responder)
    ∷ (412, Must, server_and_responder)
    ∷ (413, Must, server_and_subordinate)
    ∷ (414, Must, server_and_responder)
    ∷ (415, Must, server_and_subordinate)
    ∷ (416, Must, every_profile)
    ∷ (417, Must, server_and_subordinate)
    ∷ (418, Must, every_profile)
    ∷ (419, Must, every_profile)
    ∷ (421, Must, subordinate)
    ∷ (422, Must, subordinate)
    ∷ (423, Must, subordinate)
    ∷ (424, Must, subordinate)
    ∷ []

-- every rule's number is below this
abbrev pub rule_limit : ℕ
rule_limit = 425

-- what the table says of a rule; of what is no rule it says no profile, so that no entry has its level
unfoldable pub row_of : List (ℕ × Level × List ℕ) → ℕ → Level × List ℕ
row_of [] rule = (Must, [])
row_of (row ∷ rows) rule = cond (eqb rule row.0) (row.1, row.2) (row_of rows rule)

unfoldable pub level_of : ℕ → Level
level_of rule = (row_of rule_table rule).0

unfoldable pub judged_in : ℕ → List ℕ
judged_in rule = (row_of rule_table rule).1

-- the profile is one of these
unfoldable pub judged_by : Profile → List ℕ → Bool
judged_by p profiles = is_one_of (profile_number p) profiles

-- the profile judges the rule
abbrev pub judges : Profile → ℕ → Bool
judges p rule = judged_by p (judged_in rule)

-- CRL distribution points (RFC 5280, 4.2.1.13):
--     DistributionPoint ::= SEQUENCE { distributionPoint [0] DistributionPointName OPTIONAL, reasons [1] ReasonFlags OPTIONAL,
--                                      cRLIssuer [2] GeneralNames OPTIONAL }
--     DistributionPointName ::= CHOICE { fullName [0] GeneralNames, nameRelativeToCRLIssuer [1] RelativeDistinguishedName }
-- All tags are implicit but that of distributionPoint, since a CHOICE has no tag to replace: it holds the fullName as an element.
use Rattle.std.specs.Prelude.{List, Bool, cond, ◌&&◌, ◌||◌, ℕ, eqb}
use Rattle.der.specs.Members.{missing, members_in, first_in}
use Rattle.der.specs.Tags.{context_tag, context_holder}
use Rattle.der.specs.declared.header.Head.{Head}
use Rattle.der.specs.Elements.{any_of}

-- reasons, or cRLIssuer
abbrev pub is_restriction : Head → Bool
is_restriction h = eqb h.tag (context_tag 1) || eqb h.tag (context_holder 2)

-- 419 "each point with reasons or cRLIssuer"
abbrev pub is_restricted : List ℕ → Head → Bool
is_restricted s h = any_of is_restriction (members_in s h)

-- a point has a full name: distributionPoint stands first, and in it fullName
abbrev pub has_full_name : List ℕ → Head → Bool
has_full_name s h = eqb (first_in s h).tag (context_holder 0) && eqb (first_in s (first_in s h)).tag (context_holder 0)

-- it, or an element that holds nothing
unfoldable pub full_name_of : List ℕ → Head → Head
full_name_of s h = cond (has_full_name s h) (first_in s (first_in s h)) (missing h.end)

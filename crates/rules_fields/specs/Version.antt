-- Rules 101 to 104 (document 01, "Rules on fields").
use Rattle.std.specs.Prelude.{Bool, cond, not, ◌&&◌, List, [], ◌∷◌, ℕ, ◌-◌, ltb, eqb}
use Rattle.der.specs.Contents.{contents_of}
use Rattle.der.specs.Comparing.{first_is}
use Rattle.der.specs.Integers.{integer_of}
use Rattle.der.specs.Tags.{context_holder}
use Rattle.der.specs.declared.header.Head.{Head}
use Rattle.numbers.specs.Numbers.{is_positive}
use Rattle.certificate.specs.declared.fields.Certificate.{Certificate}
use Rattle.profiles.specs.Judged.{O, every_profile}
use Rattle.report.specs.Rows.{Row, ◌for◌⦂◌, broken_at}

-- the version stands in [0], and 2 says v3 (RFC 5280, 4.1.2.1)
abbrev pub is_v3 : List ℕ → Head → Bool
is_v3 s version = eqb version.tag (context_holder 0) && first_is s version (2 ∷ [])

abbrev pub version_place : Head → Head → Head
version_place version tbs = cond (eqb version.tag (context_holder 0)) version tbs

-- 101 "version v3 (at its [0], or the TBS structure)"
abbrev pub rule101 : List ℕ → Certificate → List Head
rule101 s c = broken_at (not (is_v3 s c.version)) (version_place c.version c.tbs)

abbrev pub is_above_zero : List ℕ → Head → Bool
is_above_zero s serial = is_positive (integer_of (contents_of s serial))

-- 102 "serial above zero"
abbrev pub rule102 : List ℕ → Certificate → List Head
rule102 s c = broken_at (not (is_above_zero s c.serial)) c.serial

abbrev pub serial_length : Head → ℕ
serial_length serial = serial.end - serial.body

-- 103 "serial at most 20 content octets"
abbrev pub rule103 : Certificate → List Head
rule103 c = broken_at (ltb 20 (serial_length c.serial)) c.serial

-- 104 "at least 8"
abbrev pub rule104 : Certificate → List Head
rule104 c = broken_at (ltb (serial_length c.serial) 8) c.serial

unfoldable pub version_rows : List ℕ → Certificate → List Row
version_rows s c =
    101 for every_profile ⦂ rule101 s c
    ∷ 102 for every_profile ⦂ rule102 s c
    ∷ 103 for every_profile ⦂ rule103 c
    ∷ 104 for O ⦂ rule104 c
    ∷ []

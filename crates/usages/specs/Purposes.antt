-- Purposes, which rules 407 and 408 ask for: ExtKeyUsageSyntax ::= SEQUENCE SIZE (1..MAX) OF KeyPurposeId, and KeyPurposeId ::= OBJECT IDENTIFIER (RFC
-- 5280, 4.2.1.12).
use Rattle.std.specs.Prelude.{List, [], ◌∷◌, ℕ}
use Rattle.der.specs.Arcs.{arc_below}
use Rattle.der.specs.Contents.{contents_of}
use Rattle.der.specs.Oids.{oid}
use Rattle.der.specs.declared.header.Head.{Head}

-- id-kp
abbrev pub key_purposes : List ℕ
key_purposes = oid (1 ∷ 3 ∷ 6 ∷ 1 ∷ 5 ∷ 5 ∷ 7 ∷ 3 ∷ [])

-- n of a purpose 1.3.6.1.5.5.7.3.n with n below 128; any other one is 0 here
abbrev pub purpose_arc : List ℕ → Head → ℕ
purpose_arc s h = arc_below key_purposes (contents_of s h)

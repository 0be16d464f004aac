-- The rules that a profile judges, as the bits of numbers: one for each hundred of rules, whose bit k stands for the rule that is k above it.
-- How the code goes about it: named by contracts of functions that no other crate can call, and by nothing else of `specs/`.
use Rattle.std.specs.Prelude.{cond, ℕ, eqb}
use Rattle.profiles.specs.declared.fields.Profile.{Profile}
use Rattle.profiles.specs.declared.fields.Profile.TheVariants.{Domain, Organization, Responder, Subordinate}

-- rules from 100 on, from 200, from 300, from 400; there are no others
abbrev pub of_hundred : ℕ → ℕ → ℕ → ℕ → ℕ → ℕ
of_hundred hundred fields key extensions values =
    cond (eqb hundred 1) fields
    (cond (eqb hundred 2) key
    (cond (eqb hundred 3) extensions
    (cond (eqb hundred 4) values 0)))

abbrev pub judged_bits : Profile → ℕ → ℕ
judged_bits Domain hundred = of_hundred hundred 0x10FFEE 0x7E 0xA003FE003FE001FE 0xFFFBE
judged_bits Organization hundred = of_hundred hundred 0x1FFFEE 0x7E 0xA003FE003FE001FE 0xFFFBE
judged_bits Responder hundred = of_hundred hundred 0x23FFFE 0xF6 0x6007FA007FA0057A 0xD5BBA
judged_bits Subordinate hundred = of_hundred hundred 0x43FFEE 0x112 0x200BFE00BFE00B7E 0x1EFA68A

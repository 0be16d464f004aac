-- Contents by the tests that are made of single octets.
--     one_octet_lem       one octet that passes a test
--     natural_law     an INTEGER from 0
--     positive_law    an INTEGER from 1
--     named_law       a named bit list
-- Assumes nothing.
use mathlib.Core.Path.{◌≡◌, refl, sym, ap, ◌∙◌}
use mathlib.Core.List.{List}
use mathlib.Core.Bool.{Bool, not, ◌&&◌, ◌||◌, and-true}
use Prim.Native.Nat.{ℕ, zero, suc, ◌+◌, ◌-◌, ◌/◌, ◌%◌, ◌^◌}
use native.Mathlib.Omega.{arith}
use lib.Dec.{eqb, ltb}
use borrow.Author.Tests.{ne_eqb}
use Rattle.asn.specs.Grammar.{one_octet, natural_ok, positive_ok, named_ok}
use Rattle.octets.specs.Octets.{octet_at, octets_from}
use Rattle.der.specs.Contents.{last_of, primitive_ok}
use Rattle.der.proofs.Laws.Contents.{last_law}

pub one_octet_lem : (f : ℕ → Bool) (s : List ℕ) (body n b : ℕ) → b ≡ octet_at s body → (eqb n 1 && f b) ≡ one_octet f (octets_from s body n)
unfolding octets_from
one_octet_lem f s body zero b e = refl
one_octet_lem f s body (suc zero) b e = rw e
one_octet_lem f s body (suc (suc n)) b e = rw (ne_eqb (suc (suc n)) 1 (λ h. omega arith))

pub natural_law : (s : List ℕ) (body n first : ℕ) (good : Bool) → first ≡ octet_at s body → good ≡ primitive_ok 2 (octets_from s body n)
    → (good && ltb first 128) ≡ natural_ok (octets_from s body n)
unfolding octets_from primitive_ok
natural_law s body zero first good e g = rw g
natural_law s body (suc n) first good e g = rw (g, e)

pub positive_law : (s : List ℕ) (body n first : ℕ) (natural : Bool) → first ≡ octet_at s body → natural ≡ natural_ok (octets_from s body n)
    → (natural && not (eqb n 1 && eqb first 0)) ≡ positive_ok (octets_from s body n)
positive_law s body n first natural e g = rw (g, one_octet_lem (λ b. eqb b 0) s body n first e)

pub named_law : (s : List ℕ) (body n unused last : ℕ) (good bit : Bool) → unused ≡ octet_at s body → last ≡ octet_at s (body + (n - 1))
    → bit ≡ eqb (last / 2 ^ unused % 2) 1 → good ≡ primitive_ok 3 (octets_from s body n)
    → (good && (eqb n 1 || bit)) ≡ named_ok (octets_from s body n)
unfolding octets_from primitive_ok
named_law s body zero unused last good bit u l b g = rw g
named_law s body (suc zero) unused last good bit u l b g = rw g (and-true (eqb (octet_at s body) 0))
named_law s body (suc (suc n)) unused last good bit u l b g =
    let i : body + (suc (suc n) - 1) ≡ body + 1 + n = omega arith in
    let k : last ≡ last_of (octet_at s (body + 1)) (octets_from s (body + 1 + 1) n) = l ∙ ap (octet_at s) i ∙ sym (last_law s (body + 1) n) in
    rw (ne_eqb (suc (suc n)) 1 (λ h. omega arith), g, b, k, u)

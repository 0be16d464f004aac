-- Rules 204 to 208 by the key that is read of the bits.
--     divided_noted     207, which takes time
--     none_noted        nothing is put for a key that is no RSA key
--     broken_noted      204 alone, where the bits hold no key
--     numbers_noted     205 to 208, where they hold one
-- Assumes nothing.
use mathlib.Core.Path.{◌≡◌, refl, subst}
use mathlib.Core.List.{List, [], ◌∷◌}
use mathlib.Core.Bool.{Bool, true, false, not, ◌&&◌}
use Prim.Native.Nat.{ℕ}
use Rattle.std.specs.Prelude.{Some, None}
use Rattle.std.specs.Bool.{then_some}
use Rattle.profiles.specs.Judged.{judges, judged_in, row_of}
use Rattle.rules_key.specs.Bits.{modulus_of, exponent_of, rsa_bits}
use Rattle.rules_key.specs.Workings.Bits.{rsa_key_of, number_rows}
use Rattle.rules_key.specs.Rsa.{rsa_rows}
use Rattle.rules_key.specs.declared.bits.RsaKey.{RsaKey}
use Rattle.octets.specs.Numbers.{number_of}
use Rattle.der.specs.Contents.{contents_of}
use Rattle.der.specs.declared.header.Head.{Head}
use Rattle.numbers.specs.Numbers.{modulus_ok, long_modulus, exponent_ok}
use Rattle.primes.specs.Primes.{primes_below, free_of}
use Rattle.profiles.specs.declared.fields.Profile.{Profile}
use Rattle.certificate.specs.declared.key.Key.{Key}
use Rattle.facts.specs.Kinds.{is_rsa}
use Rattle.report.specs.Rows.{Row, ◌⦂◌, broken_at, Puts}
use Rattle.report.proofs.Laws.Rows.{◌⟫◌, puts_empty, puts_asked}

-- 207 where the profile judges it: the test takes time
pub divided_noted : {n m : ℕ} {a b : List ℕ} (p : Profile) (divided : Bool) (h : Head)
    → Puts p (207 ⦂ broken_at (judges p 207 && divided) h ∷ []) n a m b → Puts p (207 ⦂ broken_at divided h ∷ []) n a m b
divided_noted {n} {m} {a} {b} p divided h q =
    puts_asked p 207 true divided h (subst (λ (bad : Bool). Puts p (207 ⦂ broken_at bad h ∷ []) n a m b) (both (judges p 207) divided) q)
  where
    both : (judged bad : Bool) → (judged && bad) ≡ ((judged && true) && bad)
    both true bad = refl
    both false bad = refl

module _ (p : Profile) (s : List ℕ) (k : Key) where
  abbrev number : Head → ℕ
  number h = number_of (contents_of s h)

  -- the key that the bits hold
  abbrev here : RsaKey
  here = record { modulus = modulus_of s k.bits; exponent = exponent_of s k.bits }

  -- the rows by whether it is an RSA key, and whether its bits keep rule 204
  abbrev rows_by : Bool → Bool → List Row
  rows_by rsa kept =
      let m = modulus_of s k.bits in
      let e = exponent_of s k.bits in
      204 ⦂ broken_at (rsa && not kept) k.bits
      ∷ 205 ⦂ broken_at ((rsa && kept) && not (modulus_ok (number m))) m
      ∷ 206 ⦂ broken_at ((rsa && kept) && not (exponent_ok (number e))) e
      ∷ 207 ⦂ broken_at ((rsa && kept) && not (free_of (primes_below 752) (number m))) m
      ∷ 208 ⦂ broken_at ((rsa && kept) && not (long_modulus (number m))) m
      ∷ []

  rows_are : rsa_rows s k ≡ rows_by (is_rsa k.kind) (rsa_bits s k.bits)
  unfolding rsa_rows judged_in row_of
  rows_are = refl

  module _ (n : ℕ) (room : List ℕ) where
    none_of : (kept : Bool) → Puts p (rows_by false kept) n room n room
    unfolding broken_at
    none_of kept =
        puts_empty p 204 n room ⟫ puts_empty p 205 n room ⟫ puts_empty p 206 n room ⟫ puts_empty p 207 n room ⟫ puts_empty p 208 n room

    pub none_noted : is_rsa k.kind ≡ false → Puts p (rsa_rows s k) n room n room
    none_noted e = rw (rows_are, e) (none_of (rsa_bits s k.bits))

    module _ (r : ℕ) (last : List ℕ) (e : is_rsa k.kind ≡ true) where
      broken_by : Puts p (204 ⦂ broken_at true k.bits ∷ []) n room r last → Puts p (rows_by true false) n room r last
      unfolding broken_at
      broken_by q =
          q ⟫ puts_empty p 205 r last ⟫ puts_empty p 206 r last ⟫ puts_empty p 207 r last ⟫ puts_empty p 208 r last

      pub broken_noted : None ≡ rsa_key_of s k.bits → Puts p (204 ⦂ broken_at true k.bits ∷ []) n room r last → Puts p (rsa_rows s k) n room r last
      unfolding rsa_key_of
      broken_noted f q = rw (rows_are, e) (go (rsa_bits s k.bits) f)
        where
          go : (kept : Bool) → None ≡ then_some kept here
              → Puts p (rows_by true kept) n room r last
          go true f = cc
          go false f = broken_by q

      numbers_by : Puts p (number_rows s here) n room r last → Puts p (rows_by true true) n room r last
      unfolding broken_at
      numbers_by q = puts_empty p 204 n room ⟫ q

      pub numbers_noted : (key : RsaKey) → Some key ≡ rsa_key_of s k.bits → Puts p (number_rows s key) n room r last → Puts p (rsa_rows s k) n room r last
      unfolding rsa_key_of
      numbers_noted key f q = rw (rows_are, e) (go (rsa_bits s k.bits) f)
        where
          go : (kept : Bool) → Some key ≡ then_some kept here → Puts p (rows_by true kept) n room r last
          go true f =
              let same : key ≡ here = cc in
              numbers_by (subst (λ (x : RsaKey). Puts p (number_rows s x) n room r last) same q)
          go false f = cc

-- An RSA key by the elements that are read of it.
--     two_are         a list of two positive INTEGERs
--     rsa_is          the whole key
--     rsa_members     what the SEQUENCE of a good key holds
-- Assumes nothing.
use mathlib.Core.Path.{◌≡◌, refl, ◌∙◌}
use mathlib.Core.List.{List, [], ◌∷◌}
use mathlib.Core.Bool.{Bool, true, false, ◌&&◌}
use Prim.Native.Nat.{ℕ, ◌≤◌, ◌<◌}
use native.Mathlib.Omega.{arith}
use Rattle.std.specs.Prelude.{Option}
use Rattle.std.specs.Bool.{then_some}
use lib.Dec.{ltb, eqb}
use borrow.Author.Tests.{ltb-true, ltb-false, eqb-true, eqb-false}
use Rattle.rules_key.specs.Bits.{bits_from, sequence_in, modulus_of, exponent_of, is_positive_integer, two_positive, rsa_bits}
use Rattle.rules_key.specs.Workings.Bits.{rsa_key_of}
use Rattle.rules_key.specs.declared.bits.RsaKey.{RsaKey}
use Rattle.octets.specs.Octets.{octet_at}
use Rattle.octets.proofs.Laws.Tests.{and_l, and_r}
use Rattle.der.specs.Header.{head_of, children_of}
use Rattle.der.specs.Soundness.{stretch_soundness, Soundness}
use Rattle.der.specs.declared.header.Head.{Head}
use Rattle.der.proofs.Laws.Header.{head_forward}
use Rattle.der.proofs.Laws.Children.{children_done, children_next}
use Rattle.std.specs.Prelude.{is_ok}

-- m and e are the first two elements, and a and b say whether they are positive INTEGERs
pub two_are :
    (s : List ℕ) (body end : ℕ) (m e : Head) (a b : Bool) → m ≡ head_of s body end → e ≡ head_of s m.end end
    → a ≡ is_positive_integer s m → b ≡ is_positive_integer s e
    → ((ltb body end && (ltb m.end end && eqb e.end end)) && (a && b)) ≡ two_positive s (children_of s body end)
two_are s body end m e a b p q u v = first (ltb body end) refl
  where
    third : (x : Bool) → eqb e.end end ≡ x → m.end < end → (x && (a && b)) ≡ two_positive s (m ∷ e ∷ children_of s e.end end)
    third true z l = let f : end ≤ e.end = omega (arith, eqb-true e.end end z) in rw (children_done s e.end end f, u, v)
    third false z l =
        let f : e.end ≤ end = rw q (head_forward s m.end end l).1 in
        let n : e.end ≡ end → ⊥ = eqb-false e.end end z in
        rw (children_next s e.end end (omega arith))

    second : (x : Bool) → ltb m.end end ≡ x → ((x && eqb e.end end) && (a && b)) ≡ two_positive s (m ∷ children_of s m.end end)
    second true z = let l = ltb-true m.end end z in rw (children_next s m.end end l, ← q) (third (eqb e.end end) refl l)
    second false z = rw (children_done s m.end end (ltb-false m.end end z))

    first : (x : Bool) → ltb body end ≡ x → ((x && (ltb m.end end && eqb e.end end)) && (a && b)) ≡ two_positive s (children_of s body end)
    first true z = rw (children_next s body end (ltb-true body end z), ← p) (second (ltb m.end end) refl)
    first false z = rw (children_done s body end (ltb-false body end z))

-- what is read of the BIT STRING: where its bits start, the octet before them, what the walk found, and the elements
pub rsa_is :
    (s : List ℕ) (h : Head) (from unused : ℕ) (found : Soundness) (sound : Bool) (whole m e : Head) (a b : Bool)
    → from ≡ bits_from h → unused ≡ octet_at s h.body → found ≡ stretch_soundness s from h.end → sound ≡ is_ok found
    → whole ≡ head_of s from h.end → m ≡ head_of s whole.body whole.end → e ≡ head_of s m.end whole.end
    → a ≡ is_positive_integer s m → b ≡ is_positive_integer s e
    → ◌≡◌ {A = Option RsaKey}
    (then_some
    (eqb unused 0
    && (sound && (eqb whole.tag 48 && ((ltb whole.body whole.end && (ltb m.end whole.end && eqb e.end whole.end)) && (a && b)))))
    (record { modulus = m; exponent = e }))
    (rsa_key_of s h)
unfolding rsa_key_of rsa_bits
rsa_is s h from unused found sound whole m e a b fr un fo so wh mo ex pa pb =
    rw (two_are s whole.body whole.end m e a b mo ex pa pb, so, fo, un, ex, mo, wh, fr)

-- where rule 204 is kept, the SEQUENCE holds the modulus and the exponent, and no more
pub rsa_members :
    (s : List ℕ) (h : Head) → rsa_bits s h ≡ true
    → children_of s (sequence_in s h).body (sequence_in s h).end ≡ modulus_of s h ∷ exponent_of s h ∷ []
unfolding rsa_bits
rsa_members s h t =
    let body = (sequence_in s h).body in
    let end = (sequence_in s h).end in
    let m = modulus_of s h in
    let e = exponent_of s h in
    let sound = is_ok (stretch_soundness s (bits_from h) h.end) in
    let sequence = eqb (sequence_in s h).tag 48 in
    let two = two_positive s (children_of s body end) in
    let positive = is_positive_integer s m && is_positive_integer s e in
    let holds = and_r sequence two (and_r sound (sequence && two) (and_r (eqb (octet_at s h.body) 0) (sound && (sequence && two)) t)) in
    let both = two_are s body end m e (is_positive_integer s m) (is_positive_integer s e) refl refl refl refl ∙ holds in
    let fill = and_l (ltb body end && (ltb m.end end && eqb e.end end)) positive both in
    let rest = and_r (ltb body end) (ltb m.end end && eqb e.end end) fill in
    let first = ltb-true body end (and_l (ltb body end) (ltb m.end end && eqb e.end end) fill) in
    let second = ltb-true m.end end (and_l (ltb m.end end) (eqb e.end end) rest) in
    let last = eqb-true e.end end (and_r (ltb m.end end) (eqb e.end end) rest) in
    let behind : end ≤ e.end = omega arith in
    rw (children_next s body end first, children_next s m.end end second, children_done s e.end end behind)

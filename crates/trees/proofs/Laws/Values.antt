-- Values of the universal types, written and read.
--     boolean_exactly, integer_exactly, bits_exactly, null_exactly, oid_exactly     contents pass a type's test exactly if they are a value's
--     says_exactly                                                                  the same of any type, by its number
--     value_reads, value_one                                                        contents say their value, and no other has them
-- Assumes nothing.
use mathlib.Core.Path.{◌≡◌, refl, sym, ap, ◌∙◌}
use mathlib.Core.Logic.{◌↔◌}
use mathlib.Core.List.{List, [], ◌∷◌}
use mathlib.Core.Bool.{Bool, true, false, cond, not, ◌||◌}
use Prim.Native.Nat.{ℕ}
use native.Mathlib.Omega.{arith}
use lib.Dec.{eqb}
use lib.IntN.{ℤ}
use borrow.Author.Tests.{eqb-true, not-true}
use Rattle.trees.specs.Values.{boolean_octets, integer_octets, bit_string_octets, Arcs, type_number, contents, ruled, Right, Says}
use Rattle.trees.specs.Values.{Value, boolean, integer, enumerated, bit_string, null, identifier, other}
use Rattle.der.specs.Contents.{holds_elements, boolean_ok, integer_ok, bits_ok, null_ok, oid_ok, primitive_ok}
use Rattle.der.specs.Integers.{integer_of}
use Rattle.der.specs.Oids.{oid}
use Rattle.octets.specs.Octets.{Octets}
use Rattle.trees.proofs.Laws.Numbers.{octets_put}
use Rattle.trees.proofs.Laws.Integers.{integer_octets_lem, integer_passes, integer_reads, integer_written}
use Rattle.trees.proofs.Laws.Bits.{bits_of, bits_octets, bits_passes, bits_reads, bits_written}
use Rattle.trees.proofs.Laws.Arcs.{arcs_of, oid_octets, oid_passes, oid_reads, oid_written}

or_l : (a b : Bool) → (a || b) ≡ false → a ≡ false
or_l true b e = e
or_l false b e = refl

or_r : (a b : Bool) → (a || b) ≡ false → b ≡ false
or_r true b e = cc
or_r false b e = e

-- ---- each type

unfoldable boolean_of : List ℕ → Bool
boolean_of [] = false
boolean_of (b ∷ bs) = eqb b 255

boolean_passes : (v : Bool) → boolean_ok (boolean_octets v) ≡ true
boolean_passes true = refl
boolean_passes false = refl

boolean_written : (c : List ℕ) → boolean_ok c ≡ true → boolean_octets (boolean_of c) ≡ c
unfolding boolean_of
boolean_written [] e = absurd (let k : ◌≡◌ {A = ℕ} 0 1 = cc in omega arith)
boolean_written (b ∷ []) e = go (eqb b 255) refl (eqb b 0) refl e
  where
    go : (s : Bool) → eqb b 255 ≡ s → (t : Bool) → eqb b 0 ≡ t → (t || s) ≡ true → boolean_octets s ≡ b ∷ []
    go true f t g k = ap (λ (n : ℕ). n ∷ []) (sym (eqb-true b 255 f))
    go false f true g k = ap (λ (n : ℕ). n ∷ []) (sym (eqb-true b 0 g))
    go false f false g k = absurd (let k : ◌≡◌ {A = ℕ} 0 1 = cc in omega arith)
boolean_written (b ∷ c ∷ cs) e = absurd (let k : ◌≡◌ {A = ℕ} 0 1 = cc in omega arith)

pub boolean_exactly : (c : List ℕ) → (boolean_ok c ≡ true) ↔ ((v : Bool) × (boolean_octets v ≡ c))
boolean_exactly c = ((λ e. (boolean_of c, boolean_written c e)), λ p. ap boolean_ok (sym p.1) ∙ boolean_passes p.0)

pub integer_exactly : (c : List ℕ) → Octets c → (integer_ok c ≡ true) ↔ ((v : ℤ) × (integer_octets v ≡ c))
integer_exactly c o = ((λ e. (integer_of c, integer_written c o e)), λ p. ap integer_ok (sym p.1) ∙ integer_passes p.0)

pub bits_exactly : (c : List ℕ) → Octets c → (bits_ok c ≡ true) ↔ ((v : List Bool) × (bit_string_octets v ≡ c))
bits_exactly c o = ((λ e. (bits_of c, bits_written c o e)), λ p. ap bits_ok (sym p.1) ∙ bits_passes p.0)

null_written : (c : List ℕ) → null_ok c ≡ true → [] ≡ c
null_written [] e = refl
null_written (b ∷ bs) e = absurd (let k : ◌≡◌ {A = ℕ} 0 1 = cc in omega arith)

pub null_exactly : (c : List ℕ) → (null_ok c ≡ true) ↔ ([] ≡ c)
null_exactly c = (null_written c, λ e. ap null_ok (sym e))

pub oid_exactly : (c : List ℕ) → Octets c → (oid_ok c ≡ true) ↔ ((arcs : List ℕ) × Arcs arcs × (oid arcs ≡ c))
oid_exactly c o = ((λ e. let w = oid_written c o e in (arcs_of c, w.0, w.1)), λ p. ap oid_ok (sym p.2) ∙ oid_passes p.0 p.1)

-- ---- by the number

-- a type that no rule is for
record Unruled (n : ℕ) : Type 0 where
  one : eqb n 1 ≡ false
  two : eqb n 2 ≡ false
  three : eqb n 3 ≡ false
  five : eqb n 5 ≡ false
  six : eqb n 6 ≡ false
  ten : eqb n 10 ≡ false

unruled : (n : ℕ) → ruled n ≡ false → Unruled n
unruled n e =
    let a = or_r (eqb n 1) (eqb n 2 || (eqb n 3 || (eqb n 5 || (eqb n 6 || eqb n 10)))) e in
    let b = or_r (eqb n 2) (eqb n 3 || (eqb n 5 || (eqb n 6 || eqb n 10))) a in
    let c = or_r (eqb n 3) (eqb n 5 || (eqb n 6 || eqb n 10)) b in
    let d = or_r (eqb n 5) (eqb n 6 || eqb n 10) c in
    record {
      one = or_l (eqb n 1) (eqb n 2 || (eqb n 3 || (eqb n 5 || (eqb n 6 || eqb n 10)))) e;
      two = or_l (eqb n 2) (eqb n 3 || (eqb n 5 || (eqb n 6 || eqb n 10))) a;
      three = or_l (eqb n 3) (eqb n 5 || (eqb n 6 || eqb n 10)) b;
      five = or_l (eqb n 5) (eqb n 6 || eqb n 10) c;
      six = or_l (eqb n 6) (eqb n 10) d;
      ten = or_r (eqb n 6) (eqb n 10) d;
    }

unruled_test : (n : ℕ) (c : List ℕ) → ruled n ≡ false → primitive_ok n c ≡ not (holds_elements n)
unfolding primitive_ok
unruled_test n c e = let u = unruled n e in rw (u.one, u.two, u.ten, u.three, u.five, u.six)

value_passes : (v : Value) → Right v → primitive_ok (type_number v) (contents v) ≡ true
unfolding Right type_number contents primitive_ok
value_passes (boolean v) r = boolean_passes v
value_passes (integer v) r = integer_passes v
value_passes (enumerated v) r = integer_passes v
value_passes (bit_string v) r = bits_passes v
value_passes null r = refl
value_passes (identifier v) r = oid_passes v r
value_passes (other n v) r = unruled_test n v r.0.0 ∙ ap not r.0.1

-- a number of a type, by cases
data Kind (n : ℕ) : Type 0 where
  is_boolean : n ≡ 1 → Kind n
  is_integer : n ≡ 2 → Kind n
  is_bits : n ≡ 3 → Kind n
  is_null_lem : n ≡ 5 → Kind n
  is_identifier : n ≡ 6 → Kind n
  is_enumerated : n ≡ 10 → Kind n
  is_other_lem : ruled n ≡ false → Kind n

kind : (n : ℕ) → Kind n
kind n = go (eqb n 1) refl (eqb n 2) refl (eqb n 3) refl (eqb n 5) refl (eqb n 6) refl (eqb n 10) refl
  where
    go : (a : Bool) → eqb n 1 ≡ a → (b : Bool) → eqb n 2 ≡ b → (c : Bool) → eqb n 3 ≡ c → (d : Bool) → eqb n 5 ≡ d
        → (e : Bool) → eqb n 6 ≡ e → (f : Bool) → eqb n 10 ≡ f → Kind n
    go true p b q c r d s e t f u = is_boolean (eqb-true n 1 p)
    go false p true q c r d s e t f u = is_integer (eqb-true n 2 q)
    go false p false q true r d s e t f u = is_bits (eqb-true n 3 r)
    go false p false q false r true s e t f u = is_null_lem (eqb-true n 5 s)
    go false p false q false r false s true t f u = is_identifier (eqb-true n 6 t)
    go false p false q false r false s false t true u = is_enumerated (eqb-true n 10 u)
    go false p false q false r false s false t false u = is_other_lem (rw (p, q, r, s, t, u))

module _ (n : ℕ) (c : List ℕ) (o : Octets c) (e : primitive_ok n c ≡ true) where
  test_as : (m : ℕ) → n ≡ m → primitive_ok m c ≡ true
  test_as m p = sym (ap (λ (k : ℕ). primitive_ok k c) p) ∙ e

  says : Kind n → Says n c
  unfolding Right type_number contents primitive_ok
  says (is_boolean p) = (boolean (boolean_of c), tt, sym p, boolean_written c (test_as 1 p))
  says (is_integer p) = (integer (integer_of c), tt, sym p, integer_written c o (test_as 2 p))
  says (is_bits p) = (bit_string (bits_of c), tt, sym p, bits_written c o (test_as 3 p))
  says (is_null_lem p) = (null, tt, sym p, null_written c (test_as 5 p))
  says (is_identifier p) = let w = oid_written c o (test_as 6 p) in (identifier (arcs_of c), w.0, sym p, w.1)
  says (is_enumerated p) = (enumerated (integer_of c), tt, sym p, integer_written c o (test_as 10 p))
  says (is_other_lem f) = (other n c, ((f, not-true (holds_elements n) (sym (unruled_test n c f) ∙ e)), o), refl, refl)

pub test_says : (n : ℕ) (c : List ℕ) → Octets c → primitive_ok n c ≡ true → Says n c
test_says n c o e = says n c o e (kind n)

pub says_test : (n : ℕ) (c : List ℕ) → Says n c → primitive_ok n c ≡ true
says_test n c p = (λ i. primitive_ok (sym p.2 i) (sym p.3 i)) ∙ value_passes p.0 p.1

pub says_exactly : (n : ℕ) (c : List ℕ) → Octets c → (primitive_ok n c ≡ true) ↔ Says n c
says_exactly n c o = (test_says n c o, says_test n c)

-- ---- octets

pub value_octets : (v : Value) → Right v → Octets (contents v)
unfolding Right contents
value_octets (boolean true) r = octets_put 0xFF [] (omega arith) (λ i. omega arith)
value_octets (boolean false) r = octets_put 0 [] (omega arith) (λ i. omega arith)
value_octets (integer v) r = integer_octets_lem v
value_octets (enumerated v) r = integer_octets_lem v
value_octets (bit_string v) r = bits_octets v
value_octets null r = λ i. omega arith
value_octets (identifier v) r = oid_octets v
value_octets (other n v) r = r.1

-- ---- one to one

abbrev value_of : ℕ → List ℕ → Value
value_of n c =
    cond (eqb n 1) (boolean (boolean_of c))
    (cond (eqb n 2) (integer (integer_of c))
    (cond (eqb n 3) (bit_string (bits_of c))
    (cond (eqb n 5) null
    (cond (eqb n 6) (identifier (arcs_of c))
    (cond (eqb n 10) (enumerated (integer_of c)) (other n c))))))

value_reads : (v : Value) → Right v → value_of (type_number v) (contents v) ≡ v
unfolding Right type_number contents boolean_of
value_reads (boolean true) r = refl
value_reads (boolean false) r = refl
value_reads (integer v) r = ap integer (integer_reads v)
value_reads (enumerated v) r = ap enumerated (integer_reads v)
value_reads (bit_string v) r = ap bit_string (bits_reads v)
value_reads null r = refl
value_reads (identifier v) r = ap identifier (oid_reads v r)
value_reads (other n v) r = let u = unruled n r.0.0 in rw (u.one, u.two, u.three, u.five, u.six, u.ten)

pub value_one : (v w : Value) → Right v → Right w → type_number v ≡ type_number w → contents v ≡ contents w → v ≡ w
value_one v w p q e f = sym (value_reads v p) ∙ ((λ i. value_of (e i) (f i)) ∙ value_reads w q)

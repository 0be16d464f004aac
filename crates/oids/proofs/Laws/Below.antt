-- "Below" on octets and on arcs.
--     below_arcs      an identifier's contents are below another's exactly if its arcs are, and at least one arc more
--     arc_below_lem       the one octet behind another's contents is exactly the one arc behind its arcs
-- Assumes nothing.
use mathlib.Core.Path.{◌≡◌, refl, sym, ap, ◌∙◌}
use mathlib.Core.Logic.{◌↔◌}
use mathlib.Core.List.{List, [], ◌∷◌, ◌++◌, append-nil}
use mathlib.Core.Bool.{Bool, true, false, cond}
use Prim.Native.Nat.{ℕ, suc, ◌+◌, ◌*◌, ◌≤◌, ◌<◌}
use native.Mathlib.Omega.{arith}
use lib.ListN.{length}
use lib.Dec.{ltb, eqb}
use borrow.Author.Tests.{eq-eqb, eqb-true, ltb-true}
use Rattle.oids.specs.Statement.{Below}
use Rattle.octets.proofs.Laws.Tests.{and_l, and_r}
use Rattle.octets.proofs.Laws.Parts.{head_same, tail_same}
use Rattle.der.specs.Arcs.{arc_below}
use Rattle.der.specs.Oids.{subidentifier, subidentifiers, oid}
use Rattle.trees.specs.Values.{Arcs}
use Rattle.trees.proofs.Laws.Arcs.{arcs_from, arc_short, arcs_before, arcs_read, arcs_join, apart_one}
use Rattle.policies.specs.Policies.{is_below}

-- ---- octets

below_more : (a c : List ℕ) → is_below a c ≡ true → (z : ℕ) × (zs : List ℕ) × (c ≡ a ++ z ∷ zs)
unfolding is_below
below_more [] [] e = absurd (let k : ◌≡◌ {A = ℕ} 0 1 = cc in omega arith)
below_more [] (c ∷ cs) e = (c, cs, refl)
below_more (a ∷ bs) [] e = absurd (let k : ◌≡◌ {A = ℕ} 0 1 = cc in omega arith)
below_more (a ∷ bs) (c ∷ cs) e =
    let p = eqb-true c a (and_l (eqb c a) (is_below bs cs) e) in
    let r = below_more bs cs (and_r (eqb c a) (is_below bs cs) e) in
    (r.0, r.1, λ i. p i ∷ r.2 i)

more_below : (a : List ℕ) (z : ℕ) (zs : List ℕ) → is_below a (a ++ z ∷ zs) ≡ true
unfolding is_below
more_below [] z zs = refl
more_below (a ∷ bs) z zs = rw (eq-eqb a a refl) (more_below bs z zs)

octet_more : (a c : List ℕ) (n : ℕ) → 1 ≤ n → arc_below a c ≡ n → c ≡ a ++ n ∷ []
unfolding arc_below
octet_more [] [] n h e = absurd (omega arith)
octet_more [] (c ∷ []) n h e = ap (λ (m : ℕ). m ∷ []) e
octet_more [] (c ∷ d ∷ cs) n h e = absurd (omega arith)
octet_more (a ∷ bs) [] n h e = absurd (omega arith)
octet_more (a ∷ bs) (c ∷ cs) n h e = go (eqb c a) refl e (octet_more bs cs n h)
  where
    go : (t : Bool) → eqb c a ≡ t → cond t (arc_below bs cs) 0 ≡ n → (arc_below bs cs ≡ n → cs ≡ bs ++ n ∷ []) → c ∷ cs ≡ a ∷ bs ++ n ∷ []
    go true f e more = λ i. eqb-true c a f i ∷ more e i
    go false f e more = absurd (omega arith)

more_octet : (a : List ℕ) (n : ℕ) → arc_below a (a ++ n ∷ []) ≡ n
unfolding arc_below
more_octet [] n = refl
more_octet (a ∷ bs) n = rw (eq-eqb a a refl) (more_octet bs n)

longer : (a : List ℕ) (z : ℕ) (zs : List ℕ) → a ≡ a ++ z ∷ zs → ⊥
longer [] z zs e = let n : 0 ≡ suc (length zs) = ap length e in omega arith
longer (a ∷ bs) z zs e = longer bs z zs (tail_same _ _ _ _ e)

behind_same : (a x y : List ℕ) → a ++ x ≡ a ++ y → x ≡ y
behind_same [] x y e = e
behind_same (a ∷ bs) x y e = behind_same bs x y (tail_same _ _ _ _ e)

-- ---- arcs

-- more arcs, more octets
oid_more : (a ns : List ℕ) → Arcs a → oid (a ++ ns) ≡ oid a ++ subidentifiers ns
unfolding oid Arcs
oid_more [] ns p = absurd p
oid_more (x ∷ []) ns p = absurd p
oid_more (x ∷ y ∷ ms) ns p = arcs_join ((40 * x + y) ∷ ms) ns

module _ (x y : ℕ) (ns : List ℕ) where
  down : (u v : ℕ) (ms : List ℕ) → Arcs (x ∷ y ∷ ns) → Arcs (u ∷ v ∷ ms) → is_below (oid (x ∷ y ∷ ns)) (oid (u ∷ v ∷ ms)) ≡ true
      → Below (x ∷ y ∷ ns) (u ∷ v ∷ ms)
  unfolding oid Arcs
  down u v ms p q e =
      let r = below_more (subidentifiers ((40 * x + y) ∷ ns)) (subidentifiers ((40 * u + v) ∷ ms)) e in
      let f : (40 * u + v) ∷ ms ≡ (40 * x + y) ∷ ns ++ arcs_from 0 (r.0 ∷ r.1) =
      sym (arcs_read ((40 * u + v) ∷ ms)) ∙ (ap (arcs_from 0) r.2 ∙ arcs_before ((40 * x + y) ∷ ns) (r.0 ∷ r.1)) in
      let g = apart_one u v x y q.0 q.1 p.0 p.1 (head_same _ _ _ _ f) in
      go (arcs_from 0 (r.0 ∷ r.1)) g (tail_same _ _ _ _ f) r.0 r.1 r.2
    where
      go : (t : List ℕ) → (u ≡ x) × (v ≡ y) → ms ≡ ns ++ t → (z : ℕ) (zs : List ℕ)
          → subidentifiers ((40 * u + v) ∷ ms) ≡ subidentifiers ((40 * x + y) ∷ ns) ++ z ∷ zs → Below (x ∷ y ∷ ns) (u ∷ v ∷ ms)
      go [] g f z zs h =
          let k : subidentifiers ((40 * u + v) ∷ ms) ≡ subidentifiers ((40 * x + y) ∷ ns) =
          (λ i. subidentifiers ((40 * g.0 i + g.1 i) ∷ (f ∙ append-nil ns) i)) in
          absurd (longer (subidentifiers ((40 * x + y) ∷ ns)) z zs (sym k ∙ h))
      go (m ∷ more) g f z zs h = (m, more, λ i. g.0 i ∷ g.1 i ∷ f i)

some_octets : (m : ℕ) (more c : List ℕ) → subidentifiers (m ∷ more) ≡ c → (z : ℕ) × (zs : List ℕ) × (c ≡ z ∷ zs)
unfolding arcs_from
some_octets m more [] e = absurd (let f : suc (length more) ≡ 0 = ap length (sym (arcs_read (m ∷ more)) ∙ ap (arcs_from 0) e) in omega arith)
some_octets m more (z ∷ zs) e = (z, zs, refl)

up : (a b : List ℕ) → Arcs a → Below a b → is_below (oid a) (oid b) ≡ true
up a b p q =
    let s = some_octets q.0 q.1 (subidentifiers (q.0 ∷ q.1)) refl in
    let e : oid b ≡ oid a ++ s.0 ∷ s.1 =
    ap oid q.2 ∙ (oid_more a (q.0 ∷ q.1) p ∙ ap (λ (l : List ℕ). oid a ++ l) s.2) in
    ap (is_below (oid a)) e ∙ more_below (oid a) s.0 s.1

pub below_arcs : (a b : List ℕ) → Arcs a → Arcs b → (is_below (oid a) (oid b) ≡ true) ↔ Below a b
unfolding Arcs
below_arcs a b p q = (go a b p q, up a b p)
  where
    go : (a b : List ℕ) → Arcs a → Arcs b → is_below (oid a) (oid b) ≡ true → Below a b
    go [] b p q = absurd p
    go (x ∷ []) b p q = absurd p
    go (x ∷ y ∷ ns) [] p q = absurd q
    go (x ∷ y ∷ ns) (u ∷ []) p q = absurd q
    go (x ∷ y ∷ ns) (u ∷ v ∷ ms) p q = down x y ns u v ms p q

-- ---- one arc

-- what one octet says
sole : (m n : ℕ) (more : List ℕ) → subidentifiers (m ∷ more) ≡ n ∷ [] → (n < 128) × (m ∷ more ≡ n ∷ [])
unfolding arcs_from
sole m n more e = go (ltb n 128) refl (sym (arcs_read (m ∷ more)) ∙ ap (arcs_from 0) e)
  where
    go : (t : Bool) → ltb n 128 ≡ t → m ∷ more ≡ cond t ((128 * 0 + n) ∷ []) [] → (n < 128) × (m ∷ more ≡ n ∷ [])
    go true f g = let k : 128 * 0 + n ≡ n = omega arith in (ltb-true n 128 f, g ∙ ap (λ (l : ℕ). l ∷ []) k)
    go false f g = absurd (let k : suc (length more) ≡ 0 = ap length g in omega arith)

-- an arc below 128 is one octet
pub arc_octet : (a : List ℕ) (n : ℕ) → Arcs a → n < 128 → oid (a ++ n ∷ []) ≡ oid a ++ n ∷ []
unfolding subidentifiers
arc_octet a n p h = oid_more a (n ∷ []) p ∙ ap (λ (l : List ℕ). oid a ++ l) (append-nil (subidentifier n) ∙ arc_short n h)

pub arc_below_lem : (a b : List ℕ) (n : ℕ) → Arcs a → Arcs b → 1 ≤ n → (arc_below (oid a) (oid b) ≡ n) ↔ ((n < 128) × (b ≡ a ++ n ∷ []))
arc_below_lem a b n p q h = (there, back)
  where
    there : arc_below (oid a) (oid b) ≡ n → (n < 128) × (b ≡ a ++ n ∷ [])
    there e =
        let c = octet_more (oid a) (oid b) n h e in
        let r = (below_arcs a b p q).0 (ap (is_below (oid a)) c ∙ more_below (oid a) n []) in
        let s = sole r.0 n r.1 (behind_same (oid a) _ _ (sym (oid_more a (r.0 ∷ r.1) p) ∙ (sym (ap oid r.2) ∙ c))) in
        (s.0, r.2 ∙ ap (λ (l : List ℕ). a ++ l) s.1)

    back : (n < 128) × (b ≡ a ++ n ∷ []) → arc_below (oid a) (oid b) ≡ n
    back k = ap (arc_below (oid a)) (ap oid k.1 ∙ arc_octet a n p k.0) ∙ more_octet (oid a) n

-- What breaks a rule, by its form.
--     only_in                in the list of a rule that is judged under a condition
--     at_in                  a rule on one element is broken at it, or not at all
--     filter_in              "each" is broken exactly at the items that the test picks
--     ones_in                "one X": at the name if there is no X, and at each X behind another
--     map_in, from_map       entries at items
-- Assumes nothing.
use mathlib.Core.Path.{◌≡◌, refl, sym, ap, ◌∙◌}
use mathlib.Core.List.Memᴰ
use mathlib.Core.List.{List, [], ◌∷◌, map}
use mathlib.Core.Logic.{◌↔◌, ◌⊎◌, inl, inr, ⊎_elim}
use mathlib.Core.Bool.{Bool, true, false, cond, false≢true}
use Prim.Native.Nat.{ℕ}
use Rattle.report.specs.declared.sink.Entry.{Entry}
use Rattle.report.specs.Entries.{entry_at}
use Rattle.report.specs.Forms.{filter, ones_of}
use Rattle.report.specs.Rows.{only_if, broken_at}
use Rattle.report.specs.Order.{In}
use Rattle.report.specs.Members.{Further, Lacking}
use Rattle.report.specs.Members.Further.{first, later}
use Rattle.der.specs.declared.header.Head.{Head}

pub only_in : (judged : Bool) (es : List Entry) (e : Entry) → In e (only_if judged es) ↔ ((judged ≡ true) × In e es)
only_in true es e = (λ m. (refl, m), λ p. p.1)
only_in false es e = (λ m. absurd (Memᴰ.not-nil m), λ p. absurd (false≢true p.0))

pub at_in : (bad : Bool) (h g : Head) → In g (broken_at bad h) ↔ ((bad ≡ true) × (g ≡ h))
unfolding broken_at
at_in true h g = (λ m. (refl, Memᴰ.eq_of_singleton m), λ p. Memᴰ.head p.1)
at_in false h g = (λ m. absurd (Memᴰ.not-nil m), λ p. absurd (false≢true p.0))

-- the items that a test picks
module _ (test : Head → Bool) where
  picked : {g : Head} (hs : List Head) → In g (filter test hs) → In g hs × (test g ≡ true)
  unfolding filter
  picked [] m = absurd (Memᴰ.not-nil m)
  picked {g} (h ∷ hs) m = go (picked hs) (test h) refl m
    where
      go : (In g (filter test hs) → In g hs × (test g ≡ true)) → (b : Bool) → test h ≡ b
          → In g (cond b (h ∷ filter test hs) (filter test hs)) → In g (h ∷ hs) × (test g ≡ true)
      go ih true t k =
          ⊎_elim (λ (e : g ≡ h). (Memᴰ.head e, ap test e ∙ t))
          (λ (r : In g (filter test hs)). (Memᴰ.tail (ih r).0, (ih r).1))
          (Memᴰ.cases_cons k)
      go ih false t k = (Memᴰ.tail (ih k).0, (ih k).1)

  pick : {g : Head} {hs : List Head} → In g hs → test g ≡ true → In g (filter test hs)
  unfolding filter
  pick {g} (Memᴰ.head {xs = xs} e) t = rw (sym (ap test e) ∙ t) (Memᴰ.head e)
  pick {g} (Memᴰ.tail {x = x} {xs = xs} m) t = go (test x) (pick m t)
    where
      go : (b : Bool) → In g (filter test xs) → In g (cond b (x ∷ filter test xs) (filter test xs))
      go true r = Memᴰ.tail r
      go false r = r

  pub filter_in : (hs : List Head) (g : Head) → In g (filter test hs) ↔ (In g hs × (test g ≡ true))
  filter_in hs g = (picked hs, λ p. pick p.0 p.1)

  pub filter_none : (hs : List Head) → ((h : Head) → In h hs → test h ≡ false) → filter test hs ≡ []
  unfolding filter
  filter_none [] f = refl
  filter_none (h ∷ hs) f = rw (f h (Memᴰ.head refl)) (filter_none hs (λ g m. f g (Memᴰ.tail m)))

-- the entries at items
module _ (rule : ℕ) where
  pub map_in : {h : Head} {hs : List Head} {e : Entry} → In h hs → e ≡ entry_at rule h → In e (map (entry_at rule) hs)
  map_in (Memᴰ.head k) q = Memᴰ.head (q ∙ ap (entry_at rule) k)
  map_in (Memᴰ.tail m) q = Memᴰ.tail (map_in m q)

  pub from_map : {e : Entry} (hs : List Head) → In e (map (entry_at rule) hs) → (h : Head) × In h hs × (e ≡ entry_at rule h)
  from_map [] m = absurd (Memᴰ.not-nil m)
  from_map {e} (h ∷ hs) m = go (from_map hs) (Memᴰ.cases_cons m)
    where
      go : (In e (map (entry_at rule) hs) → (g : Head) × In g hs × (e ≡ entry_at rule g))
          → (e ≡ entry_at rule h) ⊎ In e (map (entry_at rule) hs) → (g : Head) × In g (h ∷ hs) × (e ≡ entry_at rule g)
      go ih (inl q) = (h, Memᴰ.head refl, q)
      go ih (inr r) = let p = ih r in (p.0, Memᴰ.tail p.1, p.2)

-- ---- "one X"

module _ (is_x : Head → Bool) where
  further_in : {h : Head} {hs : List Head} → Further is_x h hs → In h hs × (is_x h ≡ true)
  further_in (first t m u) = (Memᴰ.tail m, u)
  further_in (later f) = (Memᴰ.tail (further_in f).0, (further_in f).1)

  module _ (name : Head) where
    reported : {h : Head} (hs : List Head) → In h (ones_of name (filter is_x hs)) → Lacking is_x name hs h ⊎ Further is_x h hs
    unfolding filter ones_of
    reported [] m = inl (record { none = λ x k. absurd (Memᴰ.not-nil k); is = Memᴰ.eq_of_singleton m })
    reported {h} (x ∷ xs) m = go (reported xs) (is_x x) refl m
      where
        behind : {g : Head} → is_x x ≡ false → ((g : Head) → In g xs → is_x g ≡ false) → In g (x ∷ xs) → is_x g ≡ false
        behind {g} t f m = ⊎_elim (λ (q : g ≡ x). ap is_x q ∙ t) (f g) (Memᴰ.cases_cons m)

        go : (In h (ones_of name (filter is_x xs)) → Lacking is_x name xs h ⊎ Further is_x h xs) → (b : Bool) → is_x x ≡ b
            → In h (ones_of name (cond b (x ∷ filter is_x xs) (filter is_x xs))) → Lacking is_x name (x ∷ xs) h ⊎ Further is_x h (x ∷ xs)
        go ih true t k = let q = picked is_x xs k in inr (first t q.0 q.1)
        go ih false t k =
            ⊎_elim (λ (p : Lacking is_x name xs h). inl (record { none = λ g. behind t p.none; is = p.is }))
            (λ (p : Further is_x h xs). inr (later p))
            (ih k)

    lacking : {h : Head} (hs : List Head) → Lacking is_x name hs h → In h (ones_of name (filter is_x hs))
    unfolding ones_of
    lacking hs p = rw (filter_none is_x hs p.none) (Memᴰ.head p.is)

    repeated : {h : Head} {hs : List Head} → Further is_x h hs → In h (ones_of name (filter is_x hs))
    unfolding filter ones_of
    repeated (first t m u) = rw t (pick is_x m u)
    repeated {h} (later {x = x} {hs = xs} f) = go (is_x x) (repeated f)
      where
        go : (b : Bool) → In h (ones_of name (filter is_x xs)) → In h (ones_of name (cond b (x ∷ filter is_x xs) (filter is_x xs)))
        go true r = let p = further_in f in pick is_x p.0 p.1
        go false r = r

    pub ones_in : (hs : List Head) (h : Head) → In h (ones_of name (filter is_x hs)) ↔ (Lacking is_x name hs h ⊎ Further is_x h hs)
    ones_in hs h = (reported hs, ⊎_elim (lacking hs) repeated)

-- The names of points' full names.
--     full_names_of        they are elements, if the point's members are
--     full_names_apart     their starts rise
-- Assumes nothing.
use mathlib.Core.Path.{◌≡◌, refl, sym, ap}
use mathlib.Core.List.Memᴰ
use mathlib.Core.List.{List}
use mathlib.Core.Bool.{Bool, true, false, cond}
use Prim.Native.Nat.{ℕ, ◌≤◌, ◌<◌}
use native.Mathlib.Nat.{le_refl}
use native.Mathlib.Omega.{arith}
use lib.Dec.{ltb, eqb}
use borrow.Author.Tests.{ltb-true, ltb-false, eqb-true}
use Rattle.octets.proofs.Laws.Tests.{and_l, and_r}
use Rattle.der.specs.Contents.{constructed}
use Rattle.der.specs.Header.{head_of}
use Rattle.der.specs.Members.{missing, members_in, first_in}
use Rattle.der.specs.declared.header.Head.{Head}
use Rattle.der.proofs.Laws.Header.{head_body, head_narrow}
use Rattle.der.proofs.Laws.Children.{children_done, children_next}
use Rattle.locations.specs.Points.{has_full_name, full_name_of}
use Rattle.certificate.proofs.Laws.Inside.{between_head, between_first}
use Rattle.facts.proofs.Laws.Members.{AllMembers, here, among, members_by}
use Rattle.forms.specs.Lists.{holder_in, items_within}
use Rattle.forms.specs.declared.nests.Nest.TheVariants.{Point}
use Rattle.forms.proofs.Laws.Lists.{parts_apart}
use Rattle.report.specs.Order.{In}
use Rattle.report.proofs.Terms.Items.{Apart}

-- ---- in a point

-- where there is a [0] at the front of an element, it is its first member
first_member : (s : List ℕ) (h : Head) → (first_in s h).tag ≡ 160 → In (first_in s h) (members_in s h)
first_member s h t = go (ltb h.body h.end) refl
  where
    go : (b : Bool) → ltb h.body h.end ≡ b → In (first_in s h) (members_in s h)
    go true e = among (children_next s h.body h.end (ltb-true h.body h.end e)) here
    go false e =
        let l = ltb-false h.body h.end e in
        let z : (first_in s h).tag ≡ 0 = ap (λ (x : Head). x.tag) (head_narrow s h.body h.end (omega (arith, l))) in
        absurd (omega (arith, z, t))

pub full_names_of : (s : List ℕ) (point : Head) → AllMembers s point → AllMembers s (full_name_of s point)
unfolding full_name_of
full_names_of s point k = go (has_full_name s point) refl
  where
    go : (b : Bool) → has_full_name s point ≡ b → AllMembers s (cond b (first_in s (first_in s point)) (missing point.end))
    go true t =
        let name = first_in s point in
        let outer = eqb-true name.tag 160 (and_l (eqb name.tag 160) (eqb (first_in s name).tag 160) t) in
        let inner = eqb-true (first_in s name).tag 160 (and_r (eqb name.tag 160) (eqb (first_in s name).tag 160) t) in
        let names = members_by s name (ap constructed outer) (k name (first_member s point outer)) in
        members_by s (first_in s name) (ap constructed inner) (names (first_in s name) (first_member s name inner))
    go false t = λ h i. absurd (Memᴰ.not-nil (among (sym (children_done s point.end point.end (le_refl point.end))) i))

-- ---- where they lie

module _ (s : List ℕ) (end : ℕ) where
  names_lie : (at : ℕ) → at < end → (at ≤ (full_name_of s (head_of s at end)).body) × ((full_name_of s (head_of s at end)).end ≤ (head_of s at end).end)
  unfolding full_name_of
  names_lie at l = go (head_of s at end) (head_body s at end l) (has_full_name s (head_of s at end))
    where
      go : (h : Head) → (at < h.body) × (h.body ≤ h.end) → (t : Bool)
          → (at ≤ (cond t (first_in s (first_in s h)) (missing h.end)).body) × ((cond t (first_in s (first_in s h)) (missing h.end)).end ≤ h.end)
      go h b true =
          let q = between_first s h.body h.end (first_in s h) (between_head s h.body h.end b.1) in
          let i = q.starts in
          let j = q.holds in
          (omega (arith, b.0, i, j), q.ends)
      go h b false = (omega (arith, b.0, b.1), le_refl h.end)

  pub full_names_apart : (at : ℕ) → Apart (items_within Point s at end)
  unfolding items_within
  full_names_apart = parts_apart s end (holder_in Point s) names_lie

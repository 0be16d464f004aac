-- Elements lie in the certificate, whatever its octets are.
--     element_inside
-- Assumes nothing.
use mathlib.Core.Path.{◌≡◌, refl, sym, ap, subst}
use mathlib.Core.List.Memᴰ
use mathlib.Core.List.{List, []}
use mathlib.Core.Logic.{⊎_elim}
use mathlib.Core.Bool.{Bool, true, false, cond}
use Prim.Native.Nat.{ℕ, ◌≤◌}
use native.Mathlib.Omega.{arith}
use lib.Dec.{leb}
use lib.ListN.{length}
use borrow.Author.Tests.{leb-true, leb-false}
use Rattle.facts.specs.Elements.{Element, bits_start}
use Rattle.facts.specs.Elements.Topmost.{outermost, in_value, in_bits}
use Rattle.der.specs.Header.{head_of, children_of}
use Rattle.der.specs.Contents.{constructed}
use Rattle.der.specs.Elements.{held_by}
use Rattle.der.specs.Elements.HeldFrom.{outer, held}
use Rattle.der.proofs.Laws.Header.{head_narrow}
use Rattle.der.specs.declared.header.Head.{Head}
use Rattle.certificate.specs.Fields.{certificate_of}
use Rattle.certificate.proofs.Terms.Inside.{Between, LiesIn, AllBetween}
use Rattle.certificate.proofs.Terms.Inside.AllBetween.{none, more}
use Rattle.certificate.proofs.Laws.Inside.{between_head, between_wider, certificate_inside, members_inside, value_part_inside, key_inside}
use Rattle.report.specs.Order.{In}

all_in : {from to : ℕ} {hs : List Head} {h : Head} → AllBetween from to hs → In h hs → Between from to h
all_in none m = absurd (Memᴰ.not-nil m)
all_in {from} {to} {h = h} (more {h = g} b bs) m = ⊎_elim (λ (e : h ≡ g). subst (Between from to) (sym e) b) (all_in bs) (Memᴰ.cases_cons m)

module _ (s : List ℕ) where
  -- an element that another's contents start with
  at_start : (at : ℕ) (h : Head) → LiesIn s h → at ≤ h.end → LiesIn s (head_of s at h.end)
  at_start at h k l = between_wider 0 at h.end (length s) _ (omega arith) k.ends (between_head s at h.end l)

  -- the octet that counts unused bits is there, where an element is found behind it
  bits_start_lem : (b : Head) → (head_of s (bits_start b) b.end).tag ≡ 0x30 → bits_start b ≤ b.end
  bits_start_lem b t = go (leb (bits_start b) b.end) refl
    where
      go : (x : Bool) → leb (bits_start b) b.end ≡ x → bits_start b ≤ b.end
      go true e = leb-true (bits_start b) b.end e
      go false e =
          let l = leb-false (bits_start b) b.end e in
          let z : (head_of s (bits_start b) b.end).tag ≡ 0 = ap (λ (x : Head). x.tag) (head_narrow s (bits_start b) b.end (omega arith)) in
          absurd (omega (arith, z, t))

  held_inside : (holder h : Head) → LiesIn s holder → In h (held_by s holder) → LiesIn s h
  held_inside holder h k m = go (constructed holder.tag) m
    where
      go : (b : Bool) → In h (cond b (children_of s holder.body holder.end) []) → LiesIn s h
      go true m = all_in (members_inside s holder k) m
      go false m = absurd (Memᴰ.not-nil m)

  pub element_inside : {h : Head} → Element s h → LiesIn s h
  element_inside (outer outermost) = between_head s 0 (length s) (omega arith)
  element_inside (held {holder = holder} {h = h} k m) = held_inside holder h (element_inside k) m
  element_inside (outer (in_value {x = x} {v = v} m e f)) =
      let i = value_part_inside s x (all_in (members_inside s (certificate_of s).extensions (certificate_inside s).extensions) m) in
      let j : LiesIn s v = subst (LiesIn s) (sym e) i in
      at_start v.body v j j.forward
  element_inside (outer (in_bits {b = b} r f t)) =
      let j : LiesIn s b = subst (LiesIn s) (sym r.is) (key_inside s (certificate_of s).key (certificate_inside s).key).bits in
      at_start (bits_start b) b j (bits_start_lem b t)

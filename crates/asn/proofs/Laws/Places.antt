-- Where an element departs from a type.
--     departure_start      the place of refusal 6 is the start of an element of its side
-- Assumes nothing.
use mathlib.Core.Path.{◌≡◌, refl, ap, ◌∙◌}
use mathlib.Core.List.Memᴰ
use mathlib.Core.List.{List, [], ◌∷◌, Memᴰ}
use mathlib.Core.Bool.{Bool, true, false, cond, not, ◌&&◌}
use Prim.Native.Nat.{ℕ, ◌<◌}
use native.Mathlib.Nat.{le_refl}
use lib.Dec.{eqb}
use lib.ListN.{length}
use borrow.Author.Tests.{not-true}
use Rattle.asn.specs.Grammar.{Form, Inside, Slots, set_in_order, takes, passes, unless_wrong, required, optional, repeated, ended, fits, holds, follows, Verdict}
use Rattle.asn.specs.Grammar.Form.{none, alt}
use Rattle.asn.specs.Grammar.Inside.{leaf, parts, set}
use Rattle.asn.specs.Grammar.Slots.{done, one, opt, many}
use Rattle.asn.specs.Module.{algorithm_identifier, attribute_type_and_value, relative_distinguished_name, name, time, validity, subject_public_key_info}
use Rattle.asn.specs.Module.{extension, extensions, version, tbs_certificate, certificate}
use Rattle.asn.specs.Answers.{certificate_verdict, verdict_place}
use Rattle.octets.proofs.Laws.Tests.{and_l, and_r}
use Rattle.der.specs.Contents.{constructed, contents_of}
use Rattle.der.specs.Header.{head_of, children_of}
use Rattle.der.specs.Members.{members_in}
use Rattle.der.specs.Elements.{SideElement, ElementStart}
use Rattle.der.specs.Elements.HeldFrom.{outer}
use Rattle.der.specs.declared.header.Head.{Head}
use Rattle.der.proofs.Laws.Children.{children_done, children_next}
use Rattle.der.proofs.Laws.Places.{held_members, outermost_start}
use Rattle.asn.proofs.Laws.Fields.{takes_tag}
use Rattle.asn.specs.declared.fitting.Misfit.TheVariants.{Stranger, Wrong}
use Rattle.std.specs.Prelude.{Ok, Err}

-- ---- a type gives a list to a constructed identifier alone, so what it asks of the list it asks of elements that are held

abbrev of_list : ℕ → Bool
of_list i = not (eqb i 0) && constructed i

unfoldable mutual
  lists_held : Form → Bool
  lists_held none = true
  lists_held (alt i x f) = inside_held i x && lists_held f

  inside_held : ℕ → Inside → Bool
  inside_held i (leaf t) = true
  inside_held i (parts p) = of_list i && fields_held p
  inside_held i (set p) = of_list i && fields_held p

  fields_held : Slots → Bool
  fields_held done = true
  fields_held (one f p) = lists_held f && fields_held p
  fields_held (opt f p) = lists_held f && fields_held p
  fields_held (many f p) = lists_held f && fields_held p

certificate_held : fields_held (one certificate done) ≡ true
unfolding lists_held inside_held fields_held certificate tbs_certificate algorithm_identifier attribute_type_and_value relative_distinguished_name name time
    validity subject_public_key_info extension extensions version
certificate_held = refl

module _ (s : List ℕ) where
  abbrev SideElements : List Head → Type 0
  SideElements hs = (h : Head) → Memᴰ h hs → SideElement s h

  first_of : {h : Head} {hs : List Head} → SideElements (h ∷ hs) → SideElement s h
  first_of {h} k = k h (Memᴰ.head refl)

  rest_of : {h : Head} {hs : List Head} → SideElements (h ∷ hs) → SideElements hs
  rest_of k x i = k x (Memᴰ.tail i)

  members_held : (i : ℕ) (h : Head) → of_list i ≡ true → takes i h.tag ≡ true → SideElement s h → SideElements (members_in s h)
  members_held i h c t k =
      let tag = takes_tag i h.tag (not-true (eqb i 0) (and_l (not (eqb i 0)) (constructed i) c)) t in
      held_members h (ap constructed tag ∙ and_r (not (eqb i 0)) (constructed i) c) k

  -- ---- verdicts at the start of an element

  record StartVerdict (v : Verdict) : Type 0 where
    start : ElementStart s (verdict_place v)

  wrong_at : {h : Head} → SideElement s h → StartVerdict (Err (Wrong h.at))
  wrong_at {h} k = record { start = record { element = h; is = k; start = refl } }

  by_test : (b : Bool) {v w : Verdict} → (b ≡ true → StartVerdict v) → StartVerdict w → StartVerdict (cond b v w)
  by_test true k l = k refl
  by_test false k l = l

  after_start : (v : Verdict) {a b : Verdict} → StartVerdict v → StartVerdict a → StartVerdict b → StartVerdict (unless_wrong v a b)
  after_start (Err Stranger) v a b = a
  after_start (Ok _) v a b = b
  after_start (Err (Wrong p)) v a b = v

  module _ (fit : Head → Verdict) (rest : List Head → Verdict) (fit_start : (h : Head) → SideElement s h → StartVerdict (fit h))
      (rest_start : (hs : List Head) → SideElements hs → StartVerdict (rest hs)) where
    required_start : (place : ℕ) → ElementStart s place → (hs : List Head) → SideElements hs → StartVerdict (required fit rest place hs)
    required_start place o [] k = record { start = o }
    required_start place o (h ∷ hs) k = after_start (fit h) (fit_start h (first_of k)) (wrong_at (first_of k)) (rest_start hs (rest_of k))

    optional_start : (hs : List Head) → SideElements hs → StartVerdict (optional fit rest hs)
    optional_start [] k = rest_start [] k
    optional_start (h ∷ hs) k = after_start (fit h) (fit_start h (first_of k)) (rest_start (h ∷ hs) k) (rest_start hs (rest_of k))

    repeated_start : (hs : List Head) → SideElements hs → StartVerdict (repeated fit rest hs)
    repeated_start [] k = rest_start [] k
    repeated_start (h ∷ hs) k = after_start (fit h) (fit_start h (first_of k)) (rest_start (h ∷ hs) k) (repeated_start hs (rest_of k))

  ended_start : (hs : List Head) → SideElements hs → StartVerdict (ended hs)
  ended_start [] k = record { start = outermost_start s }
  ended_start (h ∷ hs) k = wrong_at (first_of k)

  -- ---- an element, what it holds, and a list

  abbrev ListStarts : Slots → Type 0
  ListStarts p =
      fields_held p ≡ true → (place : ℕ) → ElementStart s place → (hs : List Head) → SideElements hs → StartVerdict (follows p s place hs)

  list_start : (i : ℕ) (p : Slots) → ListStarts p → (of_list i && fields_held p) ≡ true → (h : Head) → takes i h.tag ≡ true → SideElement s h
      → StartVerdict (follows p s h.at (members_in s h))
  list_start i p starts c h t k =
      starts (and_r (of_list i) (fields_held p) c) h.at (wrong_at k).start (members_in s h) (members_held i h (and_l (of_list i) (fields_held p) c) t k)

  mutual
    unfolding fits holds follows lists_held inside_held fields_held

    fits_start : (f : Form) → lists_held f ≡ true → (h : Head) → SideElement s h → StartVerdict (fits f s h)
    fits_start none c h k = record { start = outermost_start s }
    fits_start (alt i x f) c h k =
        by_test (takes i h.tag) (λ t. holds_start i x (and_l (inside_held i x) (lists_held f) c) h t k)
        (fits_start f (and_r (inside_held i x) (lists_held f) c) h k)

    holds_start : (i : ℕ) (x : Inside) → inside_held i x ≡ true → (h : Head) → takes i h.tag ≡ true → SideElement s h → StartVerdict (holds x s h)
    holds_start i (leaf t) c h q k = by_test (passes t h.tag (contents_of s h)) (λ e. record { start = outermost_start s }) (wrong_at k)
    holds_start i (parts p) c h q k = list_start i p (λ d place o hs l. follows_start p d place o hs l) c h q k
    holds_start i (set p) c h q k =
        by_test (set_in_order s h) (λ e. list_start i p (λ d place o hs l. follows_start p d place o hs l) c h q k) (wrong_at k)

    follows_start : (p : Slots) → fields_held p ≡ true → (place : ℕ) → ElementStart s place → (hs : List Head) → SideElements hs
        → StartVerdict (follows p s place hs)
    follows_start done c place o hs k = ended_start hs k
    follows_start (one f p) c place o hs k =
        required_start (λ h. fits f s h) (λ hs. follows p s place hs) (λ h l. fits_start f (and_l (lists_held f) (fields_held p) c) h l)
        (λ hs l. follows_start p (and_r (lists_held f) (fields_held p) c) place o hs l) place o hs k
    follows_start (opt f p) c place o hs k =
        optional_start (λ h. fits f s h) (λ hs. follows p s place hs) (λ h l. fits_start f (and_l (lists_held f) (fields_held p) c) h l)
        (λ hs l. follows_start p (and_r (lists_held f) (fields_held p) c) place o hs l) hs k
    follows_start (many f p) c place o hs k =
        repeated_start (λ h. fits f s h) (λ hs. follows p s place hs) (λ h l. fits_start f (and_l (lists_held f) (fields_held p) c) h l)
        (λ hs l. follows_start p (and_r (lists_held f) (fields_held p) c) place o hs l) hs k

  -- one element that fills the octets is the only one in their list
  outermost_alone : 0 < length s → (head_of s 0 (length s)).end ≡ length s → SideElements (children_of s 0 (length s))
  outermost_alone l e h i =
      let none_left = children_done s (length s) (length s) (le_refl (length s)) in
      let one : children_of s 0 (length s) ≡ head_of s 0 (length s) ∷ [] = cc (children_next s 0 (length s) l, none_left, e) in
      outer (Memᴰ.eq_of_singleton (rw one at i))

  pub departure_start : 0 < length s → (head_of s 0 (length s)).end ≡ length s → ElementStart s (verdict_place (certificate_verdict s))
  unfolding certificate_verdict
  departure_start l e =
      (follows_start (one certificate done) certificate_held 0 (outermost_start s) (children_of s 0 (length s)) (outermost_alone l e)).start

-- Going by the field that takes an element comes to what the grammar says.
--     element_follows      a list, by the field that takes its first element
--     none_follows         a list of no elements
-- Assumes nothing.
use mathlib.Core.Path.{◌≡◌, refl, ap, ◌∙◌}
use mathlib.Core.Bool.{Bool, true, false, cond}
use mathlib.Core.List.{List, [], ◌∷◌}
use Prim.Native.Nat.{ℕ}
use Rattle.asn.specs.Grammar.{Form, Inside, Slots, passes, set_in_order, takes, unless_wrong, fits, holds, follows, Verdict}
use Rattle.asn.specs.Grammar.Form.{none, alt}
use Rattle.asn.specs.Grammar.Inside.{leaf, parts, set}
use Rattle.asn.specs.Grammar.Slots.{done, one, opt, many}
use Rattle.asn.specs.Workings.Choosing.{Alternative, Field, alternative_for, field_for, in_field, may_stand, lacking}
use Rattle.asn.specs.Workings.Choosing.Alternative.{nobody, holding}
use Rattle.asn.specs.Workings.Choosing.Field.{nowhere, here}
use Rattle.der.specs.Contents.{contents_of}
use Rattle.der.specs.Header.{children_of}
use Rattle.der.specs.declared.header.Head.{Head}
use Rattle.asn.specs.declared.fitting.Misfit.TheVariants.{Stranger, Wrong}
use Rattle.std.specs.Prelude.{Ok, Err}
use Rattle.std.specs.Result.{result_and}

-- ---- a list is never a stranger

data Settled : Verdict → Type 0 where
  well : Settled (Ok tt)
  badly : {p : ℕ} → Settled (Err (Wrong p))

after_settled : (v : Verdict) {a b : Verdict} → Settled a → Settled b → Settled (unless_wrong v a b)
after_settled (Err Stranger) k l = k
after_settled (Ok _) k l = l
after_settled (Err (Wrong p)) k l = badly

either_settled : (c : Bool) {v w : Verdict} → Settled v → Settled w → Settled (cond c v w)
either_settled true k l = k
either_settled false k l = l

module _ (s : List ℕ) where
  follows_settled : (p : Slots) (o : ℕ) (hs : List Head) → Settled (follows p s o hs)
  unfolding follows
  follows_settled done o [] = well
  follows_settled done o (h ∷ hs) = badly
  follows_settled (one f p) o [] = badly
  follows_settled (one f p) o (h ∷ hs) = after_settled (fits f s h) badly (follows_settled p o hs)
  follows_settled (opt f p) o [] = follows_settled p o []
  follows_settled (opt f p) o (h ∷ hs) = after_settled (fits f s h) (follows_settled p o (h ∷ hs)) (follows_settled p o hs)
  follows_settled (many f p) o [] = follows_settled p o []
  follows_settled (many f p) o (h ∷ hs) = after_settled (fits f s h) (follows_settled p o (h ∷ hs)) (follows_settled (many f p) o hs)

  holds_settled : (x : Inside) (h : Head) → Settled (holds x s h)
  unfolding holds
  holds_settled (leaf t) h = either_settled (passes t h.tag (contents_of s h)) well badly
  holds_settled (parts p) h = follows_settled p h.at (children_of s h.body h.end)
  holds_settled (set p) h = either_settled (set_in_order s h) (follows_settled p h.at (children_of s h.body h.end)) badly

after_then : {v : Verdict} (a b : Verdict) → Settled v → unless_wrong v a b ≡ result_and v b
after_then a b well = refl
after_then a b badly = refl

-- ---- the alternative and the field that take an element

module _ (s : List ℕ) (h : Head) where
  abbrev asked : Alternative → Verdict
  asked nobody = Err Stranger
  asked (holding x) = holds x s h

  fits_asked : (f : Form) → fits f s h ≡ asked (alternative_for f h.tag)
  unfolding fits
  fits_asked none = refl
  fits_asked (alt i x f) = go (fits_asked f) (takes i h.tag)
    where
      go : fits f s h ≡ asked (alternative_for f h.tag) → (b : Bool)
          → cond b (holds x s h) (fits f s h) ≡ asked (cond b (holding x) (alternative_for f h.tag))
      go e true = refl
      go e false = e

  -- the members of h, where it may stand
  abbrev pub members_follow : Inside → Verdict
  members_follow (leaf t) = Ok tt
  members_follow (parts p) = follows p s h.at (children_of s h.body h.end)
  members_follow (set p) = follows p s h.at (children_of s h.body h.end)

  holds_members : (x : Inside) → holds x s h ≡ cond (may_stand (holding x) s h) (members_follow x) (Err (Wrong h.at))
  unfolding holds
  holds_members (leaf t) = refl
  holds_members (parts p) = refl
  holds_members (set p) = refl

  module _ (o : ℕ) (hs : List Head) where
    -- the list from h on, by the field that takes h
    abbrev pub onward : Field → Verdict
    onward nowhere = Err (Wrong h.at)
    onward (here x q) = cond (may_stand (holding x) s h) (result_and (members_follow x) (follows q s o hs)) (Err (Wrong h.at))

    in_field_lem : (c : Alternative) (q : Slots) (other : Field) (a : Verdict) → a ≡ onward other
        → unless_wrong (asked c) a (follows q s o hs) ≡ onward (in_field c q other)
    in_field_lem nobody q other a e = e
    in_field_lem (holding x) q other a e =
        after_then a (follows q s o hs) (holds_settled s x h)
        ∙ (ap (λ (v : Verdict). result_and v (follows q s o hs)) (holds_members x) ∙ go (may_stand (holding x) s h))
      where
        go : (b : Bool) → result_and (cond b (members_follow x) (Err (Wrong h.at))) (follows q s o hs)
            ≡ cond b (result_and (members_follow x) (follows q s o hs)) (Err (Wrong h.at))
        go true = refl
        go false = refl

    pub element_follows : (p : Slots) → follows p s o (h ∷ hs) ≡ onward (field_for p h.tag)
    unfolding follows
    element_follows done = refl
    element_follows (one f p) = rw (fits_asked f) (in_field_lem (alternative_for f h.tag) p nowhere (Err (Wrong h.at)) refl)
    element_follows (opt f p) =
        rw (fits_asked f) (in_field_lem (alternative_for f h.tag) p (field_for p h.tag) (follows p s o (h ∷ hs)) (element_follows p))
    element_follows (many f p) =
        rw (fits_asked f) (in_field_lem (alternative_for f h.tag) (many f p) (field_for p h.tag) (follows p s o (h ∷ hs)) (element_follows p))

pub none_follows : (s : List ℕ) (o : ℕ) (p : Slots) → follows p s o [] ≡ lacking p o
unfolding follows
none_follows s o done = refl
none_follows s o (one f p) = refl
none_follows s o (opt f p) = none_follows s o p
none_follows s o (many f p) = none_follows s o p

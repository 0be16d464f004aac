-- Host names: the labels judged in one pass.
--     scanned                            the labels judged in one pass
--     labels_some                        a name has a label
--     scan_labels                        the labels judged one by one are those judged in one pass
--     scan_done, scan_bad, scan_next     the pass from the kth octet on
--     size_grows                         a label grows by one octet at most
--     host_long, host_short              a name by its length and its labels
-- Assumes nothing.
use mathlib.Core.Path.{◌≡◌, refl, sym, ap, ◌∙◌}
use mathlib.Core.List.{List, [], ◌∷◌, ◌++◌}
use mathlib.Core.Bool.{Bool, true, false, cond, not, ◌&&◌, ◌||◌}
use Prim.Native.Nat.{ℕ, suc, ◌+◌, ◌-◌, ◌≤◌, ◌<◌}
use native.Mathlib.Omega.{arith}
use lib.ListN.{length}
use lib.Dec.{leb, ltb, eqb}
use borrow.Author.Tests.{ne_eqb, eqb-true, le-leb, lt-leb, ltb-true, ltb-false}
use Rattle.hosts.specs.Hosts.{label_octet, label_octets, label_ok, labels_from, labels_of, labels_ok, is_host_name}
use Rattle.hosts.specs.Workings.Scanning.{may_end, may_grow, may_follow, size_after}
use Rattle.octets.specs.Octets.{octet_at, octets_from}
use Rattle.octets.proofs.Laws.Octets.{octets_done, octets_next, octets_long}
use Rattle.der.specs.Contents.{last_of}

-- the pass over the octets that are left: dotted says whether a dot was met
unfoldable pub scanned : ℕ → ℕ → Bool → List ℕ → Bool
scanned size last dotted [] = dotted && may_end size last
scanned size last dotted (b ∷ bs) = may_follow size last b && scanned (size_after size b) b (dotted || eqb b 46) bs

-- ---- a label so far

-- a label that may go on: all but what its last octet says
abbrev growing : List ℕ → Bool
growing [] = true
growing (b ∷ bs) = leb (length (b ∷ bs)) 63 && (label_octets (b ∷ bs) && not (eqb b 45))

and_assoc : (p q r : Bool) → ((p && q) && r) ≡ (p && (q && r))
and_assoc true q r = refl
and_assoc false q r = refl

and-true : (p : Bool) → (p && true) ≡ p
and-true true = refl
and-true false = refl

or-true : (p : Bool) → (p || true) ≡ true
or-true true = refl
or-true false = refl

or-false : (p : Bool) → (p || false) ≡ p
or-false true = refl
or-false false = refl

-- a label is good if it may go on and may end
good_label : (label : List ℕ) → label_ok label ≡ (growing label && may_end (length label) (last_of 46 label))
good_label [] = refl
good_label (b ∷ bs) =
    rw (ne_eqb (suc (length bs)) 0 (λ e. absurd (omega arith))) (shift (leb (length (b ∷ bs)) 63) (label_octets (b ∷ bs)) (not (eqb b 45))
    (not (eqb (last_of b bs) 45)))
  where
    shift : (p q r t : Bool) → (p && (q && (r && t))) ≡ ((p && (q && r)) && (true && t))
    shift true true r t = refl
    shift true false r t = refl
    shift false q r t = refl

length_more : (bs : List ℕ) (b : ℕ) → length (bs ++ (b ∷ [])) ≡ length bs + 1
length_more [] b = refl
length_more (c ∷ cs) b = let h = length_more cs b in omega arith

last_more : (a : ℕ) (bs : List ℕ) (b : ℕ) → last_of a (bs ++ (b ∷ [])) ≡ b
last_more a [] b = refl
last_more a (c ∷ cs) b = last_more c cs b

octets_more : (bs : List ℕ) (b : ℕ) → label_octets (bs ++ (b ∷ [])) ≡ (label_octets bs && label_octet b)
unfolding label_octets
octets_more [] b = and-true (label_octet b)
octets_more (c ∷ cs) b = rw (octets_more cs b) (sym (and_assoc (label_octet c) (label_octets cs) (label_octet b)))

grown : (size : ℕ) (p q r : Bool) → (leb (size + 1) 63 && ((p && q) && r)) ≡ ((leb size 63 && (p && r)) && (q && ltb size 63))
grown size p q r = go (ltb size 63) refl
  where
    still : (p q r : Bool) → ((p && q) && r) ≡ ((p && r) && (q && true))
    still true true true = refl
    still true true false = refl
    still true false true = refl
    still true false false = refl
    still false q r = refl

    full : (p q : Bool) → false ≡ (p && (q && false))
    full true true = refl
    full true false = refl
    full false q = refl

    go : (t : Bool) → ltb size 63 ≡ t → (leb (size + 1) 63 && ((p && q) && r)) ≡ ((leb size 63 && (p && r)) && (q && t))
    go true e =
        let l = ltb-true size 63 e in
        rw (le-leb (size + 1) 63 (omega arith), le-leb size 63 (omega arith)) (still p q r)
    go false e =
        let l = ltb-false size 63 e in
        rw (lt-leb (size + 1) 63 (omega arith)) (full (leb size 63 && (p && r)) q)

-- a label that goes on with b
growing_more : (label : List ℕ) (b : ℕ) → growing (label ++ (b ∷ [])) ≡ (growing label && may_grow (length label) b)
unfolding label_octets
growing_more [] b = go (label_octet b) (eqb b 45)
  where
    go : (p q : Bool) → ((p && true) && not q) ≡ (p && (not q && true))
    go true true = refl
    go true false = refl
    go false q = refl
growing_more (c ∷ cs) b =
    ap (λ (n : ℕ). leb n 63 && (label_octets ((c ∷ cs) ++ (b ∷ [])) && not (eqb c 45))) (length_more (c ∷ cs) b)
    ∙ (ap (λ (t : Bool). leb (length (c ∷ cs) + 1) 63 && (t && not (eqb c 45))) (octets_more (c ∷ cs) b)
    ∙ rw (ne_eqb (suc (length cs)) 0 (λ e. absurd (omega arith))) (grown (length (c ∷ cs)) (label_octets (c ∷ cs)) (label_octet b) (not (eqb c 45))))

-- ---- the labels

-- two labels or more, where dotted says whether there was one before, and each of them good
abbrev judged : Bool → List ℕ → List ℕ → Bool
judged dotted label bs = (dotted || leb 2 (length (labels_from label bs))) && labels_ok (labels_from label bs)

-- a name has a label, even if an empty one
pub labels_some : (label bs : List ℕ) → 1 ≤ length (labels_from label bs)
unfolding labels_from
labels_some label [] = omega arith
labels_some label (b ∷ bs) = go (λ l. labels_some l bs) (eqb b 46)
  where
    go : ((l : List ℕ) → 1 ≤ length (labels_from l bs)) → (t : Bool) → 1 ≤ length (cond t (label ∷ labels_from [] bs) (labels_from (label ++ (b ∷ [])) bs))
    go ih true = omega arith
    go ih false = ih (label ++ (b ∷ []))

at_end : (label : List ℕ) (dotted : Bool) → judged dotted label [] ≡ (growing label && scanned (length label) (last_of 46 label) dotted [])
unfolding labels_from labels_ok scanned
at_end label dotted = rw (good_label label) (go dotted (growing label) (may_end (length label) (last_of 46 label)))
  where
    go : (d p q : Bool) → ((d || false) && ((p && q) && true)) ≡ (p && (d && q))
    go true true true = refl
    go true true false = refl
    go true false q = refl
    go false true q = refl
    go false false q = refl

at_dot : (label bs : List ℕ) (dotted : Bool) → judged true [] bs ≡ (growing [] && scanned 0 46 true bs)
    → judged dotted label (46 ∷ bs) ≡ (growing label && scanned (length label) (last_of 46 label) dotted (46 ∷ bs))
unfolding labels_from labels_ok scanned
at_dot label bs dotted ih =
    let some = labels_some [] bs in
    let two : leb 2 (suc (length (labels_from [] bs))) ≡ true = le-leb 2 (suc (length (labels_from [] bs))) (omega arith) in
    rw (two, or-true dotted, good_label label, ih) (and_assoc (growing label) (may_end (length label) (last_of 46 label)) (scanned 0 46 true bs))

in_label : (label : List ℕ) (b : ℕ) (bs : List ℕ) (dotted : Bool) → eqb b 46 ≡ false
    → judged dotted (label ++ (b ∷ [])) bs ≡ (growing (label ++ (b ∷ [])) && scanned (length (label ++ (b ∷ []))) (last_of 46 (label ++ (b ∷ []))) dotted bs)
    → judged dotted label (b ∷ bs) ≡ (growing label && scanned (length label) (last_of 46 label) dotted (b ∷ bs))
unfolding labels_from labels_ok scanned
in_label label b bs dotted e ih =
    rw (e, ih, growing_more label b, length_more label b, last_more 46 label b, or-false dotted)
    (and_assoc (growing label) (may_grow (length label) b) (scanned (length label + 1) b dotted bs))

scan_from : (label bs : List ℕ) (dotted : Bool) → judged dotted label bs ≡ (growing label && scanned (length label) (last_of 46 label) dotted bs)
scan_from label [] dotted = at_end label dotted
scan_from label (b ∷ bs) dotted = go (λ l d. scan_from l bs d) (eqb b 46) refl
  where
    go : ((l : List ℕ) (d : Bool) → judged d l bs ≡ (growing l && scanned (length l) (last_of 46 l) d bs)) → (t : Bool) → eqb b 46 ≡ t
        → judged dotted label (b ∷ bs) ≡ (growing label && scanned (length label) (last_of 46 label) dotted (b ∷ bs))
    go ih true e = rw (eqb-true b 46 e) (at_dot label bs dotted (ih [] true))
    go ih false e = in_label label b bs dotted e (ih (label ++ (b ∷ [])) dotted)

pub scan_labels : (name : List ℕ) → (leb 2 (length (labels_of name)) && labels_ok (labels_of name)) ≡ scanned 0 46 false name
scan_labels name = scan_from [] name false

-- ---- the pass from the kth octet on

pub scan_done : (s : List ℕ) (size last : ℕ) (dotted : Bool) (body n k : ℕ) → n ≤ k
    → scanned size last dotted (octets_from s (body + k) (n - k)) ≡ (dotted && may_end size last)
unfolding scanned
scan_done s size last dotted body n k l = rw (octets_done s body n k l)

-- b is the kth octet, and good says whether it may follow
module _ (s : List ℕ) (size last : ℕ) (dotted : Bool) (body n k b : ℕ) (good : Bool) (l : k < n) (e : b ≡ octet_at s (body + k))
    (g : good ≡ may_follow size last b) where
  scan_split : scanned size last dotted (octets_from s (body + k) (n - k)) ≡
      (good && scanned (size_after size b) b (dotted || eqb b 46) (octets_from s (body + (k + 1)) (n - (k + 1))))
  unfolding scanned
  scan_split = rw (octets_next s body n k l, ← e, g)

  pub scan_bad : good ≡ false → scanned size last dotted (octets_from s (body + k) (n - k)) ≡ false
  scan_bad f = cc scan_split

  pub scan_next : good ≡ true
      → scanned size last dotted (octets_from s (body + k) (n - k)) ≡ scanned (size_after size b) b (dotted || eqb b 46)
      (octets_from s (body + (k + 1)) (n - (k + 1)))
  scan_next f = cc scan_split

pub size_grows : (size b k next : ℕ) → next ≡ size_after size b → size ≤ k → next ≤ k + 1
size_grows size b k next e l = rw e (go (eqb b 46))
  where
    go : (t : Bool) → cond t 0 (size + 1) ≤ k + 1
    go true = omega arith
    go false = omega arith

-- ---- a host name

pub host_long : (s : List ℕ) (body n : ℕ) → 253 < n → false ≡ is_host_name (octets_from s body n)
host_long s body n l = rw (octets_long s body n, lt-leb n 253 l)

pub host_short : (s : List ℕ) (body n : ℕ) (good : Bool) → n ≤ 253
    → good ≡ (leb 2 (length (labels_of (octets_from s body n))) && labels_ok (labels_of (octets_from s body n)))
    → good ≡ is_host_name (octets_from s body n)
host_short s body n good l e = rw (octets_long s body n, le-leb n 253 l, e)

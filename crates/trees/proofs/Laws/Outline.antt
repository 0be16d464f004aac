-- The outline of a tree rises: `rises_tree`, before lines that rise from where the tree ends.
-- Assumes nothing.
use mathlib.Core.Path.{◌≡◌, sym, subst}
use mathlib.Core.List.{List, ◌++◌, append_assoc}
use Prim.Native.Nat.{ℕ, suc, ◌+◌, ◌-◌, ◌≤◌}
use native.Mathlib.Omega.{arith}
use lib.ListN.{length, length-append}
use Rattle.trees.specs.Trees.{Tree, Trees, primitive, constructed, nothing, ◌then◌, identifier_octet, element, encode, encode_all}
use Rattle.trees.specs.Outline.{Line, outline, outline_all, Rises}
use Rattle.trees.proofs.Laws.Element.{element_longer}

mutual
  unfolding outline Rises encode

  pub rises_tree : (t : Tree) (depth from at to : ℕ) (ls : List Line) → from ≤ at → at + length (encode t) ≤ to
      → ((f : ℕ) → f ≤ at + length (encode t) → Rises f to ls) → Rises from to (outline t depth at ++ ls)
  rises_tree (primitive tag c) depth from at to ls h l k = let z = element_longer (identifier_octet 0 tag) c in (h, l, k (suc at) (omega arith))
  rises_tree (constructed tag ts) depth from at to ls h l k =
      let z = element_longer (identifier_octet 1 tag) (encode_all ts) in
      let body = at + (length (element (identifier_octet 1 tag) (encode_all ts)) - length (encode_all ts)) in
      let n : body + length (encode_all ts) ≡ at + length (element (identifier_octet 1 tag) (encode_all ts)) = omega arith in
      (h, l, rises_trees ts (suc depth) (suc at) body to ls (omega arith) (omega arith) (λ f g. k f (omega arith)))

  rises_trees : (ts : Trees) (depth from at to : ℕ) (ls : List Line) → from ≤ at → at + length (encode_all ts) ≤ to
      → ((f : ℕ) → f ≤ at + length (encode_all ts) → Rises f to ls) → Rises from to (outline_all ts depth at ++ ls)
  rises_trees nothing depth from at to ls h l k = k from (omega arith)
  rises_trees (t then ts) depth from at to ls h l k =
      let n = length-append (encode t) (encode_all ts) in
      let mid = at + length (encode t) in
      subst (Rises from to) (sym (append_assoc (outline t depth at) (outline_all ts depth mid) ls))
      (rises_tree t depth from at to (outline_all ts depth mid ++ ls) h (omega arith)
      (λ f g. rises_trees ts depth f mid to ls g (omega arith) (λ e j. k e (omega arith))))

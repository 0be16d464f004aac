-- The qualifiers of policies.
--     qualifiers_of_lem        they are elements, if the policy is one
--     qualifiers_apart     their starts rise
-- Assumes nothing.
use mathlib.Core.Path.{◌≡◌, refl, sym, ap, ◌∙◌}
use mathlib.Core.List.Memᴰ
use mathlib.Core.List.{List, [], ◌∷◌, ◌++◌, append-nil}
use mathlib.Core.List.Memᴰ.{tail as behind}
use Prim.Native.Nat.{ℕ, ◌≤◌, ◌<◌}
use native.Mathlib.Nat.{le_refl}
use native.Mathlib.Omega.{arith}
use Rattle.der.specs.Header.{head_of}
use Rattle.der.specs.Members.{missing, members_in}
use Rattle.der.specs.declared.header.Head.{Head}
use Rattle.der.proofs.Laws.Header.{head_body}
use Rattle.der.proofs.Laws.Children.{children_done}
use Rattle.der.proofs.Laws.Members.{second_is, second_none}
use Rattle.asn.specs.Grammar.{fits}
use Rattle.asn.specs.Module.{sequence_of, policy_information, policy_qualifier_info}
use Rattle.asn.proofs.Terms.Fields.{Optional}
use Rattle.asn.proofs.Terms.Fields.Optional.{absent, present}
use Rattle.asn.proofs.Laws.Fields.{parts_fit, one_fits, opt_fits, done_fits}
use Rattle.policies.specs.Policies.{qualifiers_of}
use Rattle.certificate.proofs.Laws.Inside.{between_head, between_after}
use Rattle.facts.specs.Elements.{Element}
use Rattle.facts.proofs.Laws.Members.{AllMembers, here, among, members_of_lem}
use Rattle.forms.specs.Lists.{holder_in, items_within}
use Rattle.forms.specs.declared.nests.Nest.TheVariants.{Policy}
use Rattle.forms.proofs.Laws.Lists.{parts_apart}
use Rattle.report.proofs.Terms.Items.{Apart}
use Rattle.std.specs.Prelude.{Ok}

-- ---- in a policy

module _ (s : List ℕ) (policy : Head) (e : fits policy_information s policy ≡ Ok tt) (k : Element s policy) where
  in_policy : AllMembers s policy
  unfolding policy_information
  in_policy = members_of_lem 0x30 _ s policy refl refl e k

  -- the identifier is first, and behind it there is no list of qualifiers, or one
  by_members : (x : Head) (lists : List Head) → Optional (sequence_of policy_qualifier_info) s lists
      → members_in s policy ≡ x ∷ lists → AllMembers s (qualifiers_of s policy)
  by_members x [] absent is h i =
      let end = policy.end in
      let none : qualifiers_of s policy ≡ missing end = second_none s policy x is in
      absurd (Memᴰ.not-nil (among (sym ((λ j. members_in s (none j)) ∙ children_done s end end (le_refl end))) i))
  by_members x (g ∷ []) (present f) is h i =
      let second : qualifiers_of s policy ≡ g = second_is s policy x g [] is in
      members_of_lem 0x30 _ s g refl refl f (in_policy g (among is (behind here))) h (among (sym (ap (members_in s) second)) i)
  by_members x (g ∷ (_ ∷ _)) x8 is h i = elim x8 [ ]

  pub qualifiers_of_lem : AllMembers s (qualifiers_of s policy)
  unfolding policy_information
  qualifiers_of_lem =
      let a = one_fits _ _ s policy.at _ (parts_fit 0x30 _ s policy e).1 in
      let b = opt_fits _ _ s policy.at _ a.more in
      let d = done_fits s policy.at _ b.more in
      let lists : a.rest ≡ b.front = b.is ∙ (ap (λ (l : List Head). b.front ++ l) d ∙ append-nil b.front) in
      by_members a.first b.front b.fit (a.is ∙ ap (λ (l : List Head). a.first ∷ l) lists)

-- ---- where they lie

module _ (s : List ℕ) (end : ℕ) where
  -- the second member of an element, or what stands for it, lies in the element
  list_lies :
      (at : ℕ) → at < end
      → (at ≤ (qualifiers_of s (head_of s at end)).body) × ((qualifiers_of s (head_of s at end)).end ≤ (head_of s at end).end)
  list_lies at l =
      let h = head_of s at end in
      let b = head_body s at end l in
      let q = between_after s h.body h.end (head_of s h.body h.end) (between_head s h.body h.end b.1) in
      let i = q.starts in
      let j = q.holds in
      (omega (arith, b.0, i, j), q.ends)

  pub qualifiers_apart : (at : ℕ) → Apart (items_within Policy s at end)
  unfolding items_within
  qualifiers_apart = parts_apart s end (holder_in Policy s) list_lies

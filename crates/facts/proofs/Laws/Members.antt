-- Elements by the lists that they are in.
--     AllElements                 all of a list are elements
--     here, among                 the first of a list; in a list that is the same as another
--     same_element_lem                an element under another name
--     members_by, members_of_lem      the members of an element that is constructed, by its identifier or by its type
--     many_fit, listed_fit        what is in a list of one type is of that type
-- Assumes nothing.
use mathlib.Core.Path.{◌≡◌, refl, sym, ap, ◌∙◌, subst}
use mathlib.Core.List.Memᴰ
use mathlib.Core.List.{List, [], ◌∷◌}
use mathlib.Core.Logic.{⊎_elim}
use mathlib.Core.Bool.{true, false}
use Prim.Native.Nat.{ℕ}
use native.Mathlib.Omega.{arith}
use lib.Dec.{eqb}
use Rattle.facts.specs.Elements.{Element}
use Rattle.der.specs.Contents.{constructed}
use Rattle.der.specs.declared.header.Head.{Head}
use Rattle.asn.specs.Grammar.{Form, Inside, unless_wrong, fits, follows, Verdict}
use Rattle.asn.specs.Grammar.Form.{none, alt}
use Rattle.asn.specs.Grammar.Slots.{done, many}
use Rattle.asn.specs.Module.{some, sequence_of}
use Rattle.asn.proofs.Laws.Fields.{parts_fit, one_fits}
use Rattle.certificate.proofs.Laws.Named.{fit_tag}
use Rattle.der.specs.Members.{members_in}
use Rattle.der.proofs.Laws.Places.{held_members}
use Rattle.report.specs.Order.{In}
use Rattle.asn.specs.declared.fitting.Misfit.TheVariants.{Stranger, Wrong}
use Rattle.std.specs.Prelude.{Ok, Err}

-- every element of a list
abbrev pub AllElements : List ℕ → List Head → Type 0
AllElements s hs = (h : Head) → In h hs → Element s h

-- ---- the same under another name

pub here : {h : Head} {hs : List Head} → In h (h ∷ hs)
here = Memᴰ.head refl

pub among : {h : Head} {hs gs : List Head} → hs ≡ gs → In h gs → In h hs
among {h} e i = subst (λ (l : List Head). In h l) (sym e) i

pub same_element_lem : {s : List ℕ} {g h : Head} → h ≡ g → Element s g → Element s h
same_element_lem {s} e k = subst (λ (x : Head). Element s x) (sym e) k

-- ---- members

abbrev pub AllMembers : List ℕ → Head → Type 0
AllMembers s holder = AllElements s (members_in s holder)

pub members_by : (s : List ℕ) (holder : Head) → constructed holder.tag ≡ true → Element s holder → AllMembers s holder
members_by s holder c k = held_members holder c k

module _ (i : ℕ) (x : Inside) (s : List ℕ) (holder : Head) where
  pub members_of_lem : constructed i ≡ true → eqb i 0 ≡ false → fits (alt i x none) s holder ≡ Ok tt → Element s holder → AllMembers s holder
  members_of_lem c z e k = members_by s holder (ap constructed (fit_tag i x s holder z e) ∙ c) k

-- ---- lists of one type

module _ (f : Form) (s : List ℕ) where
  abbrev AllFit : List Head → Type 0
  AllFit hs = (h : Head) → In h hs → fits f s h ≡ Ok tt

  pub many_fit : (o : ℕ) (hs : List Head) → follows (many f done) s o hs ≡ Ok tt → AllFit hs
  unfolding follows
  many_fit o [] e h i = absurd (Memᴰ.not-nil i)
  many_fit o (x ∷ xs) e h i = go (fits f s x) refl e (many_fit o xs)
    where
      rest : Verdict
      rest = follows (many f done) s o xs

      go : (v : Verdict) → fits f s x ≡ v → unless_wrong v (follows done s o (x ∷ xs)) rest ≡ Ok tt → (rest ≡ Ok tt → AllFit xs) → fits f s h ≡ Ok tt
      go (Err Stranger) k e ih = let z : ◌≡◌ {A = ℕ} 0 1 = cc in absurd (omega arith)
      go (Ok _) k e ih = ⊎_elim (λ (q : h ≡ x). ap (fits f s) q ∙ k) (ih e h) (Memᴰ.cases_cons i)
      go (Err (Wrong p)) k e ih = let z : ◌≡◌ {A = ℕ} 0 1 = cc in absurd (omega arith)

  some_fit : (o : ℕ) (hs : List Head) → follows (some f) s o hs ≡ Ok tt → AllFit hs
  some_fit o hs e h i =
      let a = one_fits f (many f done) s o hs e in
      let first_or_later = Memᴰ.cases_cons (among (sym a.is) i) in
      ⊎_elim (λ (q : h ≡ a.first). ap (fits f s) q ∙ a.fit) (many_fit o a.rest a.more h) first_or_later

  pub listed_fit : (holder : Head) → fits (sequence_of f) s holder ≡ Ok tt → AllFit (members_in s holder)
  listed_fit holder e = some_fit holder.at (members_in s holder) (parts_fit 0x30 (some f) s holder e).1

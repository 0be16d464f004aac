-- Reports by their rules. What is asked of each rule is `RowOk`; all that is said of a report follows once, here.
--     judged_is                  a rule on one element, as an entry by a test
--     puts_at, _⟫_, same_rule    putting the entries of a rule on one element; of rules, and then of others; of one rule, in two steps
--     puts_judged, puts_unjudged, puts_empty, each_is, one_is     those of a rule on many elements
--     rest_row, puts_rest        loops over rules: one more, and none left
--     puts_asked                 a test that is made only where the rule is judged
--     none_ok, at_ok, twice_ok, each_ok, one_ok   what is asked of a rule, by its form
--     ok_join                    what is asked of several
--     rows_ordered               the entries rise by rule, then start
--     rows_in                    an entry is in the report exactly if its rule is judged and is broken there
--     rows_at, rows_inside       where entries are
--     rows_levelled              and that each has its rule's level
--     none_broken                the report is empty exactly if no rule that is judged is broken
-- Assumes nothing.
use mathlib.Core.Path.{◌≡◌, refl, sym, ap, subst, ◌∙◌}
use mathlib.Core.List.Memᴰ
use mathlib.Core.List.{List, [], ◌∷◌, ◌++◌, map, append_assoc, append-nil}
use mathlib.Core.Logic.{◌↔◌, inr, ⊎_elim}
use mathlib.Core.Bool.{Bool, true, false, cond, ◌&&◌}
use Prim.Native.Nat.{ℕ, ◌+◌, ◌≤◌, ◌<◌}
use native.Mathlib.Nat.{le_refl}
use native.Mathlib.Omega.{arith}
use lib.Dec.{leb}
use borrow.Author.Tests.{leb-true}
use Rattle.report.specs.declared.sink.Entry.{Entry}
use Rattle.report.specs.Entries.{entry_at, noted}
use Rattle.report.specs.Forms.{filter, ones_of}
use Rattle.report.specs.Workings.Forms.{each, one}
use Rattle.report.specs.Order.{In, Before, RisingEntries, Ordered, EntriesInside, Levelled, EntriesLevelled}
use Rattle.report.proofs.Terms.Items.{Apart}
use Rattle.report.specs.Order.RisingEntries.{no_entries, more_entries}
use Rattle.report.proofs.Terms.Items.Apart.{no_items, more_items}
use Rattle.report.specs.Putting.{Put}
use Rattle.report.specs.Rows.{Row, ◌for◌⦂◌, ◌⦂◌, broken_at, only_if, entries_of, findings_of, Puts, ascend, BrokenIn}
use Rattle.report.proofs.Terms.Rows.{Up, RowOk, RowsOk}
use Rattle.report.proofs.Terms.Rows.Up.{no_heads, more_heads}
use Rattle.report.proofs.Terms.Rows.RowsOk.{no_rows, more_rows}
use Rattle.octets.proofs.Laws.Tests.{and_l, and_r}
use Rattle.der.specs.declared.header.Head.{Head}
use Rattle.profiles.specs.Judged.{judged_by, judges}
use Rattle.profiles.specs.declared.fields.Profile.{Profile}
use Rattle.report.proofs.Laws.Members.{only_in, map_in, from_map, filter_in}
use Rattle.report.proofs.Laws.Order.{none_ordered, join_ordered, wider_ordered, of_rule}
use Rattle.report.proofs.Laws.Putting.{Rest, rest_step, rest_end, ◌⨾◌, nothing}

-- ---- putting

pub judged_is : (p : Profile) (rule : ℕ) (bad : Bool) (h : Head) → noted rule (judges p rule && bad) h ≡ entries_of p (rule ⦂ broken_at bad h)
unfolding entries_of broken_at noted
judged_is p rule bad h = go (judges p rule) bad
  where
    go : (j b : Bool) → noted rule (j && b) h ≡ only_if j (map (entry_at rule) (broken_at b h))
    go true true = refl
    go true false = refl
    go false b = refl

entries_join : (p : Profile) (rule : ℕ) (gs hs : List Head) → entries_of p (rule ⦂ gs) ++ entries_of p (rule ⦂ hs) ≡ entries_of p (rule ⦂ (gs ++ hs))
unfolding entries_of
entries_join p rule gs hs = go (judges p rule)
  where
    mapped : (gs : List Head) → map (entry_at rule) gs ++ map (entry_at rule) hs ≡ map (entry_at rule) (gs ++ hs)
    mapped [] = refl
    mapped (g ∷ gs) = ap (λ (es : List Entry). entry_at rule g ∷ es) (mapped gs)

    go : (j : Bool) → only_if j (map (entry_at rule) gs) ++ only_if j (map (entry_at rule) hs) ≡ only_if j (map (entry_at rule) (gs ++ hs))
    go true = mapped gs
    go false = refl

findings_join : (p : Profile) (rs qs : List Row) → findings_of p rs ++ findings_of p qs ≡ findings_of p (rs ++ qs)
unfolding findings_of
findings_join p [] qs = refl
findings_join p (r ∷ rs) qs =
    append_assoc (entries_of p r) (findings_of p rs) (findings_of p qs) ∙ ap (λ (es : List Entry). entries_of p r ++ es) (findings_join p rs qs)

-- a rule on one element
pub puts_at : {n m : ℕ} {a b : List ℕ} (p : Profile) (rule : ℕ) (bad : Bool) (h : Head) → Put (noted rule (judges p rule && bad) h) n a m b
    → Puts p (rule ⦂ broken_at bad h ∷ []) n a m b
unfolding findings_of
puts_at {n} {m} {a} {b} p rule bad h x =
    record { put = subst (λ (es : List Entry). Put es n a m b) (judged_is p rule bad h ∙ sym (append-nil (entries_of p (rule ⦂ broken_at bad h)))) x }

-- a rule on many elements, in a profile that judges it, and in one that does not
pub puts_judged : {n m : ℕ} {a b : List ℕ} (p : Profile) (rule : ℕ) (hs : List Head) → judges p rule ≡ true → Put (map (entry_at rule) hs) n a m b
    → Puts p (rule ⦂ hs ∷ []) n a m b
unfolding findings_of entries_of
puts_judged {n} {m} {a} {b} p rule hs t x =
    record { put = rw t (subst (λ (es : List Entry). Put es n a m b) (sym (append-nil (map (entry_at rule) hs))) x) }

pub puts_unjudged : (p : Profile) (rule : ℕ) (hs : List Head) (n : ℕ) (room : List ℕ) → judges p rule ≡ false → Puts p (rule ⦂ hs ∷ []) n room n room
unfolding findings_of entries_of
puts_unjudged p rule hs n room t = record { put = rw t (nothing n room) }

-- a rule that nothing breaks
pub puts_empty : (p : Profile) (rule n : ℕ) (room : List ℕ) → Puts p (rule ⦂ [] ∷ []) n room n room
unfolding findings_of entries_of
puts_empty p rule n room = record { put = go (judges p rule) }
  where
    go : (b : Bool) → Put (only_if b [] ++ []) n room n room
    go true = nothing n room
    go false = nothing n room

-- "each" and "one X" by the elements that break them
pub each_is : (rule : ℕ) (bad : Head → Bool) (hs : List Head) → each rule bad hs ≡ map (entry_at rule) (filter bad hs)
unfolding each
each_is rule bad hs = refl

pub one_is : (rule : ℕ) (is_x : Head → Bool) (name : Head) (hs : List Head) → one rule is_x name hs ≡ map (entry_at rule) (ones_of name (filter is_x hs))
unfolding one
one_is rule is_x name hs = refl

-- a test that takes time is made only where the rule is judged
pub puts_asked : {n m : ℕ} {a b : List ℕ} (p : Profile) (rule : ℕ) (x y : Bool) (h : Head)
    → Puts p (rule ⦂ broken_at ((judges p rule && x) && y) h ∷ []) n a m b → Puts p (rule ⦂ broken_at (x && y) h ∷ []) n a m b
unfolding findings_of entries_of
puts_asked {n} {m} {a} {b} p rule x y h q =
    record { put = subst (λ (es : List Entry). Put (es ++ []) n a m b) (go (judges p rule)) q.put }
  where
    go : (j : Bool) → only_if j (map (entry_at rule) (broken_at ((j && x) && y) h)) ≡ only_if j (map (entry_at rule) (broken_at (x && y) h))
    go true = refl
    go false = refl

module _ {p : Profile} {n m k : ℕ} {a b d : List ℕ} where
  -- rules, and then others
  pub ◌⟫◌ : {rs qs : List Row} → Puts p rs n a m b → Puts p qs m b k d → Puts p (rs ++ qs) n a k d
  ◌⟫◌ {rs} {qs} x y = record { put = subst (λ (es : List Entry). Put es n a k d) (findings_join p rs qs) (x.put ⨾ y.put) }

  -- one rule, in two steps
  pub same_rule : {rule : ℕ} {gs hs : List Head} → Puts p (rule ⦂ gs ∷ []) n a m b → Puts p (rule ⦂ hs ∷ []) m b k d
      → Puts p (rule ⦂ (gs ++ hs) ∷ []) n a k d
  unfolding findings_of
  same_rule {rule} {gs} {hs} x y =
      let e : (entries_of p (rule ⦂ gs) ++ []) ++ (entries_of p (rule ⦂ hs) ++ []) ≡ entries_of p (rule ⦂ (gs ++ hs)) ++ []
      = rw (append-nil (entries_of p (rule ⦂ gs)), append-nil (entries_of p (rule ⦂ hs)), append-nil (entries_of p (rule ⦂ (gs ++ hs))))
      (entries_join p rule gs hs) in
      record { put = subst (λ (es : List Entry). Put es n a k d) e (x.put ⨾ y.put) }

infixr 20 ◌⟫◌
-- ---- loops over rules

pub rest_row : {n m n₀ : ℕ} {a b a₀ : List ℕ} {all : List Entry} (p : Profile) (r : Row) (rs : List Row)
    → Rest (findings_of p (r ∷ rs)) n a all n₀ a₀ → Puts p (r ∷ []) n a m b → Rest (findings_of p rs) m b all n₀ a₀
unfolding findings_of
rest_row {n} {m} {a = a} {b = b} p r rs s x = rest_step s (subst (λ (es : List Entry). Put es n a m b) (append-nil (entries_of p r)) x.put)

pub puts_rest : {n n₀ : ℕ} {a a₀ : List ℕ} {rs : List Row} (p : Profile) → Rest (findings_of p []) n a (findings_of p rs) n₀ a₀ → Puts p rs n₀ a₀ n a
unfolding findings_of
puts_rest p s = record { put = rest_end s }

-- ---- what is asked of a rule, by its form

up_filter : {hs : List Head} (test : Head → Bool) → Apart hs → Up (filter test hs)
unfolding filter
up_filter test no_items = no_heads
up_filter test (more_items {h = h} {hs = hs} l f r) = go (test h) (up_filter test r)
  where
    go : (b : Bool) → Up (filter test hs) → Up (cond b (h ∷ filter test hs) (filter test hs))
    go true q = more_heads {h = h} (λ g m. let k = f g ((filter_in test hs g).0 m).0 in omega arith) q
    go false q = q

module _ {P : Head → Type 0} where
  pub none_ok : {ps : List ℕ} (rule : ℕ) → RowOk P (rule for ps ⦂ [])
  none_ok rule = record { up = no_heads; all = λ g m. absurd (Memᴰ.not-nil m) }

  pub at_ok : {ps : List ℕ} (rule : ℕ) (bad : Bool) (h : Head) → (bad ≡ true → P h) → RowOk P (rule for ps ⦂ broken_at bad h)
  unfolding broken_at
  at_ok rule true h k =
      record {
        up = more_heads (λ g m. absurd (Memᴰ.not-nil m)) no_heads;
        all = λ g m. subst P (sym (Memᴰ.eq_of_singleton m)) (k refl);
      }
  at_ok rule false h k = none_ok rule

  pub twice_ok : {ps : List ℕ} (rule : ℕ) (x y : Bool) (h g : Head) → h.at < g.at → P h → P g → RowOk P (rule for ps ⦂ (broken_at x h ++ broken_at y g))
  unfolding broken_at
  twice_ok {ps} rule true true h g l k j =
      record {
        up = more_heads (λ f m. subst (λ (e : Head). h.at < e.at) (sym (Memᴰ.eq_of_singleton m)) l) (at_ok {ps = ps} rule true g (λ t. j)).up;
        all = λ f m. ⊎_elim (λ (e : f ≡ h). subst P (sym e) k) ((at_ok {ps = ps} rule true g (λ t. j)).all f) (Memᴰ.cases_cons m);
      }
  twice_ok {ps} rule true false h g l k j = at_ok rule true h (λ t. k)
  twice_ok {ps} rule false y h g l k j = at_ok rule y g (λ t. j)

  pub each_ok : {ps : List ℕ} (rule : ℕ) (bad : Head → Bool) {hs : List Head} → Apart hs → ((h : Head) → In h hs → P h) → RowOk P (rule for ps ⦂ filter bad hs)
  each_ok rule bad {hs} a k = record { up = up_filter bad a; all = λ h m. k h ((filter_in bad hs h).0 m).0 }

  pub one_ok : {ps : List ℕ} (rule : ℕ) (is_x : Head → Bool) {hs : List Head} (name : Head) → Apart hs → P name → ((h : Head) → In h hs → P h)
      → RowOk P (rule for ps ⦂ ones_of name (filter is_x hs))
  unfolding ones_of broken_at
  one_ok {ps} rule is_x {hs} name a k f = go (filter is_x hs) (up_filter is_x a) (λ h m. f h ((filter_in is_x hs h).0 m).0)
    where
      go : (xs : List Head) → Up xs → ((h : Head) → In h xs → P h) → RowOk P (rule for ps ⦂ ones_of name xs)
      go [] u g = at_ok rule true name (λ t. k)
      go (x ∷ xs) (more_heads l u) g = record { up = u; all = λ h m. g h (Memᴰ.tail m) }

  pub ok_join : {rs qs : List Row} → RowsOk P rs → RowsOk P qs → RowsOk P (rs ++ qs)
  ok_join no_rows y = y
  ok_join (more_rows x xs) y = more_rows x (ok_join xs y)

-- ---- order

rising_up : {hs : List Head} (rule : ℕ) → Up hs → RisingEntries (map (entry_at rule) hs)
rising_up rule no_heads = no_entries
rising_up rule (more_heads {h = h} {hs = hs} f r) = more_entries after (rising_up rule r)
  where
    after : (e : Entry) → In e (map (entry_at rule) hs) → Before (entry_at rule h) e
    after e m =
        let p = from_map rule hs m in
        let q = p.2 in
        let b = f p.0 p.1 in
        let k : e.place.start ≡ p.0.at = ap (λ (d : Entry). d.place.start) q in
        inr (sym (ap (λ (d : Entry). d.rule) q), omega arith)

row_ordered : {P : Head → Type 0} (p : Profile) (r : Row) → RowOk P r → Ordered r.rule (r.rule + 1) (entries_of p r)
unfolding entries_of
row_ordered p r k = go (judged_by p r.profiles)
  where
    go : (j : Bool) → Ordered r.rule (r.rule + 1) (only_if j (map (entry_at r.rule) r.broken))
    go true =
        of_rule r.rule (r.rule + 1) (omega arith) (λ e m. ap (λ (d : Entry). d.rule) (from_map r.rule r.broken m).2)
        (rising_up r.rule k.up)
    go false = none_ordered r.rule (r.rule + 1) (omega arith)

pub rows_ordered : {P : Head → Type 0} (p : Profile) (from to : ℕ) {rs : List Row} → ascend from to rs ≡ true → RowsOk P rs → Ordered from to (findings_of p rs)
unfolding findings_of ascend
rows_ordered p from to e no_rows = none_ordered from to (leb-true from to e)
rows_ordered p from to e (more_rows {r = r} {rs = rs} x xs) =
    let l = leb-true from r.rule (and_l (leb from r.rule) (ascend (r.rule + 1) to rs) e) in
    join_ordered (wider_ordered l (le_refl (r.rule + 1)) (row_ordered p r x))
    (rows_ordered p (r.rule + 1) to (and_r (leb from r.rule) (ascend (r.rule + 1) to rs) e) xs)

-- ---- what is in a report

abbrev pub InRows : Profile → List Row → Entry → Type 0
InRows p rs e = (r : Row) × In r rs × ((h : Head) × BrokenIn p e r h)

row_in : (p : Profile) (r : Row) (e : Entry) → In e (entries_of p r) → (h : Head) × BrokenIn p e r h
unfolding entries_of
row_in p r e m =
    let x = (only_in (judged_by p r.profiles) (map (entry_at r.rule) r.broken) e).0 m in
    let y = from_map r.rule r.broken x.1 in
    (y.0, record { judged = x.0; among = y.1; entry = y.2 })

in_row : (p : Profile) (r : Row) (e : Entry) (h : Head) → BrokenIn p e r h → In e (entries_of p r)
unfolding entries_of
in_row p r e h b = (only_in (judged_by p r.profiles) (map (entry_at r.rule) r.broken) e).1 (b.judged, map_in r.rule b.among b.entry)

said : (p : Profile) (rs : List Row) (e : Entry) → In e (findings_of p rs) → InRows p rs e
unfolding findings_of
said p [] e m = absurd (Memᴰ.not-nil m)
said p (r ∷ rs) e m =
    ⊎_elim (λ (k : In e (entries_of p r)). (r, Memᴰ.head refl, row_in p r e k))
    (λ (k : In e (findings_of p rs)). let x = said p rs e k in (x.0, Memᴰ.tail x.1, x.2))
    (Memᴰ.append_cases (entries_of p r) m)

found : (p : Profile) {r : Row} {rs : List Row} (e : Entry) → In r rs → In e (entries_of p r) → In e (findings_of p rs)
unfolding findings_of
found p e (Memᴰ.head {x = x} {xs = xs} q) m = Memᴰ.append_left (findings_of p xs) (subst (λ (y : Row). In e (entries_of p y)) q m)
found p e (Memᴰ.tail {x = x} k) m = Memᴰ.append_right (entries_of p x) (found p e k m)

pub rows_in : (p : Profile) (rs : List Row) (e : Entry) → In e (findings_of p rs) ↔ InRows p rs e
rows_in p rs e = (said p rs e, λ x. found p e x.1 (in_row p x.0 e x.2.0 x.2.1))

-- ---- where entries are

row_of : {P : Head → Type 0} {rs : List Row} {r : Row} → RowsOk P rs → In r rs → RowOk P r
row_of no_rows m = absurd (Memᴰ.not-nil m)
row_of {P} {r = r} (more_rows {r = q} x xs) m = ⊎_elim (λ (e : r ≡ q). subst (RowOk P) (sym e) x) (row_of xs) (Memᴰ.cases_cons m)

pub rows_at : {P : Head → Type 0} (p : Profile) {rs : List Row} → RowsOk P rs → (e : Entry) → In e (findings_of p rs)
    → (h : Head) × P h × (e.place ≡ (entry_at 0 h).place)
rows_at p {rs} k e m =
    let x = said p rs e m in
    let b = x.2.1 in
    (x.2.0, (row_of k x.1).all x.2.0 b.among, ap (λ (d : Entry). d.place) b.entry)

pub rows_inside : {P : Head → Type 0} (p : Profile) {rs : List Row} (limit : ℕ) → ((h : Head) → P h → (h.at ≤ h.end) × (h.end ≤ limit))
    → RowsOk P rs → EntriesInside (findings_of p rs) limit
rows_inside p limit f k e m =
    let x = rows_at p k e m in
    let b = f x.0 x.1 in
    rw x.2 (omega arith)

pub rows_levelled : (p : Profile) (rs : List Row) → EntriesLevelled (findings_of p rs)
rows_levelled p rs e m =
    let x = said p rs e m in
    subst Levelled (sym x.2.1.entry) refl

-- ---- the empty report

module _ (p : Profile) where
  broken_none : (rs : List Row) → findings_of p rs ≡ [] → (r : Row) → In r rs → judged_by p r.profiles ≡ true → (hs : List Head) → r.broken ≡ hs → hs ≡ []
  broken_none rs e r m j [] q = refl
  broken_none rs e r m j (h ∷ hs) q =
      let b : BrokenIn p (entry_at r.rule h) r h = record { judged = j; among = rw q (Memᴰ.head refl); entry = refl } in
      absurd (Memᴰ.not-nil (subst (λ (es : List Entry). In (entry_at r.rule h) es) e ((rows_in p rs (entry_at r.rule h)).1 (r, m, (h, b)))))

  row_none : (r : Row) → (judged_by p r.profiles ≡ true → r.broken ≡ []) → entries_of p r ≡ []
  unfolding entries_of
  row_none r f = go (judged_by p r.profiles) f
    where
      go : (j : Bool) → (j ≡ true → r.broken ≡ []) → only_if j (map (entry_at r.rule) r.broken) ≡ []
      go true f = rw (f refl)
      go false f = refl

  none_broken_all : (rs : List Row) → ((r : Row) → In r rs → judged_by p r.profiles ≡ true → r.broken ≡ []) → findings_of p rs ≡ []
  unfolding findings_of
  none_broken_all [] f = refl
  none_broken_all (r ∷ rs) f = rw (row_none r (f r (Memᴰ.head refl))) (none_broken_all rs (λ q m. f q (Memᴰ.tail m)))

  pub none_broken : (rs : List Row) → (findings_of p rs ≡ []) ↔ ((r : Row) → In r rs → judged_by p r.profiles ≡ true → r.broken ≡ [])
  none_broken rs = (λ e r m j. broken_none rs e r m j r.broken refl, none_broken_all rs)

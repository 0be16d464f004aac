-- Appending entries.
--     tick_below, tick_cap           a count goes up by one, unless it has reached the cap
--     put_in, put_out                one entry, written or left out
--     entry_made                     the entry of a rule at an element
--     put_noted, put_not             it is put, or not, by a test
--     nothing                        no entries
--     _⨾_                            entries, and then others
--     room_kept                      the room stays as long as it was
--     Rest                           loops: what is still to be put, against what was to be put at the start
--     rest_start, rest_step, rest_last, rest_end
-- Assumes nothing.
use mathlib.Core.Path.{◌≡◌, refl, sym, ap, subst, ap₂, ◌∙◌}
use mathlib.Core.List.{List, [], ◌∷◌, ◌++◌}
use mathlib.Core.Bool.{Bool, true, false, cond}
use Prim.Native.Nat.{ℕ, ◌+◌, ◌*◌, ◌/◌, ◌≤◌, ◌<◌, ◌^◌}
use native.Mathlib.Omega.{arith}
use lib.ListN.{length}
use lib.Seq.{sets, length-sets}
use lib.Dec.{leb}
use borrow.Author.Tests.{lt-ltb, le-ltb, le-leb, lt-leb}
use Rattle.report.specs.declared.sink.Entry.{Entry}
use Rattle.report.specs.Entries.{width, entry_octets, entry_at, noted}
use Rattle.report.specs.Putting.{cap, tick, put_one, counted, put_all, Put}
use Rattle.octets.proofs.Laws.Writing.{sets_append}
use Rattle.octets.specs.Numbers.{pair_of}
use Rattle.octets.specs.Places.{place_from}
use Rattle.octets.specs.declared.places.Place.{Place}
use Rattle.der.specs.declared.header.Head.{Head}
use Rattle.profiles.specs.Judged.{level_of}
use Rattle.profiles.specs.Levels.{level_number}

-- ---- one entry

module _ (n : ℕ) where
  pub tick_below : n < cap → n + 1 ≡ tick n
  unfolding tick
  tick_below h = rw (lt-ltb n cap h)

  pub tick_cap : cap ≤ n → n ≡ tick n
  unfolding tick
  tick_cap h = rw (le-ltb n cap h)

module _ (e : Entry) (n : ℕ) (room : List ℕ) where
  -- a, b, d and last are the room after each of the four pairs
  pub put_in : (a b d last : List ℕ) → n < length room / width → length room < 2 ^ 63 → a ≡ sets room (width * n) (pair_of e.rule)
      → b ≡ sets a (width * n + 2) (pair_of e.place.start) → d ≡ sets b (width * n + 4) (pair_of e.place.len)
      → last ≡ sets d (width * n + 6) (pair_of e.level) → Put (e ∷ []) n room (n + 1) last
  unfolding counted put_all put_one
  put_in a b d last h k p q r t =
      let l : width * n + width ≤ length room = omega arith in
      let f : width * n + 2 + 2 ≡ width * n + 4 = omega arith in
      let g : width * n + 4 + 2 ≡ width * n + 6 = omega arith in
      let level = pair_of e.level in
      let len = pair_of e.place.len in
      let start = pair_of e.place.start in
      let all : sets room (width * n) (entry_octets e) ≡ last
      = sets_append (pair_of e.rule) (start ++ len ++ level) room (width * n)
      ∙ (rw (← p) (sets_append start (len ++ level) a (width * n + 2)
      ∙ rw (← q, f) (sets_append len level b (width * n + 4) ∙ rw (← r, g) (sym t)))) in
      record { count = tick_below n (omega arith); bytes = rw (le-leb (width * n + width) (length room) l) (sym all) }

  pub put_out : (r : ℕ) → length room / width ≤ n → r ≡ tick n → Put (e ∷ []) n room r room
  unfolding counted put_all put_one
  put_out r h t =
      let l : length room < width * n + width = omega arith in
      record { count = t; bytes = rw (lt-leb (width * n + width) (length room) l) }

-- ---- entries, and then others

pub nothing : (n : ℕ) (room : List ℕ) → Put [] n room n room
unfolding counted put_all
nothing n room = record { count = refl; bytes = refl }

-- the place is the element's, the level the rule's
pub entry_made : (rule : ℕ) (h : Head) {place : Place} {level : ℕ} → place ≡ place_from h.at h.end → level ≡ level_number (level_of rule)
    → record { rule = rule; place = place; level = level } ≡ entry_at rule h
entry_made rule h e f = ap₂ (λ (q : Place) (l : ℕ). record { rule = rule; place = q; level = l }) e f

module _ (rule : ℕ) (bad : Bool) (h : Head) where
  pub put_noted : {n r : ℕ} {room last : List ℕ} {e : Entry} → bad ≡ true → e ≡ entry_at rule h → Put (e ∷ []) n room r last
      → Put (noted rule bad h) n room r last
  unfolding noted
  put_noted {n} {r} {room} {last} t q p = rw t (subst (λ (x : Entry). Put (x ∷ []) n room r last) q p)

  pub put_not : (n : ℕ) (room : List ℕ) → bad ≡ false → Put (noted rule bad h) n room n room
  unfolding noted
  put_not n room t = rw t (nothing n room)

counted_behind : (es fs : List Entry) (n : ℕ) → counted (es ++ fs) n ≡ counted fs (counted es n)
unfolding counted
counted_behind [] fs n = refl
counted_behind (e ∷ es) fs n = counted_behind es fs (tick n)

put_behind : (es fs : List Entry) (n : ℕ) (room : List ℕ) → put_all (es ++ fs) n room ≡ put_all fs (counted es n) (put_all es n room)
unfolding counted put_all
put_behind [] fs n room = refl
put_behind (e ∷ es) fs n room = put_behind es fs (tick n) (put_one e n room)

pub ◌⨾◌ : {es fs : List Entry} {n m r : ℕ} {a b d : List ℕ} → Put es n a m b → Put fs m b r d → Put (es ++ fs) n a r d
◌⨾◌ {es} {fs} {n} {m} {r} {a} p q =
    let c = p.count in
    let o = p.bytes in
    record {
      count = rw (counted_behind es fs n) (rw (← c) q.count);
      bytes = rw (put_behind es fs n a) (rw (← c, ← o) q.bytes);
    }

infixr 20 ◌⨾◌
-- ---- the room

one_kept : (e : Entry) (n : ℕ) (room : List ℕ) → length (put_one e n room) ≡ length room
unfolding put_one
one_kept e n room = go (leb (width * n + width) (length room))
  where
    go : (fits : Bool) → length (cond fits (sets room (width * n) (entry_octets e)) room) ≡ length room
    go true = length-sets room (width * n) (entry_octets e)
    go false = refl

all_kept : (es : List Entry) (n : ℕ) (room : List ℕ) → length (put_all es n room) ≡ length room
unfolding put_all
all_kept [] n room = refl
all_kept (e ∷ es) n room = all_kept es (tick n) (put_one e n room) ∙ one_kept e n room

pub room_kept : {es : List Entry} {n r : ℕ} {room last : List ℕ} → Put es n room r last → length last ≡ length room
room_kept {es} {n} {r} {room} p = ap length p.bytes ∙ all_kept es n room

-- ---- loops

-- putting es into room with n entries ends as putting `all` into the room at the start, room₀ with n₀ entries
pub record Rest (es : List Entry) (n : ℕ) (room : List ℕ) (all : List Entry) (n₀ : ℕ) (room₀ : List ℕ) : Type 0 where
  pub count : counted es n ≡ counted all n₀
  pub bytes : put_all es n room ≡ put_all all n₀ room₀

pub rest_start : (es : List Entry) (n : ℕ) (room : List ℕ) → Rest es n room es n room
rest_start es n room = record { count = refl; bytes = refl }

pub rest_step : {es fs all : List Entry} {n m n₀ : ℕ} {a b a₀ : List ℕ} → Rest (es ++ fs) n a all n₀ a₀ → Put es n a m b → Rest fs m b all n₀ a₀
rest_step {es} {fs} {all} {n} {m} {n₀} {a} {b} {a₀} s p =
    let c = p.count in
    let o = p.bytes in
    record {
      count = rw (c, ← counted_behind es fs n) s.count;
      bytes = rw (o, c, ← put_behind es fs n a) s.bytes;
    }

pub rest_last : {es all : List Entry} {n m n₀ : ℕ} {a b a₀ : List ℕ} → Rest es n a all n₀ a₀ → Put es n a m b → Put all n₀ a₀ m b
rest_last s p = record { count = p.count ∙ s.count; bytes = p.bytes ∙ s.bytes }

pub rest_end : {all : List Entry} {n n₀ : ℕ} {a a₀ : List ℕ} → Rest [] n a all n₀ a₀ → Put all n₀ a₀ n a
rest_end s = rest_last s (nothing _ _)

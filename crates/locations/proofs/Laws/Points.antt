-- A distribution point, of which name is what stands first, and full what stands first in that.
--     full_names, http_full_name     the names of a point's full name; whether one of them is an HTTP URI
--     point_full, point_none      full is a full name; it is none
--     names_full, names_none      the names that a point with a full name has, and that one without has
-- Assumes nothing.
use mathlib.Core.Path.{◌≡◌}
use mathlib.Core.List.{List, []}
use mathlib.Core.Bool.{true, false, ◌&&◌, Bool}
use Prim.Native.Nat.{ℕ}
use native.Mathlib.Omega.{arith}
use lib.Dec.{eqb}
use Rattle.locations.specs.Points.{has_full_name, full_name_of}
use Rattle.der.specs.Members.{missing, members_in, first_in}
use Rattle.der.specs.declared.header.Head.{Head}
use Rattle.der.proofs.Laws.Children.{children_done}
use Rattle.locations.specs.Uris.{is_http}
use Rattle.der.specs.Elements.{any_of}

-- the names of a point's full name
abbrev pub full_names : List ℕ → Head → List Head
full_names s h = members_in s (full_name_of s h)

-- 418 "an HTTP URI in some full name": this point's
abbrev pub http_full_name : List ℕ → Head → Bool
http_full_name s h = any_of (is_http s) (full_names s h)

module _ (s : List ℕ) (h name full : Head) (e : name ≡ first_in s h) (f : full ≡ first_in s name) where
  pub point_full : (eqb name.tag 160 && eqb full.tag 160) ≡ true → full ≡ full_name_of s h
  unfolding full_name_of
  point_full t = rw (← e, ← f, t)

  pub point_none : (eqb name.tag 160 && eqb full.tag 160) ≡ false → missing h.end ≡ full_name_of s h
  unfolding full_name_of
  point_none t = rw (← e, ← f, t)

pub names_full : (s : List ℕ) (h : Head) → has_full_name s h ≡ true → full_names s h ≡ members_in s (first_in s (first_in s h))
unfolding full_name_of
names_full s h t = rw t

pub names_none : (s : List ℕ) (h : Head) → has_full_name s h ≡ false → full_names s h ≡ []
unfolding full_name_of
names_none s h t = rw t (children_done s h.end h.end (omega arith))

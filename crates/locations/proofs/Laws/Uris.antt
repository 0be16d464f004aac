-- HTTP URIs.
--     http_read      a name is an HTTP URI by its tag, its length and its first octets
-- Assumes nothing.
use mathlib.Core.Path.{◌≡◌, refl}
use mathlib.Core.List.{List}
use mathlib.Core.Bool.{Bool, true, false, ◌&&◌}
use Prim.Native.Nat.{ℕ, ◌-◌}
use native.Mathlib.Omega.{arith}
use lib.ListN.{take}
use lib.Dec.{ltb}
use borrow.Author.Tests.{ltb-true}
use Rattle.locations.specs.Uris.{is_uri, begins_http, is_http}
use Rattle.texts.specs.Texts.{word}
use Rattle.octets.specs.Octets.{octets_from}
use Rattle.octets.specs.Same.{same_by, lower_case}
use Rattle.octets.proofs.Laws.Octets.{octets_long, octets_whole}
use Rattle.octets.proofs.Laws.Parts.{part_first}
use Rattle.der.specs.declared.header.Head.{Head}

begins_http_lem : (s : List ℕ) (body n : ℕ) → (ltb 7 n && same_by lower_case (octets_from s body 7) (word "http://")) ≡ begins_http (octets_from s body n)
begins_http_lem s body n = rw (octets_long s body n) (go (ltb 7 n) refl)
  where
    go : (t : Bool) → ltb 7 n ≡ t
        → (t && same_by lower_case (octets_from s body 7) (word "http://")) ≡ (t && same_by lower_case (take 7 (octets_from s body n)) (word "http://"))
    go false f = refl
    go true f =
        let l = ltb-true 7 n f in
        rw (part_first s body 7 n (omega arith))

pub http_read : (s : List ℕ) (h : Head) (uri : Bool) (n : ℕ) (same : Bool) → uri ≡ is_uri h → n ≡ h.end - h.body
    → same ≡ same_by lower_case (octets_from s h.body 7) (octets_from (word "http://") 0 7) → (uri && (ltb 7 n && same)) ≡ is_http s h
unfolding word
http_read s h uri n same e f g = rw (e, f, g, octets_whole (word "http://"), begins_http_lem s h.body (h.end - h.body))

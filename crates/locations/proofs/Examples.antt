-- Worked examples of the definitions, by computation. Assumes nothing.
use mathlib.Core.Path.{◌≡◌, refl}
use mathlib.Core.List.{List, [], ◌∷◌, map}
use mathlib.Core.Bool.{true, false}
use Prim.Native.Nat.{ℕ}
use Rattle.locations.specs.Uris.{begins_http}
use Rattle.locations.specs.Access.{http_by}
use Rattle.locations.specs.Points.{is_restricted, full_name_of}
use Rattle.locations.specs.declared.access.Method.TheVariants.{Ocsp, CaIssuers}
use Rattle.locations.proofs.Laws.Points.{http_full_name}
use Rattle.texts.specs.Texts.{word}
use Rattle.octets.specs.Octets.{octets_from}
use Rattle.octets.specs.Same.{same_by}
use Rattle.der.specs.Comparing.{contents_are}
use Rattle.der.specs.Oids.{sevens, subidentifier, subidentifiers, oid}
use Rattle.der.specs.Header.{head_of, children_of, children_by}
use Rattle.der.specs.Elements.{any_of}

pub http : map (λ (text : List ℕ). begins_http text) (word "http://a" ∷ word "HttP://a" ∷ word "http://" ∷ word "https://a" ∷ word
    "ahttp://" ∷ []) ≡ (true ∷ true ∷ false ∷ false ∷ false ∷ [])
unfolding same_by word
http = refl

-- a point with the names that `form` holds: a full name if that is A0
abbrev point : ℕ → List ℕ
point form = 48 ∷ 14 ∷ 160 ∷ 12 ∷ form ∷ 10 ∷ 134 ∷ 8 ∷ word "http://a"

-- a full name, and a relative one; neither is restricted, and a point of reasons alone is
pub points : (http_full_name (point 160) (head_of (point 160) 0 16) ∷ http_full_name (point 161) (head_of (point 161) 0 16) ∷ is_restricted
    (point 160) (head_of (point 160) 0 16) ∷ is_restricted (48 ∷ 4 ∷ 129 ∷ 2 ∷ 7 ∷ 128 ∷ []) (head_of (48 ∷ 4 ∷ 129 ∷ 2 ∷ 7 ∷ 128 ∷ []) 0 6) ∷ [])
    ≡ (true ∷ false ∷ false ∷ true ∷ [])
unfolding full_name_of any_of word head_of children_of children_by octets_from same_by
points = refl

-- an entry by the last arc of its method (1 for OCSP, 2 for caIssuers) and the tag of its location (134 for a URI)
abbrev entry : ℕ → ℕ → List ℕ
entry last tag = 48 ∷ 20 ∷ 6 ∷ 8 ∷ 43 ∷ 6 ∷ 1 ∷ 5 ∷ 5 ∷ 7 ∷ 48 ∷ last ∷ tag ∷ 8 ∷ word "http://a"

-- asked for OCSP: an entry of it, one of the other method, one whose location is a dNSName; asked for caIssuers: an entry of it
pub entries : (http_by (entry 1 134) Ocsp (head_of (entry 1 134) 0 22) ∷ http_by (entry 2 134) Ocsp (head_of (entry 2 134) 0 22) ∷ http_by (entry 1 130)
    Ocsp (head_of (entry 1 130) 0 22) ∷ http_by (entry 2 134) CaIssuers (head_of (entry 2 134) 0 22) ∷ []) ≡ (true ∷ false ∷ false ∷ true ∷ [])
unfolding contents_are same_by word head_of octets_from oid subidentifiers subidentifier sevens
entries = refl

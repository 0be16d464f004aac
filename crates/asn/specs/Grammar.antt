-- What an ASN.1 type is, and where an element departs from one. DER is matched by identifier octets, left to right.
use Rattle.std.specs.Prelude.{Bool, true, false, cond, not, ◌&&◌, ◌||◌, List, [], ◌∷◌, map, is_some, ℕ, ◌/◌, ◌%◌, ◌^◌, eqb, ltb, Ok, Err}
use Rattle.times.specs.Reads.{time_of}
use Rattle.der.specs.Header.{children_of}
use Rattle.der.specs.Contents.{integer_ok, last_of, bits_ok, null_ok, oid_ok, contents_of}
use Rattle.der.specs.Order.{ascending, octets_of}
use Rattle.der.specs.Tags.{utc_time_tag, generalized_time_tag, set_tag, application_class}
use Rattle.der.specs.declared.header.Head.{Head}
use Rattle.asn.specs.declared.fitting.Misfit.TheVariants.{Stranger, Wrong}
use Rattle.asn.specs.declared.fitting.Misfit.{Misfit}
use Rattle.std.specs.declared.result.Result.{Result}

-- tests of contents that are no list of elements
pub data Test : Type 0 where
  free integer natural positive version yes_octet oid bits bits_named nothing utc generalized : Test

mutual
  -- a type: the alternatives of a CHOICE, each by its identifier octet (0 stands for any); most types have one
  pub data Form : Type 0 where
    none : Form
    alt : ℕ → Inside → Form → Form

  -- what an element holds
  pub data Inside : Type 0 where
    leaf : Test → Inside
    parts : Slots → Inside
    set : Slots → Inside

  -- the fields of a SEQUENCE, SET or tag in their order, each once, at most once, or any number of times
  pub data Slots : Type 0 where
    done : Slots
    one : Form → Slots → Slots
    opt : Form → Slots → Slots
    many : Form → Slots → Slots

-- ---- contents

-- one octet, which passes a test
abbrev pub one_octet : (ℕ → Bool) → List ℕ → Bool
one_octet f [] = false
one_octet f (b ∷ []) = f b
one_octet f (b ∷ c ∷ cs) = false

-- "Version, if written, is 1 (v2) or 2 (v3)"
abbrev pub version_ok : List ℕ → Bool
version_ok c = one_octet (λ b. eqb b 1 || eqb b 2) c

-- "if written, is TRUE"
abbrev pub true_ok : List ℕ → Bool
true_ok c = one_octet (λ b. eqb b 255) c

-- INTEGER (0..MAX): its first bit is not set
abbrev pub natural_ok : List ℕ → Bool
natural_ok [] = false
natural_ok (b ∷ bs) = integer_ok (b ∷ bs) && ltb b 128

-- INTEGER (0..MAX) DEFAULT 0, "defaults unwritten": written, it is not 0
abbrev pub positive_ok : List ℕ → Bool
positive_ok c = natural_ok c && not (one_octet (λ b. eqb b 0) c)

-- "named bit lists are empty or end in a set bit": the last bit that is used is 1
abbrev pub named_ok : List ℕ → Bool
named_ok [] = false
named_ok (unused ∷ []) = eqb unused 0
named_ok (unused ∷ b ∷ bs) = bits_ok (unused ∷ b ∷ bs) && eqb (last_of b bs / 2 ^ unused % 2) 1

-- A universal type that bears its own tag was judged with all of DER (refusal 4): the first four tests are for implicit tags.
abbrev pub passes : Test → ℕ → List ℕ → Bool
passes integer tag c = ltb tag application_class || integer_ok c
passes oid tag c = ltb tag application_class || oid_ok c
passes bits tag c = ltb tag application_class || bits_ok c
passes nothing tag c = ltb tag application_class || null_ok c
passes free tag c = true
passes natural tag c = natural_ok c
passes positive tag c = positive_ok c
passes version tag c = version_ok c
passes yes_octet tag c = true_ok c
passes bits_named tag c = named_ok c
passes utc tag c = is_some (time_of utc_time_tag c)
passes generalized tag c = is_some (time_of generalized_time_tag c)

-- ---- an element

-- The members of a SET ascend. A SET that bears its own tag was judged with all of DER (refusal 5).
abbrev pub set_in_order : List ℕ → Head → Bool
set_in_order s h = eqb h.tag set_tag || ascending (map (octets_of s) (children_of s h.body h.end))

-- an identifier octet is the one wanted, or any will do
abbrev pub takes : ℕ → ℕ → Bool
takes wanted tag = eqb wanted 0 || eqb wanted tag

-- what becomes of an element against a type
abbrev pub Verdict : Type 0
Verdict = Result (Unit {0}) Misfit

-- go on by what became of an element: of a stranger with a, of one that fits with b
abbrev pub unless_wrong : Verdict → Verdict → Verdict → Verdict
unless_wrong (Ok _) a b = b
unless_wrong (Err Stranger) a b = a
unless_wrong (Err (Wrong p)) a b = Err (Wrong p)

-- a field that must stand there; `outer` is the start of the enclosing element
abbrev pub required : (Head → Verdict) → (List Head → Verdict) → ℕ → List Head → Verdict
required fit rest outer [] = Err (Wrong outer)
required fit rest outer (h ∷ hs) = unless_wrong (fit h) (Err (Wrong h.at)) (rest hs)

-- a field that may stand there
abbrev pub optional : (Head → Verdict) → (List Head → Verdict) → List Head → Verdict
optional fit rest [] = rest []
optional fit rest (h ∷ hs) = unless_wrong (fit h) (rest (h ∷ hs)) (rest hs)

-- a field that may stand there any number of times
abbrev pub repeated : (Head → Verdict) → (List Head → Verdict) → List Head → Verdict
repeated fit rest [] = rest []
repeated fit rest (h ∷ hs) = unless_wrong (fit h) (rest (h ∷ hs)) (repeated fit rest hs)

-- nothing more may stand there
abbrev pub ended : List Head → Verdict
ended [] = Ok tt
ended (h ∷ hs) = Err (Wrong h.at)

unfoldable mutual
  -- an element against a type: it has another identifier, it fits, or it is wrong at a place
  pub fits : Form → List ℕ → Head → Verdict
  fits none s h = Err Stranger
  fits (alt i x f) s h = cond (takes i h.tag) (holds x s h) (fits f s h)

  pub holds : Inside → List ℕ → Head → Verdict
  holds (leaf t) s h = cond (passes t h.tag (contents_of s h)) (Ok tt) (Err (Wrong h.at))
  holds (parts p) s h = follows p s h.at (children_of s h.body h.end)
  holds (set p) s h = cond (set_in_order s h) (follows p s h.at (children_of s h.body h.end)) (Err (Wrong h.at))

  pub follows : Slots → List ℕ → ℕ → List Head → Verdict
  follows done s outer hs = ended hs
  follows (one f p) s outer hs = required (λ h. fits f s h) (λ hs. follows p s outer hs) outer hs
  follows (opt f p) s outer hs = optional (λ h. fits f s h) (λ hs. follows p s outer hs) hs
  follows (many f p) s outer hs = repeated (λ h. fits f s h) (λ hs. follows p s outer hs) hs

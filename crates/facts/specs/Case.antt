-- What a rule may look at.
use Rattle.std.specs.Prelude.{Bool, ◌&&◌, List, ℕ, get_or}
use Rattle.der.specs.Members.{missing}
use Rattle.der.specs.declared.header.Head.{Head}
use Rattle.certificate.specs.Fields.{certificate_of}
use Rattle.certificate.specs.Extensions.{seen_before}
use Rattle.certificate.specs.Key.{key_of}
use Rattle.certificate.specs.Slots.{empty_slot, slots_of, has_repeats}
use Rattle.certificate.specs.Standing.{Standing, standing_in, over_table, standing_at, standings_by}
use Rattle.certificate.specs.Issuer.{Known, known, issuer_of}
use Rattle.certificate.specs.declared.fields.Certificate.{Certificate}
use Rattle.certificate.specs.declared.key.Key.{Key}
use Rattle.certificate.specs.declared.slots.Slot.{Slot}
use Rattle.facts.specs.declared.Evidence.{Evidence}
use Rattle.facts.specs.declared.Facts.{Facts}

-- A certificate: its octets, its fields and its key; how each extension of the table stands, and which extensions have "an identifier seen before". Of its
-- issuer what counts.
pub record Case : Type 0 where
  pub octets : List ℕ
  pub fields : Certificate
  pub key : Key
  pub table : List Standing
  pub seen : Head → Bool
  pub issuer : Known

-- the case of a certificate whose issuer is known
abbrev pub case_in : List ℕ → Known → Case
case_in s k =
    record {
      octets = s;
      fields = certificate_of s;
      key = key_of s (certificate_of s).key;
      table = over_table (standing_in s (certificate_of s).extensions);
      seen = seen_before s (certificate_of s).extensions.body;
      issuer = k;
    }

-- how the extension in slot k of the table stands
abbrev pub standing_of : Case → ℕ → Standing
standing_of f k = standing_at f.table k

-- ---- as the code has it

unfoldable pub facts_of : List ℕ → List ℕ → Facts
facts_of s issuer =
    record {
      fields = certificate_of s;
      key = key_of s (certificate_of s).key;
      slots = slots_of s (certificate_of s).extensions;
      repeated = has_repeats s (certificate_of s).extensions;
      issuer = issuer_of issuer;
    }

-- what stands in a slot; past the table there is nothing
abbrev pub slot_in : List Slot → ℕ → Slot
slot_in slots k = get_or slots k (empty_slot (missing 0))

-- an identifier was seen before, asked only where some was
abbrev pub seen_by : List ℕ → Head → Bool → Head → Bool
seen_by s list repeated h = repeated && seen_before s list.body h

-- the case that facts say
abbrev pub case_of : List ℕ → Facts → List ℕ → Case
case_of s f issuer =
    record {
      octets = s;
      fields = f.fields;
      key = f.key;
      table = standings_by (slot_in f.slots);
      seen = seen_by s f.fields.extensions f.repeated;
      issuer = known issuer f.issuer;
    }

-- and those with the octets that they were read of
abbrev pub case_by : Evidence → Case
case_by e = case_of e.octets.now e.facts e.issuer.now

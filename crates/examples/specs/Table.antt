-- The examples of document 01, "Examples on the edge", that are marked P, and the deck of "The deck". Each row has the paper's number, what it asks
-- and what it answers.
use Rattle.std.specs.Prelude.{Bool, true, false, List, [], ◌∷◌, ◌++◌, ℕ, length, take, drop, replicate, ℤ, pos, negsuc, Err, Option, Some, None}
use Prim.Native.String.{String}
use Rattle.der.specs.Tags.{octet_string_tag, utc_time_tag, sequence_tag}
use Rattle.der.specs.Header.{head_of}
use Rattle.der.specs.Contents.{contents_of}
use Rattle.der.specs.Integers.{integer_of}
use Rattle.refusals.specs.declared.table.Values.{Values}
use Rattle.texts.specs.Texts.{word}
use Rattle.times.specs.Reads.{time_of}
use Rattle.times.specs.Validity.{date_of}
use Rattle.times.specs.declared.validity.Time.{Time}
use Rattle.times.specs.declared.validity.Validity.{Validity}
use Rattle.der.specs.declared.header.Head.{Head}
use Rattle.profiles.specs.declared.fields.Profile.{Profile}
use Rattle.profiles.specs.declared.fields.Profile.TheVariants.{Domain, Organization}
use Rattle.certificate.specs.declared.key.KeyKind.{KeyKind}
use Rattle.certificate.specs.declared.key.KeyKind.TheVariants.{Rsa, EllipticCurve}
use Rattle.certificate.specs.declared.fields.Certificate.{Certificate}
use Rattle.certificate.specs.Standing.{Standing, by_value}
use Rattle.profiles.specs.Judged.{every_profile}
use Rattle.report.specs.Rows.{Row, ◌for◌⦂◌}
use Rattle.rules_fields.specs.Period.{validity_rows}
use Rattle.rules_extensions.specs.Slots.{rule340}
use Rattle.rules_values.specs.Usage.{usage_rows}
use Rattle.policies.specs.Policies.{is_below, federal_arc}
use Rattle.lint.specs.Refusals.{answer_values}
use Rattle.lint.specs.Answers.{answer_of}
use Rattle.listing.specs.Listing.{printed}
use Rattle.lint.specs.declared.reasons.Refusal.TheVariants.{NotCertificate}
use Rattle.blocks.specs.Block.{block_of}
use Rattle.writer.specs.Cutting.{zero_filled, blocks_of, end_to_end}
use Rattle.reader.specs.Runs.{blocks}
use Rattle.reader.specs.Walking.{Handed, walk}
use Rattle.reader.specs.declared.finding.Loss.TheVariants.{Short, Unsound}
use Rattle.lint.specs.declared.reasons.Side.TheVariants as Sides
use Rattle.reader.specs.declared.stepping.Item.TheVariants as Items

pub data Query : Type 0 where
  -- a certificate, with an issuer's that is none either, in profile 1 and no room: what does the linter answer?
  linted : List ℕ → Query
  -- an INTEGER: which number is it?
  integer : List ℕ → Query
  -- a UTCTime: which year is it in?
  year : String → Query
  -- the two UTCTimes of a validity: which of 109 to 111 does it break in this profile?
  validity : Profile → String → String → Query
  -- the contents of a policy's identifier: is it below the arc of rule 409?
  below : List ℕ → Query
  -- the value of a key usage: which of 344, 404 and 405 does it break in this profile with this kind of key?
  usage : Profile → KeyKind → List ℕ → Query
  -- the octets of a record of this number: which check has its first block?
  check : ℕ → List ℕ → Query
  -- a deck, and a room for the linter: what does stepping through it hand out?
  reading : List ℕ → List ℕ → Query
  -- a deck: what does the program print?
  printing : List ℕ → Query

pub data Reply : Type 0 where
  -- a refusal by number, side and place
  refusal : ℕ → ℕ → ℕ → Reply
  number : ℤ → Reply
  says : Bool → Reply
  -- these rules, and none of the others that were asked about
  breaks : List ℕ → Reply
  octets : List ℕ → Reply
  handed : List Handed → Reply
  -- the question is about something that is none
  senseless : Reply

unfoldable pub year_of : Option Time → Reply
year_of (Some t) = number (pos (date_of t).year)
year_of None = senseless

-- the rules that are broken somewhere
abbrev pub if_broken : ℕ → List Head → List ℕ → List ℕ
if_broken rule [] others = others
if_broken rule (h ∷ hs) others = rule ∷ others

unfoldable pub broken_rules : List Row → List ℕ
broken_rules [] = []
broken_rules (r ∷ rs) = if_broken r.rule r.broken (broken_rules rs)

-- a certificate of this validity, of which nothing else is asked
abbrev pub certificate_with : Validity → Certificate
certificate_with v =
    let h : Head = record { at = 0; tag = sequence_tag; body = 2; end = 2; sound = true } in
    record {
      tbs = h;
      version = h;
      serial = h;
      inner = h;
      issuer = h;
      period = h;
      not_before = h;
      not_after = h;
      subject = h;
      key = h;
      extensions = h;
      outer = h;
      validity = v;
    }

unfoldable pub validity_breaks : Profile → Option Time → Option Time → Reply
validity_breaks p (Some a) (Some b) = breaks (broken_rules (validity_rows p (certificate_with (record { not_before = a; not_after = b }))))
validity_breaks p (Some a) None = senseless
validity_breaks p None b = senseless

-- an OCTET STRING that holds these octets, and key usage, slot 4, with it
abbrev pub held_octets : List ℕ → List ℕ
held_octets value = octet_string_tag ∷ length value ∷ value

abbrev pub usage_standing : List ℕ → Standing
usage_standing s = by_value s 4 (record { place = head_of s 0 (length s); critical = true; value = head_of s 0 (length s) })

abbrev pub usage_breaks : Profile → KeyKind → List ℕ → Reply
usage_breaks p kind s = breaks (broken_rules (344 for every_profile ⦂ rule340 (usage_standing s) ∷ usage_rows p s kind (usage_standing s)))

abbrev pub told_by : Values → Reply
told_by v = refusal v.number v.side v.place

-- what the definitions answer
unfoldable pub answer : Query → Reply
answer (linted s) = told_by (answer_values (answer_of s (0x30 ∷ 0x00 ∷ []) 1 []))
answer (integer s) = number (integer_of (contents_of s (head_of s 0 (length s))))
answer (year text) = year_of (time_of utc_time_tag (word text))
answer (validity p a b) = validity_breaks p (time_of utc_time_tag (word a)) (time_of utc_time_tag (word b))
answer (below s) = says (is_below federal_arc s)
answer (usage p kind value) = usage_breaks p kind (held_octets value)
answer (check k p) = octets (drop 510 (block_of k (length p) 0 (take 502 (zero_filled p))))
answer (reading deck room) = handed (walk (length (blocks deck)) deck 0 room)
answer (printing deck) = octets (printed deck)

pub record Example : Type 0 where
  pub paper : ℕ
  pub asked : Query
  pub answered : Reply

abbrev P : ℕ → Query → Reply → Example
P n q a = record { paper = n; asked = q; answered = a }

-- sound, and its sets in order: of these examples none is a certificate
abbrev sound : Reply
sound = refusal 6 1 0

-- "P12 record 1, data 01 00 02 30 00 30 00"
abbrev p12 : List ℕ
p12 = 0x01 ∷ 0x00 ∷ 0x02 ∷ 0x30 ∷ 0x00 ∷ 0x30 ∷ 0x00 ∷ []

-- "the P12 block, a zero block and 100 more octets"
unfoldable pub p12_deck : List ℕ
p12_deck = end_to_end (blocks_of 1 p12) ++ replicate 612 0

-- "record 1 profile 1 refused 6 side 1 at 0", "lost 1 unsound", "lost 2 short"
abbrev p12_handed : List Handed
p12_handed =
    record {
      position = 0;
      item = Items.Record (record { number = 1; profile = 1; length = 7; answer = Err (NotCertificate Sides.Certificate 0) });
      report = [];
    }
    ∷ record { position = 1; item = Items.Lost Unsound; report = [] }
    ∷ record { position = 2; item = Items.Lost Short; report = [] }
    ∷ []

-- "With input of the P12 block, a zero block and 100 more octets it prints all of this"
abbrev p12_listing : String
p12_listing = "record 1 profile 1 refused 6 side 1 at 0\nlost 1 unsound\nlost 2 short\nrecords 1 blocks 3 lost 2\n"

-- P10 has the values of document 02, CR 2; it and P11 hold for both profiles of S.
unfoldable pub table : List Example
table =
    P 1 (linted (0x30 ∷ 0x00 ∷ [])) (refusal 6 1 0)
    ∷ P 2 (linted (0x30 ∷ 0x81 ∷ 0x00 ∷ [])) (refusal 4 1 0)
    ∷ P 3 (linted (0x30 ∷ 0x80 ∷ 0x00 ∷ 0x00 ∷ [])) (refusal 4 1 0)
    ∷ P 4 (linted (0x30 ∷ 0x00 ∷ 0x00 ∷ [])) (refusal 4 1 0)
    ∷ P 5 (linted (0x02 ∷ 0x02 ∷ 0x00 ∷ 0x7F ∷ [])) (refusal 4 1 0)
    ∷ P 5 (linted (0x02 ∷ 0x02 ∷ 0x00 ∷ 0x80 ∷ [])) sound
    ∷ P 5 (integer (0x02 ∷ 0x02 ∷ 0x00 ∷ 0x80 ∷ [])) (number (pos 128))
    ∷ P 5 (linted (0x02 ∷ 0x01 ∷ 0x80 ∷ [])) sound
    ∷ P 5 (integer (0x02 ∷ 0x01 ∷ 0x80 ∷ [])) (number (negsuc 127))
    ∷ P 6 (linted (0x30 ∷ 0x03 ∷ 0x01 ∷ 0x01 ∷ 0x01 ∷ [])) (refusal 4 1 2)
    ∷ P 7 (linted (0x31 ∷ 0x06 ∷ 0x02 ∷ 0x01 ∷ 0x02 ∷ 0x02 ∷ 0x01 ∷ 0x01 ∷ [])) (refusal 5 1 0)
    ∷ P 8 (below (0x60 ∷ 0x86 ∷ 0x48 ∷ 0x01 ∷ 0x65 ∷ 0x03 ∷ 0x02 ∷ 0x01 ∷ 0x03 ∷ [])) (says false)
    ∷ P 8 (below (0x60 ∷ 0x86 ∷ 0x48 ∷ 0x01 ∷ 0x65 ∷ 0x03 ∷ 0x02 ∷ 0x01 ∷ 0x03 ∷ 0x0D ∷ [])) (says true)
    ∷ P 9 (year "491231235959Z") (number (pos 2049))
    ∷ P 9 (year "500101000000Z") (number (pos 1950))
    ∷ P 10 (validity Domain "240101000000Z" "250129235959Z") (breaks [])
    ∷ P 10 (validity Domain "240101000000Z" "250130000000Z") (breaks (111 ∷ []))
    ∷ P 10 (validity Organization "240101000000Z" "250129235959Z") (breaks [])
    ∷ P 10 (validity Organization "240101000000Z" "250130000000Z") (breaks (111 ∷ []))
    ∷ P 11 (usage Domain Rsa (0x03 ∷ 0x02 ∷ 0x05 ∷ 0xA0 ∷ [])) (breaks [])
    ∷ P 11 (usage Domain EllipticCurve (0x03 ∷ 0x02 ∷ 0x05 ∷ 0xA0 ∷ [])) (breaks (405 ∷ []))
    ∷ P 11 (usage Organization Rsa (0x03 ∷ 0x02 ∷ 0x05 ∷ 0xA0 ∷ [])) (breaks [])
    ∷ P 11 (usage Organization EllipticCurve (0x03 ∷ 0x02 ∷ 0x05 ∷ 0xA0 ∷ [])) (breaks (405 ∷ []))
    ∷ P 11 (usage Domain Rsa (0x03 ∷ 0x02 ∷ 0x00 ∷ 0x80 ∷ [])) (breaks (344 ∷ []))
    ∷ P 11 (usage Organization EllipticCurve (0x03 ∷ 0x02 ∷ 0x00 ∷ 0x80 ∷ [])) (breaks (344 ∷ []))
    ∷ P 12 (check 1 p12) (octets (0x05 ∷ 0x2E ∷ []))
    ∷ P 12 (reading p12_deck []) (handed p12_handed)
    ∷ P 12 (printing p12_deck) (octets (word p12_listing))
    ∷ []

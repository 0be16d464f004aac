-- S6: "A record written to the deck reads back as it was" (document 00, demand 2).
--     parts_taken        the parts of a record's octets at the front of a buffer
--     event_read         where a record stands, the step hands it out, and it is taken as it was
--     blocks_stand       where the blocks of a record stand behind whole blocks, that record stands
--     reads_back         what the writer left in its room, in a deck behind whole blocks
-- Assumes nothing.
use mathlib.Core.Path.{◌≡◌, refl, ap, ◌∙◌}
use mathlib.Core.Logic.{◌≢◌}
use mathlib.Core.List.{List, ◌∷◌, ◌++◌, append_assoc}
use Prim.Native.Nat.{ℕ, ◌+◌, ◌*◌, ◌^◌, ◌<◌}
use native.Mathlib.Omega.{arith}
use lib.ListN.{length, take, drop, length-append}
use lib.Seq.{take_at, drop_at}
use Rattle.std.specs.Prelude.{Result, Ok}
use Rattle.recovery.specs.Submitted.{Submitted, submitted_octets, Writable}
use Rattle.recovery.specs.Statements.{AsItWas, ReadAgain, ReadsBack}
use Rattle.octets.specs.Octets.{octet_at}
use Rattle.octets.specs.Numbers.{pair_of}
use Rattle.blocks.specs.Record.{record_of}
use Rattle.blocks.proofs.Laws.Record.{record_length_lem, record_cut}
use Rattle.writer.specs.Cutting.{blocks_of, end_to_end}
use Rattle.writer.proofs.Laws.Cutting.{blocks_long, blocks_length}
use Rattle.writer.proofs.Laws.Answers.{taken_only}
use Rattle.writer.proofs.Laws.Statements.{rest_kept}
use Rattle.reader.specs.Runs.{blocks, from}
use Rattle.reader.specs.Events.{Event, record_at}
use Rattle.reader.specs.Stepping.{item_of, room_after, event_at}
use Rattle.reader.specs.declared.taking.Layout.{Layout}
use Rattle.reader.specs.declared.taking.NotTaken.{NotTaken}
use Rattle.reader.proofs.Laws.Walking.{item_is, room_is}
use Rattle.reader.proofs.Laws.Taking.{taken_event}
use Rattle.recovery.proofs.Laws.Taken.{Proper, certificate_short, proper, linted, linted_room_lem}
use Rattle.recovery.proofs.Laws.Written.{first_number, blocks_start, blocks_record}
use Rattle.recovery.proofs.Laws.Decks.{end_to_end_blocks, past_whole}
use Rattle.reader.specs.declared.stepping.Item.TheVariants as Items

-- ---- the parts of a record's octets

module _ (number : ℕ) (s : Submitted) (buffer : List ℕ) (r : Result Layout NotTaken) (last : List ℕ) where
  abbrev head : List ℕ
  head = s.profile ∷ pair_of (length s.certificate)

  abbrev behind : List ℕ
  behind = drop (length (submitted_octets s)) buffer

  module _ (e : last ≡ submitted_octets s ++ behind) where
    in_parts : last ≡ head ++ (s.certificate ++ (s.issuer ++ behind))
    unfolding record_of
    in_parts = e ∙ ap (λ (l : List ℕ). head ++ l) (append_assoc s.certificate s.issuer behind)

    pub parts_taken : r ≡ Ok (record { number = number; length = length (submitted_octets s); certificate = length s.certificate })
        → AsItWas number s buffer r last
    parts_taken told =
        let c : ℕ = length s.certificate in
        let n : ℕ = 3 + c + length s.issuer in
        let long : length (submitted_octets s) ≡ n = record_length_lem s.profile s.certificate s.issuer in
        let before : length (head ++ s.certificate) ≡ 3 + c = omega (arith, length-append head s.certificate) in
        record {
          told = told;
          profile = ap (λ (l : List ℕ). octet_at l 0) in_parts;
          certificate = ap (λ (l : List ℕ). take c (drop 3 l)) in_parts ∙ take_at s.certificate (s.issuer ++ behind) c refl;
          issuer =
              ap (λ (l : List ℕ). take (length s.issuer) (drop (3 + c) l)) in_parts
              ∙ ap (λ (l : List ℕ). take (length s.issuer) l) (drop_at (head ++ s.certificate) (s.issuer ++ behind) (3 + c) before)
              ∙ take_at s.issuer behind (length s.issuer) refl;
          rest =
              ap (λ (l : List ℕ). drop n l) e
              ∙ drop_at (submitted_octets s) behind n long
              ∙ ap (λ (m : ℕ). drop m buffer) long;
        }

-- ---- a record that stands at a position

event_read : (number : ℕ) (s : Submitted) → Writable s → (deck : List ℕ) (position : ℕ) → 512 * position < length deck
    → event_at deck position ≡ record_at position number (submitted_octets s) → ReadAgain number s deck position
event_read number s w deck position inside e =
    record {
      answered = λ lent last r step. (
        step.told ∙ item_is deck position inside lent ∙ ap (λ (x : Event). item_of lent x) e ∙ ap Items.Record (linted s w number lent),
        step.bytes ∙ room_is deck position inside lent ∙ ap (λ (x : Event). room_after lent x) e ∙ linted_room_lem s w lent,
      );
      taken = λ buffer last r room take.
          let p : List ℕ = submitted_octets s in
          let both = taken_event deck position buffer number p e (omega (arith, record_length_lem s.profile s.certificate s.issuer)) r last take in
          parts_taken number s buffer r last both.1
          (both.0
          ∙ ap (λ (c : ℕ). Ok (record { number = number; length = length p; certificate = c }))
          (record_cut s.profile s.certificate s.issuer (certificate_short s w)));
    }

run_event : (number : ℕ) (p : List ℕ) → 0 < number → number < 2 ^ 32 → Proper p → (deck : List ℕ) (position : ℕ) (rest : List (List ℕ))
    → from deck position ≡ blocks_of number p ++ rest → event_at deck position ≡ record_at position number p
run_event number p h₀ hnumber ok deck position rest e =
    rw (e, blocks_start p ok number h₀ hnumber rest, first_number p ok number h₀ hnumber rest, blocks_record p ok number h₀ hnumber rest)

blocks_stand : (number : ℕ) (p : List ℕ) → 0 < number → number < 2 ^ 32 → Proper p → (before after : List ℕ) (position : ℕ)
    → length before ≡ 512 * position
    → (512 * position < length (before ++ (end_to_end (blocks_of number p) ++ after)))
    × (event_at (before ++ (end_to_end (blocks_of number p) ++ after)) position ≡ record_at position number p)
blocks_stand number p h₀ hnumber ok before after position h =
    let bs : List (List ℕ) = blocks_of number p in
    let short : length p < 65536 = omega (arith, ok.most) in
    let inside : 512 * position < length (before ++ (end_to_end bs ++ after)) =
    omega (arith, blocks_length p number hnumber short, ok.least, length-append before (end_to_end bs ++ after), length-append (end_to_end bs) after) in (
      inside,
      run_event number p h₀ hnumber ok (before ++ (end_to_end bs ++ after)) position (blocks after)
          (past_whole before (end_to_end bs ++ after) position h ∙ end_to_end_blocks bs after (blocks_long p number hnumber short)),
    )

pub reads_back : (number : ℕ) (s : Submitted) → ReadsBack number s
reads_back number s count position room before after e h hnumber =
    let t = taken_only number s.profile s.certificate s.issuer room count e in
    let w : Writable s = record { for = t.for; admitted = t.admitted } in
    let some : number ≢ 0 = t.numbered in
    let deck : List ℕ = before ++ (end_to_end (blocks_of number (submitted_octets s)) ++ after) in
    let stand = blocks_stand number (submitted_octets s) (omega arith) hnumber (proper s w) before after position h in
    rw (rest_kept number s.profile s.certificate s.issuer room count hnumber e).front (event_read number s w deck position stand.0 stand.1)

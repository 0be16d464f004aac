-- What is fetched from a position on.
--     puts_octets, puts_none             octets that go into a buffer, or do not
--     side_certificate, side_issuer      where the sides stand in a record
--     is_taken, Held, held                     that a record was taken to the desk, and all that is known of it
--     here, past_record, past_lost, at_end     the records of a number from a position on, by what is found there
--     first_put                          the first of them
--     search_found, search_ended         the answer where the search stops
-- Assumes nothing.
use mathlib.Core.Path.{◌≡◌, refl, sym, ap, ap₂, ◌∙◌}
use mathlib.Core.Logic.{⊎_elim}
use mathlib.Core.List.{List, [], ◌∷◌, ◌++◌}
use Prim.Native.Nat.{ℕ, ◌+◌, ◌-◌, ◌*◌, ◌≤◌, ◌<◌}
use native.Mathlib.Omega.{arith}
use Rattle.std.specs.Prelude.{Some, None, Result, Ok, Err, IsOk}
use lib.ListN.{length, take, drop, length-append, length-drop}
use lib.Seq.{take_at, length-take-le}
use borrow.Author.Tests.{le-leb, lt-leb, eq-eqb, ne_eqb}
use Rattle.retrieval.specs.Fetching.{written_side, numbered, no_room, FetchedFirst}
use Rattle.retrieval.specs.Workings.Fetching.{PutOctets}
use Rattle.retrieval.specs.declared.Fetched.{Fetched}
use Rattle.retrieval.specs.declared.NoRoom.{NoRoom}
use Rattle.octets.specs.Copying.{copied}
use Rattle.blocks.specs.Record.{parts, certificate_length, certificate_octets, issuer_octets}
use Rattle.blocks.proofs.Laws.Logic.{below_or_not}
use Rattle.lint.specs.declared.reasons.Side.{Side}
use Rattle.reader.specs.Runs.{from, first_block, record_from}
use Rattle.reader.specs.Events.{Event, record_at, lost_at, loss_of, events_from}
use Rattle.reader.specs.Finding.{found_at, blocks_in}
use Rattle.reader.specs.Taking.{layout_of, TakenRecord}
use Rattle.reader.specs.declared.finding.Loss.{Loss}
use Rattle.reader.specs.declared.finding.Found.{Found}
use Rattle.reader.specs.declared.taking.Layout.{Layout}
use Rattle.reader.specs.declared.taking.NotTaken.{NotTaken}
use Rattle.reader.proofs.Laws.Found.{Start, start_of, found_none}
use Rattle.reader.proofs.Laws.Counts.{reads_on, ends}
use Rattle.reader.proofs.Laws.Stepping.{cut_on_desk, on_certificate_lem, on_issuer_lem}
use Rattle.reader.proofs.Laws.Taking.{front_room, front_none, copied_front, event_record, event_none, start_long, start_cut, taken_event}
use Rattle.reader.specs.declared.finding.Found.TheVariants as Founds

-- ---- octets into a buffer

module _ (octets : List ℕ) (at n next : ℕ) (out : List ℕ) (inside : at + n ≤ length octets) where
  abbrev s : List ℕ
  s = take n (drop at octets)

  long : length s ≡ n
  long = length-take-le n (drop at octets) (simp length-drop (omega arith))

  pub puts_octets : n ≤ length out → (last : List ℕ) → last ≡ copied octets at n out 0 → PutOctets s next out (Ok (record { length = n; next = next })) last
  puts_octets h last copy =
      record {
        told = rw (long, le-leb n (length out) h);
        bytes =
            copy ∙ copied_front octets at n out inside h ∙ ap (λ (m : ℕ). s ++ drop m out) (sym long) ∙ sym (front_room s out (omega (arith, long)));
      }

  pub puts_none : length out < n → PutOctets s next out (Err no_room) out
  puts_none h = record { told = rw (long, lt-leb n (length out) h); bytes = sym (front_none s out (omega (arith, long))) }

-- ---- the sides of a record

module _ (octets : List ℕ) (n c : ℕ) (e : c ≡ certificate_length (take n octets)) (h : 3 + c ≤ n) (k : n ≤ length octets) where
  pub side_certificate : take c (drop 3 octets) ≡ certificate_octets (take n octets)
  side_certificate =
      let m : 3 + c - 3 ≡ c = omega arith in
      sym (on_certificate_lem octets n (3 + c) (ap (λ (i : ℕ). 3 + i) (e ∙ cut_on_desk octets n (omega arith))) h k
      ∙ ap (λ (i : ℕ). take i (drop 3 octets)) m)

  pub side_issuer : take (n - (3 + c)) (drop (3 + c) octets) ≡ issuer_octets (take n octets)
  side_issuer = sym (on_issuer_lem octets n (3 + c) (ap (λ (i : ℕ). 3 + i) (e ∙ cut_on_desk octets n (omega arith))) h k)

-- ---- a record on the desk

pub record Held (d : List ℕ) (i n : ℕ) (desk : List ℕ) (layout : Layout) : Type 0 where
  pub front : take n desk ≡ record_from (from d i)
  pub cut : layout.certificate ≡ certificate_length (take n desk)
  pub fits : 3 + layout.certificate ≤ n
  pub enough : n ≤ length desk
  pub within : 512 * (i + parts n) ≤ length d

module _ (d : List ℕ) (i number n : ℕ) (f : found_at d i ≡ Founds.Record number n) (desk₀ : List ℕ) (long : length desk₀ ≡ 16387) (r : Result Layout NotTaken)
    (desk : List ℕ) (t : TakenRecord d i desk₀ r desk) where
  abbrev p : List ℕ
  p = record_from (from d i)

  start : Start d i number n
  start = start_of d i number n f

  taken : (r ≡ Ok (layout_of number p)) × (desk ≡ p ++ drop (length p) desk₀)
  taken =
      taken_event d i desk₀ number p (event_record d i number n start) (omega (arith, start_long d i number n start, start.most)) r desk t

  pub held : (layout : Layout) → r ≡ Ok layout → Held d i n desk layout
  held layout e =
      let same : layout ≡ layout_of number p = cc taken.0 in
      let size : length p ≡ n = start_long d i number n start in
      let front : take n desk ≡ p = ap (λ (l : List ℕ). take n l) taken.1 ∙ take_at p (drop (length p) desk₀) n size in
      let cut : layout.certificate ≡ certificate_length p = ap (λ (l : Layout). l.certificate) same in
      record {
        front = front;
        cut = cut ∙ ap certificate_length (sym front);
        fits = omega (arith, start_cut d i number n start);
        enough = rw (taken.1, length-append) (omega arith);
        within = start.whole;
      }

  pub is_taken : IsOk r
  is_taken = rw taken.0

-- ---- the records of a number from a position on

module _ (d : List ℕ) (i : ℕ) where
  reads_record : (other n : ℕ) → found_at d i ≡ Founds.Record other n
      → events_from d i ≡ record_at i other (record_from (from d i)) ∷ events_from d (i + parts n)
  reads_record other n f =
      let start : Start d i other n = start_of d i other n f in
      reads_on d i start.inside
      ∙ ap₂ (λ (e : Event) (es : List Event). e ∷ es) (event_record d i other n start) (ap (λ (x : Found). events_from d (i + blocks_in x)) f)

  module _ (loss : Loss) (f : found_at d i ≡ Founds.Lost loss) where
    pub lost_inside : 512 * i < length d
    lost_inside =
        ⊎_elim
        (λ (h : 512 * i < length d). h)
        (λ (h : length d ≤ 512 * i). absurd (let z : ◌≡◌ {A = ℕ} 0 1 = cc (found_none d i h) in omega arith))
        (below_or_not (512 * i) (length d))

    reads_lost : events_from d i ≡ lost_at i (loss_of (first_block (from d i))) ∷ events_from d (i + 1)
    reads_lost =
        reads_on d i lost_inside
        ∙ ap₂ (λ (e : Event) (es : List Event). e ∷ es)
        (event_none d i (λ number n g. let z : ◌≡◌ {A = ℕ} 0 1 = cc in omega arith))
        (ap (λ (x : Found). events_from d (i + blocks_in x)) f)

  module _ (number : ℕ) where
    pub here : (n : ℕ) → found_at d i ≡ Founds.Record number n
        → numbered number (events_from d i) ≡ record_at i number (record_from (from d i)) ∷ numbered number (events_from d (i + parts n))
    here n f = ap (λ (es : List Event). numbered number es) (reads_record number n f) ∙ rw (eq-eqb number number refl)

    pub past_record : (other n : ℕ) → (other ≡ number → ⊥) → found_at d i ≡ Founds.Record other n
        → numbered number (events_from d i) ≡ numbered number (events_from d (i + parts n))
    past_record other n h f = ap (λ (es : List Event). numbered number es) (reads_record other n f) ∙ rw (ne_eqb other number h)

    pub past_lost : (loss : Loss) → found_at d i ≡ Founds.Lost loss → numbered number (events_from d i) ≡ numbered number (events_from d (i + 1))
    past_lost loss f = ap (λ (es : List Event). numbered number es) (reads_lost loss f)

    pub at_end : found_at d i ≡ Founds.End → numbered number (events_from d i) ≡ []
    at_end f = rw (ends d i f)

-- ---- the first of them

module _ (d : List ℕ) (i number n : ℕ) (f : found_at d i ≡ Founds.Record number n) (side : Side) (out : List ℕ) (r : Result Fetched NoRoom) (last : List ℕ)
  where
    pub first_put : PutOctets (written_side side (record_from (from d i))) (i + parts n) out r last
        → FetchedFirst (numbered number (events_from d i)) side out (Some r) last
    first_put h =
        let size : length (record_from (from d i)) ≡ n = start_long d i number n (start_of d i number n f) in
        rw (here d i number n f) (record { told = rw size (ap Some h.told); bytes = h.bytes })

-- the answer where the search stops, at a position from which on the records are those from the start on, and the buffer is as it was
module _ (d : List ℕ) (i number : ℕ) (es : List Event) (same : numbered number (events_from d i) ≡ es) (side : Side) (out₀ out : List ℕ)
    (kept : out ≡ out₀) where
  pub search_found : (other n : ℕ) → found_at d i ≡ Founds.Record other n → other ≡ number → (r : Result Fetched NoRoom) (last : List ℕ)
      → PutOctets (written_side side (record_from (from d i))) (i + parts n) out r last → FetchedFirst es side out₀ (Some r) last
  search_found other n f e r last h = rw (← same, ← kept) (first_put d i number n (rw e at f) side out r last h)

  pub search_ended : found_at d i ≡ Founds.End → FetchedFirst es side out₀ None out
  search_ended f = rw (← same, at_end d i number f) (record { told = refl; bytes = kept })

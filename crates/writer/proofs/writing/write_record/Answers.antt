-- `writer::writing::write_record` meets its contract: each refusal is the first that applies, by the tests passed before it. Assumes nothing.
use mathlib.Core.Path.{◌≡◌, refl, sym, ap, ◌∙◌}
use Prim.Native.Nat.{ℕ, ◌+◌, ◌≤◌}
use native.Mathlib.Omega.{arith}
use lib.ListN.{length}
use mathlib.Core.List.{List}
use Rattle.std.specs.Prelude.{Ok, Err}
use Rattle.std.proofs.lemmas.Result.{err_from_is_err_and}
use Rattle.writer.specs.declared.reasons.NotWritten.TheVariants.{Inadmissible, NoNumber, NoRoom}
use Rattle.profiles.specs.declared.fields.Profile.{Profile}
use Rattle.lint.specs.Judging.{admission_of}
use Rattle.lint.proofs.Laws.Accepted.{admitted_certificate, admitted_issuer}
use Rattle.blocks.specs.Record.{record_of, parts}
use Rattle.blocks.proofs.Laws.Record.{record_length_lem}
use Rattle.writer.proofs.Laws.Answers.{answered}
use Rattle.writer.proofs.Laws.Statements.{refused_first, refused_number, refused_room, taken}
use Rattle.writer.proofs.writing.write_record.Goals as goal

-- the sides of an admitted record are short
short : (certificate issuer profile : ℕ) (p : Profile) → Ok p ≡ admission_of certificate issuer profile → (certificate ≤ 8192) × (issuer ≤ 8192)
short certificate issuer profile p e = ((admitted_certificate _ _ _ p (sym e)).1, (admitted_issuer _ _ _ p (sym e)).1)

-- the count is that of the record's parts
counted : (profile count : ℕ) (certificate issuer : List ℕ) → count ≡ parts (3 + length certificate + length issuer)
    → count ≡ parts (length (record_of profile certificate issuer))
counted profile count certificate issuer e = e ∙ ap parts (sym (record_length_lem profile certificate issuer))

pub returns-in_err-admit : goal.returns-in_err-admit
returns-in_err-admit c =
    let a = c.args in
    let p = err_from_is_err_and c.from_residual.result c.from_residual.ensures.1 in
    rw (p.1, p.2)
    (answered a.number a.profile a.certificate.now a.issuer.now a.room.now (Err (Inadmissible _)) a.room.now
    (refused_first a.number a.profile a.certificate.now a.issuer.now a.room.now _ (sym c.in_err-admit.ensures))
    refl)

pub returns-then-number-eq0 : goal.returns-then-number-eq0
returns-then-number-eq0 c =
    let a = c.args in
    answered a.number a.profile a.certificate.now a.issuer.now a.room.now (Err NoNumber) a.room.now
    (refused_number a.number a.profile a.certificate.now a.issuer.now a.room.now _ (sym c.in_ok-admit.ensures) c.if-number-eq0.true)
    refl

pub overflow_add-certificate-2 : goal.overflow_add-certificate-2
overflow_add-certificate-2 c = omega (arith, short _ _ _ _ c.in_ok-admit.ensures)

pub overflow_mul-count : goal.overflow_mul-count
overflow_mul-count c = omega (arith, c.parts_of-count.ensures, short _ _ _ _ c.in_ok-admit.ensures)

pub returns-then-room-count : goal.returns-then-room-count
returns-then-room-count c =
    let a = c.args in
    answered a.number a.profile a.certificate.now a.issuer.now a.room.now (Err NoRoom) a.room.now
    (refused_room a.number a.profile a.certificate.now a.issuer.now a.room.now _ (sym c.in_ok-admit.ensures)
    c.if-number-eq0.false (rw (← counted a.profile _ a.certificate.now a.issuer.now c.parts_of-count.ensures) c.if-room-count.true))
    refl

pub put_record-requires : goal.put_record-requires
put_record-requires c =
    let a = c.args in
    let s = short _ _ _ _ c.in_ok-admit.ensures in
    (s.0, s.1, counted a.profile _ a.certificate.now a.issuer.now c.parts_of-count.ensures, c.if-room-count.false)

pub returns : goal.returns
returns c =
    let a = c.args in
    let e = counted a.profile _ a.certificate.now a.issuer.now c.parts_of-count.ensures in
    answered a.number a.profile a.certificate.now a.issuer.now a.room.now (Ok c.parts_of-count.result) _
    (taken a.number a.profile a.certificate.now a.issuer.now a.room.now _ (sym c.in_ok-admit.ensures)
    c.if-number-eq0.false (rw (← e) c.if-room-count.false)
    ∙ ap Ok (sym e))
    c.put_record.ensures

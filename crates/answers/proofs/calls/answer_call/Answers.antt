-- The room where the frame is too short for its own lengths, where it asks for more room than there is, and where the call is made.
use Rattle.std.proofs.Common.{◌≡◌, ◌∙◌, ap, ℕ, List, arith}
use Rattle.lint.specs.Answers.{room_of}
use Rattle.answers.specs.Rooms.{fresh_room, size_in, framed_certificate, framed_issuer, room_around}
use Rattle.answers.proofs.Laws.Lending.{too_short, too_wide, lends}
use Rattle.answers.proofs.calls.answer_call.Goals as goal

pub returns-then-frame-cut : goal.returns-then-frame-cut
returns-then-frame-cut g c = too_short c.args.frame.now 0 _ _ (omega (arith, c.if-frame-cut.true, c.pair-cut.ensures.0))

pub returns-then-room-size : goal.returns-then-room-size
returns-then-room-size g c =
    let asked : c.number-size.result ≡ size_in c.args.frame.now 0 = c.number-size.ensures in
    too_wide c.args.frame.now 0 _ _ (omega (arith, c.if-frame-cut.false, c.pair-cut.ensures.0)) (omega (arith, c.if-room-size.true, asked))

pub returns : goal.returns
returns g c =
    let frame : List ℕ = c.args.frame.now in
    let room : List ℕ = c.args.room.now in
    let profile : ℕ = c.octet-profile.result in
    lends frame 0 c.pair-cut.result c.number-size.result c.pair-cut.ensures.0 c.number-size.ensures (omega arith) room (omega arith)
    (λ certificate issuer lent. room_of certificate issuer profile lent) _ c.call_linter.ensures
    ∙ ap (λ (p : ℕ). room_around frame 0 (room_of (framed_certificate frame 0) (framed_issuer frame 0) p (fresh_room (size_in frame 0))) room)
    c.octet-profile.ensures

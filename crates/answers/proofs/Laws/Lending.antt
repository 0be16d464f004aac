-- A part of the room that is lent to a call.
--     too_short     not where the frame is too short for its own lengths
--     too_wide      not where it asks for more room than there is
--     lends         else the front of the room, where the call gets what stands in the frame
-- Assumes nothing.
use mathlib.Core.Path.{◌≡◌, ap, ap₂, ◌∙◌}
use mathlib.Core.List.{List, ◌++◌}
use Prim.Native.Nat.{ℕ, ◌+◌, ◌-◌, ◌≤◌, ◌<◌}
use native.Mathlib.Omega.{arith}
use lib.ListN.{length, take, drop, length-drop}
use lib.Seq.{take_all, length-take-le}
use borrow.Author.Tests.{le-leb, lt-leb}
use Rattle.answers.specs.Rooms.{fresh_room, size_in, cut_in, framed_certificate, framed_issuer, room_around}
use Rattle.octets.specs.Numbers.{pair_at}

module _ (frame : List ℕ) (at : ℕ) (used room : List ℕ) where
  pub too_short : length frame < cut_in frame at → room ≡ room_around frame at used room
  unfolding room_around
  too_short h = rw (lt-leb _ _ h)

  module _ (h : cut_in frame at ≤ length frame) where
    pub too_wide : length room < size_in frame at → room ≡ room_around frame at used room
    unfolding room_around
    too_wide l = rw (le-leb _ _ h, lt-leb _ _ l)

    lent : size_in frame at ≤ length room → used ++ drop (size_in frame at) room ≡ room_around frame at used room
    unfolding room_around
    lent l = rw (le-leb _ _ h, le-leb _ _ l)

-- what was read of the frame: the certificate's length k, and the room's n
module _ (frame : List ℕ) (at k n : ℕ) (long : k ≡ pair_at frame (at + 4)) (wide : n ≡ size_in frame at) (h : at + 6 + k ≤ length frame) where
  certificate_in : take (at + 6 + k - (at + 6)) (drop (at + 6) frame) ≡ framed_certificate frame at
  certificate_in =
      let e : at + 6 + k - (at + 6) ≡ pair_at frame (at + 4) = omega (arith, long) in
      ap (λ (m : ℕ). take m (drop (at + 6) frame)) e

  issuer_in_lem : take (length frame - (at + 6 + k)) (drop (at + 6 + k) frame) ≡ framed_issuer frame at
  issuer_in_lem =
      take_all (length frame - (at + 6 + k)) (drop (at + 6 + k) frame) (omega (arith, length-drop (at + 6 + k) frame))
      ∙ ap (λ (m : ℕ). drop (at + 6 + m) frame) long

  module _ (room : List ℕ) (l : n ≤ length room) (call : List ℕ → List ℕ → List ℕ → List ℕ) (last : List ℕ) where
    pub lends :
        last ≡ call (take (at + 6 + k - (at + 6)) (drop (at + 6) frame)) (take (length frame - (at + 6 + k)) (drop (at + 6 + k) frame))
        (fresh_room (length (take n room)))
        → last ++ drop n room ≡ room_around frame at (call (framed_certificate frame at) (framed_issuer frame at) (fresh_room (size_in frame at))) room
    lends e =
        let size : length (take n room) ≡ size_in frame at = length-take-le n room l ∙ wide in
        let used : last ≡ call (framed_certificate frame at) (framed_issuer frame at) (fresh_room (size_in frame at)) =
        e ∙ (λ i. call (certificate_in i) (issuer_in_lem i) (fresh_room (size i))) in
        ap₂ (λ (x : List ℕ) (m : ℕ). x ++ drop m room) used wide ∙ lent frame at _ room (omega (arith, long)) (omega (arith, wide))

-- Rules 110 and 111 to the second (document 02, CR 2), in every profile.
--     not_later          a notAfter that is not after notBefore is within every limit
--     broken_from        111 is broken exactly by a notAfter at which the limit is over, or later
--     reversed_alone     a validity whose times stand the wrong way round breaks 110 and not 111
--     equal_keeps        one whose times are the same breaks neither
-- Assumes nothing.
use mathlib.Core.Path.{◌≡◌, refl, ap, ◌∙◌}
use mathlib.Core.Bool.{true, not}
use mathlib.Core.List.{[], ◌∷◌}
use Prim.Native.Nat.{ℕ, ◌+◌, ◌*◌, ◌≤◌, ◌<◌}
use native.Mathlib.Omega.{arith}
use lib.Dec.{ltb}
use borrow.Author.Tests.{ltb-true, lt-ltb, le-ltb}
use Rattle.times.specs.Calendar.{seconds_of}
use Rattle.times.specs.Anniversary.{anniversary_of}
use Rattle.times.specs.Validity.{date_of, moment_of, reversed_of}
use Rattle.times.specs.declared.validity.Time.{Time}
use Rattle.times.specs.declared.validity.Validity.{Validity}
use Rattle.times.proofs.Laws.Anniversary.{anniversary_later}
use Rattle.times.proofs.Laws.Validity.{days_end}
use Rattle.profiles.specs.Fields.{limit_of}
use Rattle.profiles.specs.declared.fields.Limit.{Limit}
use Rattle.profiles.specs.declared.fields.Limit.TheVariants.{Days, Years}
use Rattle.profiles.specs.declared.fields.Profile.{Profile}
use Rattle.profiles.proofs.Laws.Limits.{Positive, limit_positive}
use Rattle.certificate.specs.declared.fields.Certificate.{Certificate}
use Rattle.report.specs.Rows.{broken_at}
use Rattle.rules_fields.specs.Period.{within_limit, rule110, rule111}

-- the first second that a validity from this time on may not reach
abbrev pub limit_ends : Time → Limit → ℕ
limit_ends start (Days days) = moment_of start + 86400 * days
limit_ends start (Years years) = seconds_of (anniversary_of years (date_of start))

-- ---- limits

within_end : (v : Validity) (limit : Limit) → within_limit v limit ≡ ltb (moment_of v.not_after) (limit_ends v.not_before limit)
within_end v (Days days) = days_end v days
within_end v (Years years) = refl

starts_within : (start : Time) (limit : Limit) → Positive limit → moment_of start < limit_ends start limit
unfolding moment_of
starts_within start (Days days) h = omega arith
starts_within start (Years years) h = anniversary_later years (date_of start) h

pub not_later : (v : Validity) (limit : Limit) → Positive limit → moment_of v.not_after ≤ moment_of v.not_before → within_limit v limit ≡ true
not_later v limit some h =
    let k = starts_within v.not_before limit some in
    within_end v limit ∙ lt-ltb (moment_of v.not_after) (limit_ends v.not_before limit) (omega (arith, h, k))

-- ---- the rules

pub broken_from : (p : Profile) (c : Certificate)
    → rule111 p c ≡ broken_at (not (ltb (moment_of c.validity.not_after) (limit_ends c.validity.not_before (limit_of p)))) c.period
broken_from p c = ap (λ t. broken_at (not t) c.period) (within_end c.validity (limit_of p))

kept : (p : Profile) (c : Certificate) → moment_of c.validity.not_after ≤ moment_of c.validity.not_before → rule111 p c ≡ []
unfolding broken_at
kept p c h = ap (λ t. broken_at (not t) c.period) (not_later c.validity (limit_of p) (limit_positive p) h)

pub reversed_alone : (p : Profile) (c : Certificate) → reversed_of c.validity ≡ true → (rule110 c ≡ c.period ∷ []) × (rule111 p c ≡ [])
unfolding broken_at
reversed_alone p c e =
    let h = ltb-true (moment_of c.validity.not_after) (moment_of c.validity.not_before) e in
    (ap (λ t. broken_at t c.period) e, kept p c (omega (arith, h)))

pub equal_keeps : (p : Profile) (c : Certificate) → moment_of c.validity.not_after ≡ moment_of c.validity.not_before
    → (rule110 c ≡ []) × (rule111 p c ≡ [])
unfolding broken_at
equal_keeps p c e =
    let h = le-ltb (moment_of c.validity.not_after) (moment_of c.validity.not_before) (omega (arith, e)) in
    (ap (λ t. broken_at t c.period) h, kept p c (omega (arith, e)))

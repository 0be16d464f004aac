-- The fields of a certificate.
--     read_law       the fields, each read from the one before it
-- Assumes nothing.
use mathlib.Core.Path.{◌≡◌, ◌∙◌}
use mathlib.Core.List.{List}
use Prim.Native.Nat.{ℕ}
use lib.ListN.{length}
use Rattle.certificate.specs.Fields.{whole_of, tbs_of, outer_of, version_in, serial_in, inner_in, issuer_in, period_in, subject_in, key_in, list_after}
use Rattle.certificate.specs.Fields.{extension_list_in, not_before_in, not_after_in, validity_of, certificate_of}
use Rattle.certificate.specs.declared.fields.Certificate.{Certificate}
use Rattle.der.specs.Header.{head_of}
use Rattle.der.specs.declared.header.Head.{Head}
use Rattle.times.specs.declared.validity.Validity.{Validity}
use Rattle.der.specs.Members.{first_in, after, past}

-- ---- head after head

module _ (s : List ℕ) (whole tbs version serial inner issuer period before then subject key list outer : Head) (times : Validity)
    (whole_read : whole ≡ head_of s 0 (length s)) (tbs_read : tbs ≡ first_in s whole) (version_read : version ≡ first_in s tbs)
    (serial_read : serial ≡ past 0xA0 s version tbs.end) (inner_read : inner ≡ after s serial tbs.end)
    (issuer_read : issuer ≡ after s inner tbs.end) (period_read : period ≡ after s issuer tbs.end)
    (before_read : before ≡ first_in s period) (then_read : then ≡ after s before period.end)
    (subject_read : subject ≡ after s period tbs.end) (key_read : key ≡ after s subject tbs.end)
    (list_read : list ≡ list_after s key tbs.end) (outer_read : outer ≡ after s tbs whole.end)
    (times_read : times ≡ validity_of s before then) where
  whole_is : whole ≡ whole_of s
  unfolding whole_of
  whole_is = whole_read

  tbs_is : tbs ≡ tbs_of s
  unfolding tbs_of
  tbs_is = tbs_read ∙ (λ i. first_in s (whole_is i))

  version_is : version ≡ version_in s (tbs_of s)
  unfolding version_in
  version_is = version_read ∙ (λ i. first_in s (tbs_is i))

  serial_is : serial ≡ serial_in s (tbs_of s)
  unfolding serial_in
  serial_is = serial_read ∙ (λ i. past 0xA0 s (version_is i) (tbs_is i).end)

  inner_is : inner ≡ inner_in s (tbs_of s)
  unfolding inner_in
  inner_is = inner_read ∙ (λ i. after s (serial_is i) (tbs_is i).end)

  issuer_is : issuer ≡ issuer_in s (tbs_of s)
  unfolding issuer_in
  issuer_is = issuer_read ∙ (λ i. after s (inner_is i) (tbs_is i).end)

  period_is : period ≡ period_in s (tbs_of s)
  unfolding period_in
  period_is = period_read ∙ (λ i. after s (issuer_is i) (tbs_is i).end)

  before_is : before ≡ not_before_in s (period_in s (tbs_of s))
  unfolding not_before_in
  before_is = before_read ∙ (λ i. first_in s (period_is i))

  then_is : then ≡ not_after_in s (period_in s (tbs_of s))
  unfolding not_after_in
  then_is = then_read ∙ (λ i. after s (before_is i) (period_is i).end)

  subject_is : subject ≡ subject_in s (tbs_of s)
  unfolding subject_in
  subject_is = subject_read ∙ (λ i. after s (period_is i) (tbs_is i).end)

  key_is : key ≡ key_in s (tbs_of s)
  unfolding key_in
  key_is = key_read ∙ (λ i. after s (subject_is i) (tbs_is i).end)

  list_is : list ≡ extension_list_in s (tbs_of s)
  unfolding extension_list_in
  list_is = list_read ∙ (λ i. list_after s (key_is i) (tbs_is i).end)

  outer_is : outer ≡ outer_of s
  unfolding outer_of
  outer_is = outer_read ∙ (λ i. after s (tbs_is i) (whole_is i).end)

  times_is : times ≡ validity_of s (not_before_in s (period_in s (tbs_of s))) (not_after_in s (period_in s (tbs_of s)))
  times_is = times_read ∙ (λ i. validity_of s (before_is i) (then_is i))

  pub read_law : ◌≡◌ {A = Certificate} (record {
    tbs = tbs;
    version = version;
    serial = serial;
    inner = inner;
    issuer = issuer;
    period =
        period;
    not_before = before;
    not_after = then;
    subject = subject;
    key = key;
    extensions = list;
    outer = outer;
    validity = times;
  })
      (certificate_of s)
  unfolding certificate_of
  read_law i =
      record {
        tbs = tbs_is i;
        version = version_is i;
        serial = serial_is i;
        inner = inner_is i;
        issuer = issuer_is i;
        period = period_is i;
        not_before = before_is i;
        not_after = then_is i;
        subject = subject_is i;
        key = key_is i;
        extensions = list_is i;
        outer = outer_is i;
        validity = times_is i;
      }

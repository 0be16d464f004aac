-- The fields of a certificate, head after head in the order of RFC 5280, 4.1. Every definition answers for any octets; that the fields of an
-- accepted certificate are those that its grammar names is in proofs/Laws/Fields.antt.
use Rattle.std.specs.Prelude.{List, ℕ, length, unwrap_or}
use Rattle.certificate.specs.declared.fields.Certificate.{Certificate}
use Rattle.der.specs.Header.{head_of}
use Rattle.der.specs.Contents.{contents_of}
use Rattle.der.specs.Tags.{context_tag, context_holder}
use Rattle.der.specs.declared.header.Head.{Head}
use Rattle.times.specs.Reads.{time_of}
use Rattle.times.specs.declared.validity.Time.{Time}
use Rattle.times.specs.declared.validity.Time.TheVariants.{Utc}
use Rattle.times.specs.declared.validity.Validity.{Validity}
use Rattle.der.specs.Members.{first_in, after, past, inside_tag}

-- ---- Certificate: tbsCertificate, signatureAlgorithm, signatureValue

-- the outermost element
unfoldable pub whole_of : List ℕ → Head
whole_of s = head_of s 0 (length s)

unfoldable pub tbs_of : List ℕ → Head
tbs_of s = first_in s (whole_of s)

unfoldable pub outer_of : List ℕ → Head
outer_of s = after s (tbs_of s) (whole_of s).end

-- ---- TBSCertificate: [0] version, serialNumber, signature, issuer, validity, subject, subjectPublicKeyInfo, [1] issuerUniqueID,
-- ---- [2] subjectUniqueID, [3] extensions. The argument is the TBSCertificate.

-- the [0], or the serial number where the version is not written
unfoldable pub version_in : List ℕ → Head → Head
version_in s tbs = first_in s tbs

unfoldable pub serial_in : List ℕ → Head → Head
serial_in s tbs = past (context_holder 0) s (version_in s tbs) tbs.end

unfoldable pub inner_in : List ℕ → Head → Head
inner_in s tbs = after s (serial_in s tbs) tbs.end

unfoldable pub issuer_in : List ℕ → Head → Head
issuer_in s tbs = after s (inner_in s tbs) tbs.end

unfoldable pub period_in : List ℕ → Head → Head
period_in s tbs = after s (issuer_in s tbs) tbs.end

unfoldable pub subject_in : List ℕ → Head → Head
subject_in s tbs = after s (period_in s tbs) tbs.end

unfoldable pub key_in : List ℕ → Head → Head
key_in s tbs = after s (subject_in s tbs) tbs.end

-- what follows the key and the unique identifiers, "tags 81 and 82": the [3], if the certificate has extensions
abbrev pub extended_after : List ℕ → Head → ℕ → Head
extended_after s key end = past (context_tag 2) s (past (context_tag 1) s (after s key end) end) end

-- the SEQUENCE OF Extension inside [3], or none at the end of the TBSCertificate
unfoldable pub list_after : List ℕ → Head → ℕ → Head
list_after s key end = inside_tag (context_holder 3) s (extended_after s key end) end

unfoldable pub extension_list_in : List ℕ → Head → Head
extension_list_in s tbs = list_after s (key_in s tbs) tbs.end

-- ---- Validity: notBefore, notAfter. The argument is the Validity.

unfoldable pub not_before_in : List ℕ → Head → Head
not_before_in s period = first_in s period

unfoldable pub not_after_in : List ℕ → Head → Head
not_after_in s period = after s (not_before_in s period) period.end

-- What stands for a time where there is none; an accepted certificate has none such.
abbrev pub no_time : Time
no_time = Utc (record { year = 0; month = 0; day = 0; hour = 0; minute = 0; second = 0 })

-- the time that an element says
unfoldable pub time_in : List ℕ → Head → Time
time_in s h = unwrap_or (time_of h.tag (contents_of s h)) no_time

unfoldable pub validity_of : List ℕ → Head → Head → Validity
validity_of s before after = record { not_before = time_in s before; not_after = time_in s after }

-- ---- all of them

unfoldable pub certificate_of : List ℕ → Certificate
certificate_of s =
    record {
      tbs = tbs_of s;
      version = version_in s (tbs_of s);
      serial = serial_in s (tbs_of s);
      inner = inner_in s (tbs_of s);
      issuer = issuer_in s (tbs_of s);
      period = period_in s (tbs_of s);
      not_before = not_before_in s (period_in s (tbs_of s));
      not_after = not_after_in s (period_in s (tbs_of s));
      subject = subject_in s (tbs_of s);
      key = key_in s (tbs_of s);
      extensions = extension_list_in s (tbs_of s);
      outer = outer_of s;
      validity = validity_of s (not_before_in s (period_in s (tbs_of s))) (not_after_in s (period_in s (tbs_of s)));
    }

-- `certificate::fields::time_in` meets its contract. Assumes nothing.
use mathlib.Core.Path.{refl, ap, ◌∙◌}
use Rattle.certificate.specs.Fields.{no_time, time_in}
use Rattle.std.specs.Prelude.{Option, unwrap_or}
use Rattle.times.specs.Reads.{time_of}
use Rattle.times.specs.declared.validity.Time.{Time}
use Rattle.certificate.proofs.Laws.Members.{contents_read}
use Rattle.certificate.proofs.fields.time_in.Goals as goal

pub returns : goal.returns
unfolding time_in
returns c =
    let a = c.args in
    c.unwrap_or.ensures ∙ ap (λ (t : Option Time). unwrap_or t no_time) (c.read_time.ensures ∙ ap (time_of a.h.tag) (contents_read a.s.now a.h a.h _ refl c.minus.ensures))

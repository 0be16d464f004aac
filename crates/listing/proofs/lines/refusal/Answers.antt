-- `listing::lines::refusal` meets its contract. Assumes nothing.
use Rattle.listing.specs.Lines.{refusal_text}
use Rattle.texts.specs.Texts.{word}
use Rattle.texts.proofs.Laws.Putting.{◌then◌}
use Rattle.listing.proofs.lines.refusal.Goals as goal

pub returns : goal.returns
unfolding refusal_text word
returns c = rw (← c.refusal_values-v.ensures) (c.field.ensures then c.field-2.ensures then c.field-3.ensures)

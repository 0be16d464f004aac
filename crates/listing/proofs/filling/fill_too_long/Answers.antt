-- `listing::filling::fill_too_long` meets its contract. Assumes nothing.
use Rattle.std.proofs.Common.{rules}
use mathlib.Core.Path.{sym, ◌∙◌}
use native.Mathlib.Omega.{arith}
use Rattle.listing.specs.Lines.{too_long_line}
use Rattle.listing.proofs.Laws.Lines.{too_long_long}
use Rattle.listing.proofs.Laws.Filling.{text_put, text_waits, filled_back}
use Rattle.listing.proofs.filling.fill_too_long.Goals as goal

pub returns-then-not-has_space : goal.returns-then-not-has_space
returns-then-not-has_space c = text_waits _ too_long_line _ c.new-text.ensures (sym c.has_space.ensures ∙ c.if-not-has_space.true) (search rules)

pub returns : goal.returns
returns c =
    filled_back c.too_long.new.text
    (text_put _ too_long_line _ c.new-text.ensures (sym c.has_space.ensures ∙ c.if-not-has_space.false) (omega (arith, too_long_long)) c.too_long.ensures)
    c.octets.ensures (search rules)

-- `subjects::authorities::says_authority` meets its contract: the byte strings are the words. Assumes nothing.
use Rattle.subjects.specs.Authorities.{says_authority}
use Rattle.texts.specs.Texts.{word}
use Rattle.subjects.proofs.authorities.says_authority.Goals as goal

pub returns : goal.returns
unfolding says_authority word
returns c = rw (c.is_numbered.ensures, c.is_numbered-2.ensures, c.minus-n.ensures)

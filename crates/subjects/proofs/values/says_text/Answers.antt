-- `subjects::values::says_text` meets its contract. Assumes nothing.
use Rattle.subjects.proofs.values.says_text.Goals as goal

pub returns-then-tag-utf8 : goal.returns-then-tag-utf8
returns-then-tag-utf8 c = rw (← c.attribute_value-value.ensures, c.if-tag-utf8.true) c.contents_are.ensures

pub returns : goal.returns
returns c = rw (← c.attribute_value-value.ensures, c.if-tag-utf8.false)

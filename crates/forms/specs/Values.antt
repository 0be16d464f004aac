-- "Rules below, and 120, are not judged if the extension is missing or fails 340+s" (document 01, "Rules on extensions").
use Rattle.std.specs.Prelude.{cond, List, []}
use Rattle.der.specs.declared.header.Head.{Head}
use Rattle.certificate.specs.Standing.{Standing}
use Rattle.certificate.specs.declared.extensions.Extension.{Extension}
use Rattle.certificate.specs.declared.slots.Slot.{Slot}

-- what breaks a rule on an extension and its value, where the extension is there and good
abbrev pub where_good : Standing → (Extension → Head → List Head) → List Head
where_good Standing.missing broken = []
where_good (Standing.bad x) broken = []
where_good (Standing.good x v) broken = broken x v

-- as the code has it, by its entry for the extension
abbrev pub if_good : Slot → List Head → List Head
if_good v broken = cond v.good broken []

-- A walk along the elements of a stretch.
use Rattle.std.specs.Prelude.{List}
use Rattle.der.specs.Header.{children_of}
use Rattle.der.specs.declared.header.Head.{Head}
use Rattle.der.specs.declared.children.Children.{Children}

-- the elements that it has not come to yet
unfoldable pub children_left : Children → List Head
children_left walk = children_of walk.octets.now walk.at walk.end

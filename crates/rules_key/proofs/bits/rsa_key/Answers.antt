-- `rules_key::bits::rsa_key` meets its contract. Assumes nothing.
use Rattle.rules_key.proofs.Laws.Bits.{rsa_is}
use Rattle.rules_key.proofs.bits.rsa_key.Goals as goal

pub returns : goal.returns
returns c =
    rw c.then_some.ensures
    (rsa_is _ _ _ _ _ _ _ _ _ _ _ c.bits_from-from.ensures c.octet-none_unused.ensures c.check_stretch.ensures c.is_ok-sound.ensures.value
    c.head_any-whole.ensures c.head_any-modulus.ensures c.head_at-exponent.ensures c.is_positive_integer.ensures
    c.is_positive_integer-2.ensures)

-- "With input of the P12 block, a zero block and 100 more octets it prints all of this" (document 01, "The deck"): from the octets of the deck to
-- those of the listing, by computation. Assumes nothing.
use mathlib.Core.Path.{◌≡◌, refl}
use Rattle.examples.specs.Table.{p12_deck}
use Rattle.octets.specs.Octets.{octets_from}
use Rattle.octets.specs.Numbers.{number_from}
use Rattle.der.specs.Header.{head_of, children_of, children_by}
use Rattle.der.specs.Contents.{arcs_ok, primitive_ok, element_ok}
use Rattle.der.specs.Order.{octets_le, ascend_from}
use Rattle.der.specs.Elements.{elements_of}
use Rattle.der.specs.Soundness.{first, soundness, stretch_soundness}
use Rattle.asn.specs.Grammar.{fits}
use Rattle.asn.specs.Module.{certificate}
use Rattle.asn.specs.Answers.{certificate_verdict}
use Rattle.profiles.specs.Fields.{asked_of}
use Rattle.lint.specs.Judging.{side_judgement, both_sides, admission_of, judgement_of}
use Rattle.lint.specs.Answers.{answer_of, room_of}
use Rattle.blocks.specs.Tests.{◌and◌, between}
use Rattle.blocks.specs.Block.{check_of, sound, block_of}
use Rattle.blocks.specs.Record.{certificate_octets, issuer_octets}
use Rattle.writer.specs.Cutting.{zero_filled, blocks_of}
use Rattle.reader.specs.Runs.{blocks, is_part, is_whole, run, starts, record_from}
use Rattle.reader.specs.Events.{loss_of, events}
use Rattle.reader.specs.Stepping.{linted_room}
use Rattle.reader.specs.Counting.{tally_of}
use Rattle.texts.specs.Texts.{word, digits_by, decimal}
use Rattle.listing.specs.Lines.{refusal_text, record_line, lost_line, total_line}
use Rattle.listing.specs.Listing.{finding_lines, record_lines, listing_of, printed}

pub p12_printed : printed p12_deck ≡ word "record 1 profile 1 refused 6 side 1 at 0\nlost 1 unsound\nlost 2 short\nrecords 1 blocks 3 lost 2\n"
unfolding printed listing_of record_lines finding_lines record_line refusal_text lost_line total_line word decimal digits_by tally_of events p12_deck
    zero_filled blocks_of block_of check_of sound ◌and◌ between blocks is_part is_whole run starts record_from loss_of certificate_octets issuer_octets
    linted_room answer_of room_of admission_of asked_of side_judgement both_sides judgement_of certificate_verdict fits certificate stretch_soundness soundness
    first elements_of element_ok primitive_ok arcs_ok ascend_from octets_le head_of children_of children_by octets_from number_from
p12_printed = refl

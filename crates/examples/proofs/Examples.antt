-- Every example of the table holds, by computation. Assumes nothing.
use mathlib.Core.Path.{◌≡◌, refl}
use mathlib.Core.List.{map}
use Rattle.examples.specs.Table.{Example, year_of, broken_rules, validity_breaks, p12_deck, answer, table}
use Rattle.octets.specs.Octets.{octets_from}
use Rattle.octets.specs.Numbers.{number_from}
use Rattle.octets.specs.Characters.{are_digits}
use Rattle.der.specs.Header.{head_of, children_of, children_by}
use Rattle.der.specs.Contents.{arcs_ok, primitive_ok, element_ok}
use Rattle.der.specs.Integers.{integer_of}
use Rattle.der.specs.Oids.{sevens, subidentifier, subidentifiers, oid}
use Rattle.der.specs.Order.{octets_le, ascend_from}
use Rattle.der.specs.Elements.{elements_of}
use Rattle.der.specs.Soundness.{first, soundness, stretch_soundness}
use Rattle.times.specs.Calendar.{date_ok, seconds_of, days_of, before_year, before_month}
use Rattle.times.specs.Validity.{moment_of}
use Rattle.times.specs.Reads.{digits_and_z, date_at, if_real, time_of}
use Rattle.asn.specs.Grammar.{fits}
use Rattle.asn.specs.Module.{certificate, key_usage, judged, value_of}
use Rattle.asn.specs.Answers.{certificate_verdict, value_ok}
use Rattle.usages.specs.Usage.{any_below, other_bits}
use Rattle.policies.specs.Policies.{is_below}
use Rattle.report.specs.Rows.{broken_at}
use Rattle.rules_fields.specs.Period.{validity_rows}
use Rattle.rules_values.specs.Usage.{usage_rows}
use Rattle.profiles.specs.Fields.{asked_of}
use Rattle.octets.specs.Octets.{is_one_of}
use Rattle.lint.specs.Judging.{side_judgement, both_sides, admission_of, judgement_of}
use Rattle.lint.specs.Answers.{answer_of, room_of}
use Rattle.blocks.specs.Tests.{◌and◌, between}
use Rattle.blocks.specs.Block.{check_of, sound, block_of}
use Rattle.blocks.specs.Record.{certificate_octets, issuer_octets}
use Rattle.writer.specs.Cutting.{zero_filled, blocks_of}
use Rattle.reader.specs.Runs.{blocks, is_part, is_whole, run, starts, record_from}
use Rattle.reader.specs.Events.{loss_of, events}
use Rattle.reader.specs.Counting.{tally_of}
use Rattle.texts.specs.Texts.{word, decimal, digits_by}
use Rattle.listing.specs.Lines.{record_line, refusal_text, lost_line, total_line}
use Rattle.listing.specs.Listing.{finding_lines, record_lines, listing_of, printed}
use Rattle.reader.specs.Finding.{found_at}
use Rattle.reader.specs.Stepping.{linted_room, item_at, room_at}

pub examples : map (λ (e : Example). answer e.asked) table ≡ map (λ (e : Example). e.answered) table
unfolding answer table year_of validity_breaks broken_rules validity_rows usage_rows broken_at stretch_soundness soundness first elements_of
    element_ok primitive_ok arcs_ok ascend_from octets_le head_of children_of children_by octets_from number_from integer_of time_of if_real date_at
    digits_and_z are_digits date_ok moment_of seconds_of days_of before_year before_month certificate_verdict value_ok fits certificate key_usage judged
    value_of is_below other_bits any_below is_one_of p12_deck asked_of ◌and◌ between check_of sound block_of certificate_octets issuer_octets zero_filled blocks_of
    blocks is_part is_whole run starts record_from loss_of found_at linted_room item_at room_at admission_of side_judgement both_sides judgement_of answer_of
    room_of oid subidentifiers subidentifier sevens printed listing_of record_lines record_line refusal_text finding_lines lost_line total_line word
    decimal digits_by tally_of events
examples = refl

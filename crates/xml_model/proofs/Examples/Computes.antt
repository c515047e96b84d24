-- What the computed examples compute with: to unfold this name is to unfold every definition on its line.
use Rattle.numbers.specs.Count.{all, first, sum}
use Rattle.model.specs.Book.{assets_in, entries_in, asset_position, in_book, flagged, momentary, limit, asset_legal, ranges_legal}
use Rattle.model.specs.Book.{track_legal, threshold_legal, limits_legal}
use Rattle.xml_model.specs.Repeat.{turns, repeat}
use Rattle.xml_model.specs.Bytes.{byte_at, same, in_class, span, run_end, bare, is_mark, stuck, looked}
use Rattle.xml_model.specs.Tags.{stuck_attribute, value_at, equals_at, attribute_at, given_step, given, tailed, empty_tail}
use Rattle.xml_model.specs.Tags.{attribute_step, tail_step, tail_of, look_step, look, stuck_tag, end_tag, start_tag, tag_at, unit_at}
use Rattle.xml_model.specs.Elements.{known, find, name_of, is_kind, holds_text, fits, row_of, closes_from, holds_anything}
use Rattle.xml_model.specs.Calendar.{leap, month_days, month_length, in_calendar, days_before}
use Rattle.xml_model.specs.Values.{value_if, number_from, number_of, is_number, number_in, uid_of, digits_at, time_formed, time_real}
use Rattle.xml_model.specs.Values.{seconds_at, time_if, time_of, piece_at, duration_formed, duration_of, value_of}
use Rattle.xml_model.specs.State.{blank, with_elements, with_ids, with_asset, with_references, with_limits, with_book, ok, no, and_then}
use Rattle.xml_model.specs.State.{counted, alike, same_range, is_id, ids_in, id_position, is_given, id_of, new_id, asset_named, named}
use Rattle.xml_model.specs.State.{object_alone, with_timer, flag_of, with_flag, with_limit, for_asset, begun, referred, with_idref}
use Rattle.xml_model.specs.State.{with_timer_of, opening, stored, text_done, key_done, with_one_asset, asset_done, how_many, asset_for}
use Rattle.xml_model.specs.State.{limits_for, kind_legal, filled, with_entries, kind_done, container_done, closing}
use Rattle.xml_model.specs.Text.{leads_to, entered, opened, ended, child, judge, refusal, ruled, unit_step, go, follow, finish}
use Rattle.xml_model.specs.Text.{root, progress_of, reading_of}

unfoldable pub reading-run : Unit {0}
unfolding all first sum assets_in entries_in asset_position in_book flagged momentary limit asset_legal ranges_legal track_legal
    threshold_legal limits_legal turns repeat
    byte_at same in_class span run_end bare is_mark stuck looked stuck_attribute value_at equals_at attribute_at given_step given tailed
    empty_tail attribute_step tail_step tail_of look_step look stuck_tag end_tag start_tag tag_at unit_at known find name_of is_kind holds_text fits
    row_of closes_from holds_anything leap month_days month_length in_calendar days_before value_if number_from number_of is_number number_in uid_of
    digits_at time_formed time_real seconds_at time_if time_of piece_at duration_formed duration_of value_of blank with_elements with_ids with_asset
    with_references with_limits with_book ok no and_then counted alike same_range is_id ids_in id_position is_given id_of new_id asset_named named
    object_alone with_timer flag_of with_flag with_limit for_asset begun referred with_idref with_timer_of opening stored text_done key_done
    with_one_asset asset_done how_many asset_for limits_for kind_legal filled with_entries kind_done container_done closing leads_to entered opened
    ended child judge refusal ruled unit_step go follow finish root progress_of reading_of
reading-run = tt

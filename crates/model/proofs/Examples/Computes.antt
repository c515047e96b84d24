-- What the computed examples compute with: to unfold one of these names is to unfold every definition on its line.
-- A definition that is added to the rules is added here, once.
use Rattle.model.specs.Book.{asset_position, assets_in, entries_in, flagged, grant_length, is_parent, momentary, request_legal, assets_legal}
use Rattle.model.specs.Book.{entries_legal, player_blank, player_legal, players_legal, meters_legal, rule_broken, in_book, limit, asset_legal}
use Rattle.model.specs.Book.{ranges_legal, limits_legal, taken_code, answer_legal, inside_dates, inside_interval, use_legal, open_legal}
use Rattle.model.specs.Book.{track_legal, switch_legal, content_legal, meter_legal, start_legal, opens, open_uses, open_seconds}
use Rattle.model.specs.Book.{meters_cover, entry_meters_legal, threshold_legal, marks_of, marks_legal, started_legal, latest_legal}
use Rattle.model.specs.Book.{latest_passes}
use Rattle.model.specs.Choice.{catalog_of, holds, asset_named, usable, parent_of, own, suitable, grounds_of, grantable, rank_of, last_moment}
use Rattle.model.specs.Choice.{ranks_before, choose_of, any_of, choose, switch_only, none_grantable, least_until, grant_until, more_until}
use Rattle.model.specs.Gate.{same_request, same_number, in_line, timely, gate}
use Rattle.model.specs.History.{answers, handed, handed_lines, record_answers, record_final, record_lines}
use Rattle.model.specs.Image.{header_size, asset_size, entry_size, player_size, image_length, mark_in, version_in, asset_count_in}
use Rattle.model.specs.Image.{entry_count_in, time_in, header_broken, read_code, header_bytes, asset_bytes, entry_bytes, player_bytes, image}
use Rattle.model.specs.Image.{length_of, asset_in, entry_in, player_in, asset_table, entry_table, player_table, entries_from, players_from}
use Rattle.model.specs.Image.{book_as, marked_entries, marked, book_in}
use Rattle.model.specs.Meters.{amend, begun, continued, ended, cancelled, expired, shut, released, settled_from}
use Rattle.model.specs.Record.{kind_of, request_of, event_in, decoded}
use Rattle.model.specs.Run.{record_count, record_at, records_in, decimal_in, decimal, line, lines, run_text, run_book, run_lines, zero_lines}
use Rattle.model.specs.Step.{starts_interval, do_begin, do_continue, do_stop, do_cancel, just_begun, done, taken_step, step_by, step, arrive}
use Rattle.model.specs.Report.{line_small, good, sum64, raised, counted, recorded, recorded_all, overdue, ended_by, endings, lines_by}
use Rattle.model.specs.Report.{lines_read, admitted, receive, lines_left}
use Rattle.numbers.specs.Count.{first, listed, all, sum, joined}
use Rattle.numbers.specs.Bits.{bit, ones, mask_of, put_bit}

-- an event on a book, from its record and its list to the answer and the lines after it
unfoldable pub events_run : Unit {0}
unfolding all in_book line_small good sum64 raised counted recorded recorded_all overdue ended_by endings lines_by lines_read admitted receive
    lines_left handed handed_lines record_lines zero_lines switch_only none_grantable first listed asset_position assets_in entries_in flagged
    grant_length is_parent momentary request_legal same_request same_number sum bit ones mask_of put_bit
    in_line timely gate amend begun continued ended cancelled expired shut released settled_from catalog_of holds asset_named usable parent_of
    own suitable starts_interval do_cancel just_begun
    grounds_of grantable last_moment rank_of ranks_before choose_of any_of choose least_until grant_until more_until do_begin do_continue do_stop done
    taken_step step_by step arrive answers kind_of request_of event_in decoded record_answers record_final
events_run = tt

-- whether a book is legal
unfoldable pub legal_run : Unit {0}
unfolding first all sum listed bit ones mask_of asset_position assets_in entries_in flagged grant_length is_parent momentary request_legal
    assets_legal entries_legal player_blank player_legal players_legal meters_legal rule_broken in_book limit asset_legal ranges_legal
    limits_legal taken_code answer_legal inside_dates inside_interval use_legal open_legal meter_legal start_legal opens open_uses open_seconds
    meters_cover entry_meters_legal track_legal switch_legal content_legal threshold_legal marks_of marks_legal started_legal latest_legal
    latest_passes
legal_run = tt

-- an image, written and read
unfoldable pub image_run : Unit {0}
unfolding first all sum listed joined mask_of asset_position assets_in entries_in flagged grant_length is_parent momentary header_size asset_size
    entry_size player_size image_length mark_in version_in asset_count_in entry_count_in time_in header_broken read_code header_bytes asset_bytes
    entry_bytes player_bytes image length_of asset_in entry_in player_in asset_table entry_table player_table entries_from players_from book_as
    opens marks_of marked_entries marked book_in
image_run = tt

-- the text of the run program
unfoldable pub text_run : Unit {0}
unfolding record_count record_at records_in decimal_in decimal line lines run_text run_book run_lines
text_run = tt

-- The structs of this crate in terms of the model.
use Rattle.book.specs.declared.Limits.{Limits}
use Rattle.book.specs.declared.Request.{Request}
use Rattle.model.specs.Book.{flagged, count_flag, timed_flag, start_flag, end_flag, interval_flag, accumulated_flag}
use Rattle.model.specs.Record.{operation_number, request_asset, request_kind}
use Rattle.rules.specs.declared.Wire.{Wire}
use Rattle.rules.specs.declared.Flags.{Flags}

-- the numbers by which an event's record and a player's last event name a request
abbrev pub wire_of : Request → Wire
wire_of q = record { operation = operation_number q; asset = request_asset q; kind = request_kind q }

-- which limits are flagged
unfoldable pub flags_of : Limits → Flags
flags_of l = record {
  count = flagged count_flag l;
  timed = flagged timed_flag l;
  start = flagged start_flag l;
  end = flagged end_flag l;
  interval = flagged interval_flag l;
  accumulated = flagged accumulated_flag l;
}

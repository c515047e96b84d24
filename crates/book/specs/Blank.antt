-- Blank values: all numbers 0. A position that holds nothing reads as blank.
use Rattle.std.specs.Prelude.{replicate}
use Rattle.book.specs.declared.Asset.{Asset}
use Rattle.book.specs.declared.Limits.{Limits}
use Rattle.book.specs.declared.Meters.{Meters}
use Rattle.book.specs.declared.Entry.{Entry}
use Rattle.book.specs.declared.Answer.{Answer}
use Rattle.book.specs.declared.Last.{Last}
use Rattle.book.specs.declared.Open.{Open}
use Rattle.book.specs.declared.Player.{Player}
use Rattle.book.specs.declared.Book.{Book}
use Rattle.book.specs.declared.Line.{Line}
use Rattle.book.specs.declared.Latest.{Latest}

abbrev pub no_asset : Asset
no_asset = record { number = 0; inherit = 0; key = 0 }

abbrev pub no_limits : Limits
no_limits = record {
  object = 0;
  asset = 0;
  kind = 0;
  flags = 0;
  count = 0;
  timed = 0;
  timer = 0;
  start = 0;
  end = 0;
  interval = 0;
  accumulated = 0;
  tracked = 0;
  timedvalue = 0;
  mark = 0;
  threshold = 0;
}

abbrev pub no_meters : Meters
no_meters = record { count = 0; timed = 0; first = 0; seconds = 0; started = 0; marks = 0 }

abbrev pub no_entry : Entry
no_entry = record { limits = no_limits; meters = no_meters }

abbrev pub no_answer : Answer
no_answer = record { code = 0; entry = 0; until = 0 }

abbrev pub no_last : Last
no_last = record { number = 0; operation = 0; asset = 0; kind = 0; answer = no_answer }

abbrev pub closed : Open
closed = record { on = 0; entry = 0; begin = 0; until = 0; content = 0 }

abbrev pub no_player : Player
no_player = record { last = no_last; current = closed }

-- no event was taken yet
abbrev pub no_latest : Latest
no_latest = record { player = 0; started = 0 }

abbrev pub no_book : Book
no_book = record {
  time = 0;
  switch = 0;
  latest = no_latest;
  assetcount = 0;
  entrycount = 0;
  assets = replicate 64 no_asset;
  entries = replicate 64 no_entry;
  players = replicate 16 no_player;
}

abbrev pub no_line : Line
no_line = record { content = 0; times = 0; seconds = 0 }

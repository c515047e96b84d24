-- The one way in which a book is rebuilt: another time, another event taken last, other entries, other players. No event changes the
-- switch, the assets or the counts.
use Rattle.std.specs.Prelude.{ℕ, List}
use Rattle.book.specs.declared.Entry.{Entry}
use Rattle.book.specs.declared.Latest.{Latest}
use Rattle.book.specs.declared.Player.{Player}
use Rattle.book.specs.declared.Book.{Book}

abbrev pub changed : Book → ℕ → Latest → List Entry → List Player → Book
changed b t x es ps = record {
  time = t;
  switch = b.switch;
  latest = x;
  assetcount = b.assetcount;
  entrycount = b.entrycount;
  assets = b.assets;
  entries = es;
  players = ps;
}

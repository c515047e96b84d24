-- Demand 3 requires the first book to be `Fresh`. If few books were, that theorem would be nearly empty, so:
-- every legal book with its time, meters, players and event taken last blanked is fresh and legal, and every fresh and legal book arises
-- this way.
-- Statements only; proved in `proofs/Legal/Renewed`.
use Rattle.std.specs.Prelude.{ℕ, ◌≡◌, map, replicate}
use Rattle.book.specs.declared.Entry.{Entry}
use Rattle.book.specs.declared.Book.{Book}
use Rattle.book.specs.Blank.{no_meters, no_player, no_latest}
use Rattle.book.specs.Changed.{changed}
use Rattle.model.specs.Book.{Legal, Fresh}
use Rattle.model.specs.Image.{Typed}
use Rattle.model.specs.Demand3.{Demand3}

-- the entry as if never used
abbrev pub unused : Entry → Entry
unused e = record { limits = e.limits; meters = no_meters }

-- the book as it was before its first event: "the time, all meters, all player records and every field that a request adds for players'
-- events to write are 0", everything else is kept
unfoldable pub renewed : Book → Book
renewed b = changed b 0 no_latest (map unused b.entries) (replicate 16 no_player)

pub record Renewed : Type 0 where
  pub fresh : (b : Book) → Legal b → Fresh (renewed b)
  pub legal : (b : Book) → Legal b → Legal (renewed b)
  pub typed : (b : Book) → Typed b → Typed (renewed b)
  -- nothing else is fresh and legal
  pub same : (b : Book) → Legal b → Fresh b → renewed b ≡ b
  -- so demand 3 holds of any legal book's assets and limits
  pub demand : (b : Book) → Legal b → Demand3 (renewed b)

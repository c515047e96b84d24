-- The rows of a book's entries are a map over them: what is at a position, and what a store does to both.
use Rattle.std.specs.Prelude.{ℕ, ◌<◌, ◌≡◌, false, List, map, length, get_or, set}
use Rattle.std.proofs.lemmas.List.{length-map}
use Rattle.book.specs.declared.Entry.{Entry}
use Rattle.book.specs.Blank.{no_entry}
use Rattle.model.specs.Book.{limits_at, meters_at}
use Rattle.choice.specs.declared.Row.{Row}
use Rattle.choice.specs.Row.{row_of}
use Rattle.index.specs.Mapped.{mapped_at, mapped-set}

abbrev pub row_of_entry : Entry → Row
row_of_entry e = row_of e.limits e.meters

-- what a position without a row reads as
abbrev pub no_row : Row
no_row = record { asset = 0; kind = 0; flags = 0; start = 0; window = 0; guarded = false }

pub row_at : (es : List Entry) (k : ℕ) → k < length es → get_or (map row_of_entry es) k no_row ≡ row_of (limits_at es k) (meters_at es k)
row_at es k h = mapped_at row_of_entry es k no_entry no_row h

pub rows-set : (es : List Entry) (k : ℕ) (y : Entry) → map row_of_entry (set es k y) ≡ set (map row_of_entry es) k (row_of_entry y)
rows-set es k y = mapped-set row_of_entry es k y

pub rows-length : (es : List Entry) → length (map row_of_entry es) ≡ length es
rows-length es = length-map es row_of_entry

-- "Saving and reading back between any two events is allowed": every event leaves a legal book, so it can be written at any time,
-- and going on from what is read back gives the same answers and the same book. Statements only; proved in `proofs/Legal/Step`.
use Rattle.std.specs.Prelude.{ℕ, ◌<◌, ◌≡◌, List, [], ◌∷◌, map}
use Rattle.std.proofs.Math.Option.{Option, none, some}
use Rattle.book.specs.declared.Answer.{Answer}
use Rattle.book.specs.declared.Line.{Line}
use Rattle.book.specs.declared.Book.{Book}
use Rattle.book.specs.declared.Event.{Event}
use Rattle.book.specs.Decoded.{Decoded, Invalid, Valid}
use Rattle.model.specs.Book.{Legal}
use Rattle.model.specs.Image.{Typed, Bytes, image, read_code, read_book}
use Rattle.model.specs.Record.{request_asset, decoded}
use Rattle.model.specs.Step.{step, arrive}
use Rattle.model.specs.Report.{Arrival, receive, lent}
use Rattle.model.specs.History.{answers, final}

-- ## What is claimed of a book

-- written and read back it is the same book, whatever book was held before
pub record Survives (b : Book) : Type 0 where
  pub accepted : read_code (image b) ≡ 0
  pub same : (held : Book) → read_book held (image b) ≡ b

-- ## What is required of an event

-- its asset fits 16 bits; the other numbers are bounded by the rules
abbrev pub Fits : Event → Type 0
Fits e = request_asset e.request < 65536

abbrev pub FitsRead : Decoded → Type 0
FitsRead (Invalid code) = Unit {0}
FitsRead (Valid e) = Fits e

-- ## Runs with saving in between

-- an event with the list it is lent, and what happens to the book after it: kept, or written and read back by someone who held another book
pub record Turn : Type 0 where
  pub event : Arrival
  pub rereader : Option Book

-- the book that the next event gets
unfoldable pub handed_on : Option Book → Book → Book
handed_on none b = b
handed_on (some held) b = read_book held (image b)

abbrev pub event_of : Turn → Arrival
event_of t = t.event

-- the answers, and the last book
unfoldable pub saved_answers : Book → List Turn → List Answer
saved_answers b [] = []
saved_answers b (t ∷ ts) = (receive b t.event).answer ∷ saved_answers (handed_on t.rereader (receive b t.event).book) ts

unfoldable pub saved_final : Book → List Turn → Book
saved_final b [] = b
saved_final b (t ∷ ts) = saved_final (handed_on t.rereader (receive b t.event).book) ts

-- every event of a run fits
abbrev pub AllFit : List Turn → Type 0
AllFit [] = Unit {0}
AllFit (t ∷ ts) = FitsRead t.event.event × AllFit ts

-- ## The claims

pub record Saved : Type 0 where
  -- every event leaves a legal book
  pub step_legal : (b : Book) (e : Event) → Legal b → Legal (step b e).book
  pub arrive_legal : (b : Book) (d : Decoded) → Legal b → Legal (arrive b d).book
  pub receive_legal : (b : Book) (x : Arrival) → Legal b → Legal (receive b x).book
  pub final_legal : (b : Book) (xs : List Arrival) → Legal b → Legal (final b xs)
  -- and numbers that fit their types
  pub step_typed : (b : Book) (e : Event) → Legal b → Typed b → Fits e → Typed (step b e).book
  pub decoded_fits : (s : List ℕ) → Bytes s → FitsRead (decoded s)
  -- so the book survives saving, after every event and after every record of bytes
  pub step_survives : (b : Book) (e : Event) → Legal b → Typed b → Fits e → Survives (step b e).book
  pub record_survives : (b : Book) (ls : List Line) (s : List ℕ) → Legal b → Typed b → Bytes s → Survives (receive b (lent ls s)).book
  -- saving between any two events changes neither an answer nor the last book
  pub same_answers : (b : Book) (ts : List Turn) → Legal b → Typed b → AllFit ts → saved_answers b ts ≡ answers b (map event_of ts)
  pub same_final : (b : Book) (ts : List Turn) → Legal b → Typed b → AllFit ts → saved_final b ts ≡ final b (map event_of ts)

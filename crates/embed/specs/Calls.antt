-- What a call of `rights_answer` returns and leaves in the caller's buffers: definitions only, in terms of the reader, the writer
-- and the run program's text. buffer is what is lent for the image, size how many of its bytes are the image, ls the list of lines
-- that is lent, room the length of the buffer for the text.
use Rattle.std.specs.Prelude.{ℕ, Bool, cond, List, [], ◌++◌, length, take, drop, eqb, leb}
use Rattle.book.specs.declared.Line.{Line}
use Rattle.book.specs.declared.Book.{Book}
use Rattle.book.specs.Blank.{no_book}
use Rattle.model.specs.Image.{length_of, write_buffer, read_code, read_book}
use Rattle.model.specs.Run.{run_text, run_book, run_lines}
use Rattle.fill.specs.Fill.{no_room}
use Rattle.batch.specs.Block.{fits}

-- the image lent: the first bytes of the buffer, and none if the buffer has not so many
unfoldable pub image_in : List ℕ → ℕ → List ℕ
image_in buffer size = cond (leb size (length buffer)) (take size buffer) []

-- the book in an image that is not refused
unfoldable pub held_book : List ℕ → Book
held_book s = read_book no_book s

abbrev pub lent_book : List ℕ → ℕ → Book
lent_book buffer size = held_book (image_in buffer size)

-- "writer's buffer too short": the next image is the one that has to fit
unfoldable pub room_code : Book → List ℕ → ℕ
room_code next buffer = cond (leb (length_of next) (length buffer)) 0 no_room

-- what a call returns that writes the book `next`, with room for its text or not: "20 to 27 | image refused"; 30: no room for the text,
-- or none for the next image; 0: answered
unfoldable pub call_code : List ℕ → ℕ → Bool → Book → ℕ
call_code buffer size room next =
    cond (eqb (read_code (image_in buffer size)) 0) (cond room (room_code next buffer) no_room) (read_code (image_in buffer size))

-- what is lent changes only if the call returns 0
abbrev pub if_answered : {A : Type 0} → ℕ → A → A → A
if_answered code new old = cond (eqb code 0) new old

-- the text needs room for 19 bytes per record
unfoldable pub answer_code : List ℕ → ℕ → List Line → List ℕ → ℕ → ℕ
answer_code buffer size ls records room = call_code buffer size (fits records room) (run_book (lent_book buffer size) ls records)

-- the image of the book after the last record, and behind it what was there before
unfoldable pub image_after : List ℕ → ℕ → List Line → List ℕ → ℕ → List ℕ
image_after buffer size ls records room =
    if_answered (answer_code buffer size ls records room) (write_buffer (run_book (lent_book buffer size) ls records) buffer) buffer

-- its length
unfoldable pub size_after : List ℕ → ℕ → List Line → List ℕ → ℕ → ℕ
size_after buffer size ls records room =
    if_answered (answer_code buffer size ls records room) (length_of (run_book (lent_book buffer size) ls records)) size

-- the text, and after it what was there before
unfoldable pub out_after : List ℕ → ℕ → List Line → List ℕ → List ℕ → List ℕ
out_after buffer size ls records old =
    let text = run_text (lent_book buffer size) ls records in
    if_answered (answer_code buffer size ls records (length old)) (text ++ drop (length text) old) old

unfoldable pub written_after : List ℕ → ℕ → List Line → List ℕ → ℕ → ℕ → ℕ
written_after buffer size ls records room before =
    if_answered (answer_code buffer size ls records room) (length (run_text (lent_book buffer size) ls records)) before

-- the lines after the last record
unfoldable pub report_after : List ℕ → ℕ → List Line → List ℕ → ℕ → List Line
report_after buffer size ls records room =
    if_answered (answer_code buffer size ls records room) (run_lines (lent_book buffer size) ls records) ls

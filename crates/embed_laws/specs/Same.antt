-- The call on one event's numbers and the call on the record that holds them do the same step: the next image and the lines are the
-- same, and the numbers are those of the text's line. So what is proved of the text holds of the numbers.
use Rattle.std.specs.Prelude.{ℕ, ◌≤◌, ◌≡◌, true}
use Rattle.std.proofs.Math.Path.{refl, ap}
use Rattle.std.proofs.Common.{sym, ap₂, ◌∙◌, take_all, le-leb}
use mathlib.Core.List.{List, [], ◌∷◌, append-nil}
use native.Mathlib.Omega.{arith}
use Rattle.std.proofs.Math.ListN.{length}
use Rattle.numbers.specs.Count.{listed}
use Rattle.numbers.specs.Fields.{Fit}
use Rattle.book.specs.declared.Line.{Line}
use Rattle.book.specs.declared.Book.{Book}
use Rattle.model.specs.Image.{Bytes, read_code}
use Rattle.book.specs.Decoded.{Decoded}
use Rattle.model.specs.Record.{record_size, record_widths}
use Rattle.model.specs.Report.{receive, lines_left, lent}
use Rattle.model.specs.History.{record_answers, record_final, record_lines}
use Rattle.model.specs.Run.{line, lines, record_count, record_at, records_in, run_text, run_book, run_lines}
use Rattle.batch.specs.Block.{fits}
use Rattle.encode.specs.Record.{record_values, record_bytes, event_of, record-length, record-bytes, record-decodes}
use Rattle.embed.specs.Calls.{image_in, held_book, lent_book, answer_code, image_after, size_after, report_after}
use Rattle.embed_laws.specs.Pieces.{next-accepted, next-book}
use Rattle.embed.specs.One.{one_step, one_result, one_image, one_size, one_report}

-- ## One whole record

module _ (r : List ℕ) (whole : length r ≡ record_size) where
  only : records_in r ≡ r ∷ []
  unfolding records_in record_count record_at listed
  only =
      let h : length r ≤ record_size = omega arith in
      rw (whole) (ap (λ (x : List ℕ). x ∷ []) (take_all record_size r h))

  pub one-text : (b : Book) (ls : List Line) → run_text b ls r ≡ line (receive b (lent ls r)).answer
  unfolding run_text record_answers lines
  one-text b ls = rw (only) (append-nil (line (receive b (lent ls r)).answer))

  pub one-book : (b : Book) (ls : List Line) → run_book b ls r ≡ (receive b (lent ls r)).book
  unfolding run_book record_final
  one-book b ls = rw (only) refl

  pub one-lines : (b : Book) (ls : List Line) → run_lines b ls r ≡ lines_left b (lent ls r)
  unfolding run_lines record_lines
  one-lines b ls = rw (only) refl

  one-fits : (room : ℕ) → 19 ≤ room → fits r room ≡ true
  unfolding fits record_count
  one-fits room h = rw (whole) (le-leb 19 room h)

  -- the same for the text call, with room for a line
  module _ (buffer : List ℕ) (size : ℕ) (ls : List Line) (room : ℕ) (line-fits : 19 ≤ room) where
    pub same_code : answer_code buffer size ls r room ≡ one_result buffer size ls r
    unfolding answer_code one_result one_step
    same_code = rw (one-fits room line-fits, one-book (lent_book buffer size) ls) refl

    pub same-image : image_after buffer size ls r room ≡ one_image buffer size ls r
    unfolding image_after one_image one_step
    same-image = rw (same_code, one-book (lent_book buffer size) ls) refl

    pub same_size : size_after buffer size ls r room ≡ one_size buffer size ls r
    unfolding size_after one_size one_step
    same_size = rw (same_code, one-book (lent_book buffer size) ls) refl

    pub same-report : report_after buffer size ls r room ≡ one_report buffer size ls r
    unfolding report_after one_report
    same-report = rw (same_code, one-lines (lent_book buffer size) ls) refl

-- ## The record of six numbers

module _ (buffer : List ℕ) (size : ℕ) (ls : List Line) (player number operation asset kind time : ℕ)
    (fit : Fit record_widths (record_values player number operation asset kind time)) where
  abbrev r : List ℕ
  r = record_bytes player number operation asset kind time

  -- the step is that of the event with these numbers and the list
  pub one-arrives : one_step buffer size ls r
      ≡ receive (lent_book buffer size) (record { event = event_of player number operation asset kind time; lines = ls })
  unfolding one_step
  one-arrives =
      ap (λ (d : Decoded). receive (lent_book buffer size) (record { event = d; lines = ls }))
      (record-decodes player number operation asset kind time fit)

  -- the next call accepts the image, and finds in it the book that the step left
  module _ (bytes : Bytes buffer) (answered : one_result buffer size ls r ≡ 0) where
    abbrev pub one_next : List ℕ
    one_next = image_in (one_image buffer size ls r) (one_size buffer size ls r)

    whole : length r ≡ record_size
    whole = record-length player number operation asset kind time

    one_line : 19 ≤ 19
    one_line = omega arith

    by-text : answer_code buffer size ls r 19 ≡ 0
    by-text = same_code r whole buffer size ls 19 one_line ∙ answered

    same : image_in (image_after buffer size ls r 19) (size_after buffer size ls r 19) ≡ one_next
    same = ap₂ image_in (same-image r whole buffer size ls 19 one_line) (same_size r whole buffer size ls 19 one_line)

    pub one-next-accepted : read_code one_next ≡ 0
    one-next-accepted =
        ap read_code (sym same)
        ∙ next-accepted buffer size ls r 19 bytes (record-bytes player number operation asset kind time fit) by-text

    pub one-next-book : held_book one_next ≡ (one_step buffer size ls r).book
    unfolding one_step
    one-next-book =
        ap held_book (sym same)
        ∙ next-book buffer size ls r 19 bytes (record-bytes player number operation asset kind time fit) by-text
        ∙ one-book r whole (lent_book buffer size) ls

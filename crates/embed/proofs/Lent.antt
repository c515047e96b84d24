-- The lines that were taken from a list, answered with by value and stored back: what is left is what `Calls` and `One` say of the list.
use Prim.Native.Nat.{ℕ}
use mathlib.Core.Path.{◌≡◌, refl, sym, ap, ap₂, ◌∙◌}
use Rattle.std.specs.Prelude.{Result, Ok, Err, MatchResult}
use mathlib.Core.Bool.{Bool, true, false, cond}
use mathlib.Core.List.{List, [], ◌∷◌, ◌++◌}
use lib.ListN.{length, drop}
use lib.Dec.{eqb}
use Rattle.numbers.proofs.Tests.{on_test}
use Rattle.book.specs.declared.Line.{Line}
use Rattle.book.specs.declared.Book.{Book}
use Rattle.book.specs.declared.Outcome.{Outcome}
use Rattle.book.specs.declared.Reported.{Reported}
use Rattle.batch.specs.declared.Block.{Block}
use Rattle.model.specs.Image.{length_of, write_buffer, read_code}
use Rattle.model.specs.Record.{decoded}
use Rattle.model.specs.Step.{arrive}
use Rattle.model.specs.Report.{good, admitted, receive, lines_read, lines_left, lent}
use Rattle.model.specs.History.{record_lines}
use Rattle.model.specs.Run.{records_in, run_text, run_book, run_lines}
use Rattle.model.proofs.Demand3.Lines.{good-list}
use Rattle.report.specs.Report.{taken_lines, given_lines, given-taken}
use Rattle.step.specs.Lines.{outcome_of}
use Rattle.step.specs.Given.{given_back, left-length, reported-outcome, reported-lines}
use Rattle.batch.specs.Block.{fits, block_book, block_text, block_lines, block_written, block_buffer, block-text, block-book, block-lines}
use Rattle.embed.specs.Calls.{image_in, lent_book, call_code, if_answered, answer_code, image_after, size_after, out_after, written_after}
use Rattle.embed.specs.Calls.{report_after}
use Rattle.embed.specs.declared.Failure.{Failure}
use Rattle.embed.specs.Failure.{failure_code, result_code, result_or}
use Rattle.embed.specs.One.{one_step, one_result, one_image, one_size, one_code, one_entry, one_until, one_report}
use Rattle.embed.specs.ByValue.{code_by, AnsweredBy, step_by, OneBy}

-- ## The lines of a run

lines-length : (rs : List (List ℕ)) (b : Book) (ls : List Line) → length (record_lines b ls rs) ≡ length ls
unfolding record_lines
lines-length [] b ls = refl
lines-length (r ∷ rs) b ls =
    lines-length rs (receive b (lent ls r)).book (lines_left b (lent ls r)) ∙ left-length b (decoded r) ls

-- a list that is not good stays
bad-lines : (rs : List (List ℕ)) (b : Book) (ls : List Line) → good b ls ≡ false → record_lines b ls rs ≡ ls
unfolding record_lines receive lines_left admitted arrive lines_read
bad-lines [] b ls q = refl
bad-lines (r ∷ rs) b ls q = rw q (bad-lines rs b ls q)

lines-back : (b : Book) (ls : List Line) (s : List ℕ) → given_lines (taken_lines (run_lines b ls s)) ls ≡ run_lines b ls s
unfolding run_lines
lines-back b ls s =
    on_test (good b ls)
    (λ q. given_back (record_lines b ls (records_in s)) ls (lines-length (records_in s) b ls) (good-list b ls q).most)
    (λ q. rw (bad-lines (records_in s) b ls q) (given-taken ls))

-- stored back if the call answered, and otherwise as they were taken
either-back : (w : Bool) (after new ls : List Line) → given_lines after ls ≡ new
    → given_lines (cond w after (taken_lines ls)) ls ≡ cond w new ls
either-back true after new ls e = e
either-back false after new ls e = given-taken ls

-- ## `rights_answer`

module _ (buffer : List ℕ) (size : ℕ) (records old : List ℕ) (before : ℕ) (ls : List Line) where
  abbrev b : Book
  b = lent_book buffer size

  abbrev room : ℕ
  room = length old

  abbrev code_by_lem : ℕ
  code_by_lem = code_by buffer size records old before (taken_lines ls) (length ls)

  abbrev pub Answer : ℕ → List ℕ → ℕ → List ℕ → ℕ → List Line → Type 0
  Answer code buffer' size' out written last =
      (code ≡ answer_code buffer size ls records room)
      × (buffer' ≡ image_after buffer size ls records room)
      × (size' ≡ size_after buffer size ls records room)
      × (out ≡ out_after buffer size ls records old)
      × (written ≡ written_after buffer size ls records room before)
      × (last ≡ report_after buffer size ls records room)

  -- a text that has no room: nothing is answered
  no_answer_lem : (next : Book) → fits records room ≡ false → eqb (call_code buffer size (fits records room) next) 0 ≡ false
  unfolding call_code
  no_answer_lem next f =
      on_test (eqb (read_code (image_in buffer size)) 0) (λ w. rw (f, w) refl) (λ w. rw (f, w) w)

  no_text : (n m : Book) → fits records room ≡ false
      → call_code buffer size (fits records room) n ≡ call_code buffer size (fits records room) m
  unfolding call_code
  no_text n m f = rw f refl

  nothing : {A : Type 0} (x y old' : A) → fits records room ≡ false
      → if_answered code_by_lem x old' ≡ if_answered (call_code buffer size (fits records room) (run_book b ls records)) y old'
  nothing x y old' f =
      rw (no_answer_lem (block_book b (taken_lines ls) (length ls) records room) f, no_answer_lem (run_book b ls records) f) refl

  module _ (f : fits records room ≡ true) where
    next : block_book b (taken_lines ls) (length ls) records room ≡ run_book b ls records
    next = block-book b ls records room f

    text : block_text b (taken_lines ls) (length ls) records ≡ run_text b ls records
    text = block-text b ls records room f

    code : code_by_lem ≡ call_code buffer size (fits records room) (run_book b ls records)
    code = ap (call_code buffer size (fits records room)) next

    buffer-is : block_buffer b (taken_lines ls) (length ls) records old ≡ run_text b ls records ++ drop (length (run_text b ls records)) old
    unfolding block_buffer
    buffer-is = rw f (ap (λ (t : List ℕ). t ++ drop (length t) old) text)

    written_is : block_written b (taken_lines ls) (length ls) records room ≡ length (run_text b ls records)
    unfolding block_written
    written_is = rw f (ap length text)

    lines_are : given_lines (block_lines b (taken_lines ls) (length ls) records room) ls ≡ run_lines b ls records
    lines_are = ap (λ (m : List Line). given_lines m ls) (block-lines b ls records room f) ∙ lines-back b ls records

  changed : {A : Type 0} (x y old' : A) → (fits records room ≡ true → x ≡ y)
      → if_answered code_by_lem x old' ≡ if_answered (call_code buffer size (fits records room) (run_book b ls records)) y old'
  changed x y old' e =
      on_test (fits records room)
      (λ f. ap₂ (λ (c : ℕ). λ (z : _). if_answered c z old') (code f) (e f))
      (λ f. nothing x y old' f)

  pub answer-left : (result : ℕ) (buffer' : List ℕ) (size' : ℕ) (out : List ℕ) (written : ℕ) (after last : List Line)
      → AnsweredBy buffer size records old before (taken_lines ls) (length ls) result buffer' size' out written after
      → last ≡ given_lines after ls → Answer result buffer' size' out written last
  unfolding answer_code image_after size_after out_after written_after report_after
  answer-left result buffer' size' out written after last e l = (
    e.0 ∙ on_test (fits records room) (λ f. code f) (λ f. no_text _ _ f),
    e.1.0 ∙ changed _ _ buffer (λ f. ap (λ (n : Book). write_buffer n buffer) (next f)),
    e.1.1.0 ∙ changed _ _ size (λ f. ap length_of (next f)),
    e.1.1.1.0 ∙ changed _ _ old buffer-is,
    e.1.1.1.1.0 ∙ changed _ _ before written_is,
    l
        ∙ ap (λ (m : List Line). given_lines m ls) e.1.1.1.1.1
        ∙ either-back (eqb code_by_lem 0) _ _ ls refl
        ∙ changed _ _ ls lines_are,
  )

  -- stored only if the call answered
  pub answer-stored :
      (r : Result Block Failure) (buffer' : List ℕ) (size' : ℕ) (out : List ℕ) (written : ℕ) (last : List Line) →
      AnsweredBy buffer size records old before (taken_lines ls) (length ls) (result_code r) buffer' size' out
      (result_or r (λ x. x.written) before) (result_or r (λ x. x.report.lines) (taken_lines ls)) →
      MatchResult r (λ x. (written ≡ x.written) × (last ≡ given_lines x.report.lines ls)) (λ f. (written ≡ before) × (last ≡ ls)) →
      Answer (result_code r) buffer' size' out written last
  answer-stored (Ok x) buffer' size' out written last e k =
      rw k.0 (answer-left 0 buffer' size' out x.written x.report.lines last e k.1)
  answer-stored (Err f) buffer' size' out written last e k =
      rw k.0 (answer-left (failure_code f) buffer' size' out before (taken_lines ls) last e (k.1 ∙ sym (given-taken ls)))

-- ## `rights_answer_one`

module _ (buffer : List ℕ) (size : ℕ) (r : List ℕ) (code₀ entry₀ until₀ : ℕ) (ls : List Line) where
  abbrev pub One : ℕ → List ℕ → ℕ → ℕ → ℕ → ℕ → List Line → Type 0
  One result buffer' size' code entry until last =
      (result ≡ one_result buffer size ls r)
      × (buffer' ≡ one_image buffer size ls r)
      × (size' ≡ one_size buffer size ls r)
      × (code ≡ one_code buffer size ls r code₀)
      × (entry ≡ one_entry buffer size ls r entry₀)
      × (until ≡ one_until buffer size ls r until₀)
      × (last ≡ one_report buffer size ls r)

  pub one_left : (result : ℕ) (buffer' : List ℕ) (size' code entry until : ℕ) (after last : List Line)
      → OneBy buffer size r code₀ entry₀ until₀ (taken_lines ls) (length ls) result buffer' size' code entry until after
      → last ≡ given_lines after ls → One result buffer' size' code entry until last
  unfolding one_step one_result one_image one_size one_code one_entry one_until one_report
  one_left result buffer' size' code entry until after last e l =
      let same = reported-outcome (lent_book buffer size) (decoded r) ls in
      let c : Outcome → ℕ = λ (o : Outcome). call_code buffer size true o.book in (
        e.0 ∙ ap c same,
        e.1.0 ∙ ap (λ (o : Outcome). if_answered (c o) (write_buffer o.book buffer) buffer) same,
        e.1.1.0 ∙ ap (λ (o : Outcome). if_answered (c o) (length_of o.book) size) same,
        e.1.1.1.0 ∙ ap (λ (o : Outcome). if_answered (c o) o.answer.code code₀) same,
        e.1.1.1.1.0 ∙ ap (λ (o : Outcome). if_answered (c o) o.answer.entry entry₀) same,
        e.1.1.1.1.1.0 ∙ ap (λ (o : Outcome). if_answered (c o) o.answer.until until₀) same,
        l
            ∙ ap (λ (m : List Line). given_lines m ls) e.1.1.1.1.1.1
            ∙ either-back (eqb (c (outcome_of (step_by buffer size r code₀ entry₀ until₀ (taken_lines ls) (length ls)))) 0) _ _ ls
            (reported-lines (lent_book buffer size) (decoded r) ls)
            ∙ ap (λ (o : Outcome). if_answered (c o) (lines_left (lent_book buffer size) (lent ls r)) ls) same,
      )

  pub one-stored :
      (x : Result Reported Failure) (buffer' : List ℕ) (size' code entry until : ℕ) (last : List Line) →
      OneBy buffer size r code₀ entry₀ until₀ (taken_lines ls) (length ls) (result_code x) buffer' size'
      (result_or x (λ o. o.answer.code) code₀) (result_or x (λ o. o.answer.entry) entry₀)
      (result_or x (λ o. o.answer.until) until₀) (result_or x (λ o. o.lines) (taken_lines ls)) →
      MatchResult x
      (λ o. (code ≡ o.answer.code) × (entry ≡ o.answer.entry) × (until ≡ o.answer.until) × (last ≡ given_lines o.lines ls))
      (λ f. (code ≡ code₀) × (entry ≡ entry₀) × (until ≡ until₀) × (last ≡ ls)) →
      One (result_code x) buffer' size' code entry until last
  one-stored (Ok o) buffer' size' code entry until last e k =
      rw (k.0, k.1, k.2) (one_left 0 buffer' size' o.answer.code o.answer.entry o.answer.until o.lines last e k.3)
  one-stored (Err f) buffer' size' code entry until last e k =
      rw (k.0, k.1, k.2)
      (one_left (failure_code f) buffer' size' code₀ entry₀ until₀ (taken_lines ls) last e (k.3 ∙ sym (given-taken ls)))

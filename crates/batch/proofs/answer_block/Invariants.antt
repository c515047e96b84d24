-- `batch::answer_block` meets its contract. The invariant: the first i records are answered, no open use ends before next, and the rows
-- and ends are those of the entries and players.
use Prim.Native.Nat.{ℕ, ◌+◌, ◌*◌, ◌-◌, ◌/◌, ◌%◌, ◌<◌, ◌≤◌, min}
use mathlib.Core.Path.{◌≡◌, refl, sym, ap, ap₂, subst, ◌∙◌}
use mathlib.Core.Logic.{◌⊎◌, ⊎_elim}
use mathlib.Core.Bool.{Bool, true, false}
use mathlib.Core.List.{List, [], map}
use native.Mathlib.Omega.{arith}
use native.Mathlib.Nat.{min-le_right}
use borrow.Author.Rules.{rules}
use borrow.Author.Tests.{le-leb, lt-leb, ne_eqb}
use lib.ListN.{length, get_or, set, take, length-set, get_or-eq_default}
use lib.Seq.{set_out}
use lib.Dec.{leb, ltb, eqb}
use Rattle.numbers.proofs.Loops.{length-mapped}
use Rattle.book.specs.declared.Answer.{Answer}
use Rattle.book.specs.declared.Asset.{Asset}
use Rattle.book.specs.declared.Last.{Last}
use Rattle.book.specs.declared.Latest.{Latest}
use Rattle.book.specs.declared.Line.{Line}
use Rattle.book.specs.declared.Book.{Book}
use Rattle.book.specs.declared.Entry.{Entry}
use Rattle.book.specs.declared.Event.{Event}
use Rattle.book.specs.declared.Kind.{Kind}
use Rattle.book.specs.declared.Recent.{Recent}
use Rattle.book.specs.declared.Request.{Request}
use Rattle.book.specs.declared.Request.TheVariants.{Begin}
use Rattle.book.specs.Decoded.{Decoded, Valid}
use Rattle.book.specs.declared.Player.{Player}
use Rattle.book.specs.declared.Meters.{Meters}
use Rattle.book.specs.declared.Open.{Open}
use Rattle.book.specs.declared.Outcome.{Outcome}
use Rattle.book.specs.Blank.{no_entry}
use Rattle.book.specs.Changed.{changed}
use Rattle.model.specs.Book.{limits_at, meters_at, player_at, latest_time}
use Rattle.model.specs.Choice.{asks, no_end, choose_of, any_of}
use Rattle.model.specs.Record.{record_size, decoded}
use Rattle.model.specs.Step.{arrive, last_at, open_at, recent_of, latest_by}
use Rattle.model.specs.Report.{line_at, raised, overdue, recorded_all, ended_by, lines_read}
use Rattle.model.specs.Meters.{is_on, released, shut, expired}
use Rattle.model.specs.Run.{record_count, record_at}
use Rattle.rules.specs.Rules.{wire_of}
use Rattle.choice.specs.declared.Best as code
use Rattle.choice.specs.declared.Row.{Row}
use Rattle.rules.specs.Codes.{begin_code}
use Rattle.choice.specs.Best.{best_after, choice_after, found_after, entry_taken, found-turn, seen, seen-found, at_of}
use Rattle.choice.specs.Choice.{found-at}
use Rattle.choice.specs.Row.{row_of, row_taken, row-taken, refreshed_row, row-refreshed}
use Rattle.index.specs.Ends.{end_of, end_of_player, never}
use Rattle.index.specs.Rows.{row_of_entry, no_row, row_at}
use Rattle.index.specs.Places.{reach_at}
use Rattle.text.specs.Lines.{line_end, line_buffer}
use Rattle.uses.specs.declared.Effect.{Effect}
use Rattle.uses.specs.Uses.{placed, stored, cancel_on}
use Rattle.step.specs.Settle.{settled_book, settled_to, settle-none, settle-turn, settle_one, with}
use Rattle.model.proofs.Ledger.Concrete.{settled-size}
use Rattle.metering.specs.Good.{good_lines, good_after, good-raised}
use Rattle.metering.specs.Recording.{due-none, request_line, request_seconds, refused-kept}
use Rattle.step.specs.Lines.{lines_taken}
use Rattle.step.specs.Step.{recent_on}
use Rattle.batch.specs.Block.{step_on, fits, block_book, block_lines, block_written, block_buffer}
use Rattle.batch.specs.Progress.{Progress, progress-none, progress-length, progress-next, progress-all, record-part}
use Rattle.batch.specs.NextExpiry.{NextExpiry, least_end, expiry-start, Settled, settled-by, settled-still, expiry-store, expiry-keep}
use Rattle.batch.specs.NextExpiry.{end-due, end_on, reached, kept-end, ends_next, ends_same, shut-end, recorded-still}
use Rattle.batch.specs.NextExpiry.{recorded-by}
use Rattle.batch.specs.StepCases.{looked, looked-most, act_on, closing, done_on, Admitted, admitted, Planned, planned-continue}
use Rattle.batch.specs.StepCases.{planned-stop, planned-cancel, planned-begin, usable-is, parent_is, case-invalid}
use Rattle.batch.specs.StepCases.{answered_by, noted-answer, case-taken, released-due, released-far, released-still, shut-not}
use Rattle.batch.specs.StepCases.{rows_next, admit, admitted-few, reported-as, case-lines, lines-still, lines-out, lines-raised}
use Rattle.batch.specs.StepCases.{lines-kept, acted-raised, acted-kept, case-refused, case-resent}
use Rattle.batch.proofs.answer_block.Given as goal

-- the rows that stand beside a book
abbrev pub rows_for : Book → List Row
rows_for b = map row_of_entry b.entries

-- and the ends
abbrev pub ends_for : Book → List ℕ
ends_for b = map end_of_player b.players

-- what holds between two records: b and the lines ls at the start, of which `lent` were lent
abbrev pub Going : Book → List Line → ℕ → List ℕ → List ℕ → ℕ → List ℕ → Book → List Line → List Row → List ℕ → Bool → ℕ → ℕ → ℕ → Type 0
Going b ls lent s old count out book report rows ends good next at i = (i ≤ count) ×
    (Progress b ls lent s old i book report out at) × (NextExpiry next book.players) × (length book.entries ≡ 64) ×
    (length book.players ≡ 16) × (rows ≡ rows_for book) × (book.assets ≡ b.assets) × (book.assetcount ≡ b.assetcount) ×
    (ends ≡ ends_for book) × (good ≡ good_lines b.assets b.assetcount report lent) × (length report ≡ 64)

abbrev pub invariant-loop-p : goal.invariant-loop-p
invariant-loop-p l =
    (l.p ≤ 16) × (l.book ≡ settled_to l.t l.p l.initial.book) × (l.next ≡ least_end l.t l.initial.book.players l.p) × (l.rows ≡ rows_for l.book) × (l.ends ≡ ends_for l.book) ×
    (length l.book.players ≡ 16) × (l.lines ≡ recorded_all l.initial.book l.initial.lines (overdue l.t (take l.p l.initial.book.players))) ×
    (l.good ≡ good_lines l.fn.b.assets l.initial.book.assetcount l.lines l.report.lent) × (length l.lines ≡ 64)

abbrev pub invariant-loop-e : goal.invariant-loop-e
invariant-loop-e l = (l.e ≤ l.n) × (l.n ≤ 64) × (l.best ≡ found_after l.book.entries l.asset l.reach.parent l.kind l.ask l.e)

abbrev pub invariant-loop-i : goal.invariant-loop-i
invariant-loop-i l = Going l.initial.book l.initial.lines l.report.lent l.records l.initial.out l.count l.out l.book l.lines l.rows l.ends l.good l.next l.at l.i

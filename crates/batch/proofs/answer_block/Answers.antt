use Prim.Native.Nat.{ℕ, ◌+◌, ◌*◌, ◌-◌, ◌/◌, ◌%◌, ◌<◌, ◌≤◌, min}
use mathlib.Core.Path.{◌≡◌, refl, sym, ap, ap₂, subst, ◌∙◌}
use mathlib.Core.Logic.{◌⊎◌, ⊎_elim}
use mathlib.Core.Bool.{Bool, true, false}
use mathlib.Core.List.{List, [], map}
use native.Mathlib.Omega.{arith}
use native.Mathlib.Nat.{min-le_right}
use borrow.Author.Rules.{rules}
use borrow.Author.Tests.{le-leb, lt-leb, ne_eqb, lt-ltb, le-ltb}
use lib.ListN.{length, get_or, set, take, drop, length-set, get_or-eq_default}
use lib.Seq.{set_out}
use lib.Dec.{leb, ltb, eqb}
use Rattle.numbers.proofs.Loops.{length-mapped}
use Rattle.std.specs.Prelude.{Option, Some, None}
use Rattle.book.specs.declared.Answer.{Answer}
use Rattle.book.specs.declared.Asset.{Asset}
use Rattle.book.specs.declared.Last.{Last}
use Rattle.book.specs.declared.Latest.{Latest}
use Rattle.book.specs.declared.Line.{Line}
use Rattle.book.specs.declared.Book.{Book}
use Rattle.book.specs.declared.Entry.{Entry}
use Rattle.book.specs.declared.Event.{Event}
use Rattle.book.specs.declared.Kind.{Kind}
use Rattle.book.specs.declared.Recent.{Recent}
use Rattle.book.specs.declared.Request.{Request}
use Rattle.book.specs.declared.Request.TheVariants.{Begin}
use Rattle.book.proofs.Codes.{never-granted}
use Rattle.book.specs.Codes.{event_code}
use Rattle.book.specs.Decoded.{Decoded, Valid}
use Rattle.book.specs.Gate.{Refuse, Resend, Take, passed}
use Rattle.step.specs.Step.{found_at}
use Rattle.book.specs.declared.Player.{Player}
use Rattle.book.specs.declared.Meters.{Meters}
use Rattle.book.specs.declared.Open.{Open}
use Rattle.book.specs.declared.Outcome.{Outcome}
use Rattle.book.specs.Blank.{no_entry}
use Rattle.book.specs.Changed.{changed}
use Rattle.model.specs.Book.{limits_at, meters_at, player_at, latest_time}
use Rattle.model.specs.Choice.{asks, no_end, choose_of, any_of}
use Rattle.model.specs.Record.{record_size, decoded}
use Rattle.model.specs.Step.{arrive, last_at, open_at, recent_of, latest_by}
use Rattle.model.specs.Report.{line_at, raised, overdue, recorded_all, ended_by, lines_read}
use Rattle.model.specs.Meters.{is_on, released, shut, expired}
use Rattle.model.specs.Run.{record_count, record_at}
use Rattle.rules.specs.Rules.{wire_of}
use Rattle.choice.specs.declared.Best as code
use Rattle.choice.specs.declared.Row.{Row}
use Rattle.rules.specs.Codes.{begin_code}
use Rattle.choice.specs.Best.{best_after, choice_after, found_after, entry_taken, found-turn, seen, seen-found, at_of}
use Rattle.choice.specs.Choice.{found-at}
use Rattle.choice.specs.Row.{row_of, row_taken, row-taken, refreshed_row, row-refreshed}
use Rattle.index.specs.Ends.{end_of, end_of_player, never}
use Rattle.index.specs.Rows.{row_of_entry, no_row, row_at}
use Rattle.index.specs.Places.{reach_at, places_of, parents_of}
use Rattle.text.specs.Lines.{line_end, line_buffer}
use Rattle.uses.specs.declared.Effect.{Effect}
use Rattle.uses.specs.Uses.{placed, stored, cancel_on}
use Rattle.step.specs.Settle.{settled_book, settled_to, settle-none, settle-turn, settle_one, with}
use Rattle.model.proofs.Ledger.Concrete.{settled-size}
use Rattle.metering.specs.Good.{good_lines, good_after, good-raised, good-used}
use Rattle.metering.specs.Recording.{due-none, line_in, request_in, request_seconds, refused-kept}
use Rattle.step.specs.Lines.{lines_taken}
use Rattle.step.specs.Step.{recent_on}
use Rattle.batch.specs.Block.{step_on, fits, block_book, block_lines, block_written, block_buffer}
use Rattle.batch.specs.Progress.{Progress, progress-none, progress-length, progress-next, progress-all, record-part}
use Rattle.batch.specs.NextExpiry.{NextExpiry, least_end, expiry-start, Settled, settled-by, settled-still, expiry-store, expiry-keep}
use Rattle.batch.specs.NextExpiry.{end-due, end_on, reached, kept-end, ends_next, ends_same, shut-end, recorded-still}
use Rattle.batch.specs.NextExpiry.{recorded-by}
use Rattle.batch.specs.StepCases.{looked, looked-most, act_on, closing, done_on, Admitted, admitted, Planned, planned-continue}
use Rattle.batch.specs.StepCases.{planned-stop, planned-cancel, planned-begin, usable-is, parent_is, case-invalid}
use Rattle.batch.specs.StepCases.{answered_by, noted-answer, case-taken, released-due, released-far, released-still, shut-not}
use Rattle.batch.specs.StepCases.{rows_next, admit, admitted-few, reported-as, case-lines, lines-still, lines-out, lines-raised}
use Rattle.batch.specs.StepCases.{few-line, few-request, slots-line, slots-line-below, slots-request, slots-request-below, lines-kept, acted-raised, acted-kept, case-refused, case-resent}
use Rattle.batch.proofs.answer_block.Invariants.{rows_for, ends_for, Going}
use Rattle.batch.proofs.answer_block.Goals as goal
use Rattle.batch.proofs.answer_block.Goals.{then-next-t+else-loop-p-test, else-next-t, in-Begin+else-loop-e-test, in-Continue, in-Stop}
use Rattle.batch.proofs.answer_block.Goals.{in-Cancel, in-Ok-found, in-Err-found, then-k-lt64-2, else-k-lt64-2, in-Begin-request}
use Rattle.batch.proofs.answer_block.Goals.{in-Continue-request, in-Stop-request, in-Cancel-request, then-k-lt64-3, else-k-lt64-3}
use Rattle.batch.proofs.answer_block.Goals.{then-end-t, else-end-t, then-k-lt64+in-Some, in-Some-request_line, in_default-request_line}
use Rattle.batch.proofs.answer_block.Goals.{then-k-lt64+in_default, else-k-lt64}
use Rattle.batch.proofs.answer_block.Tie as tie
use Rattle.batch.proofs.answer_block.Lts as lts
use Rattle.batch.proofs.answer_block.Reads as reads

abbrev Entered : Type 0
Entered = lts.Start tie.the-claims reads.Pre reads.Post goal.the-invariant-loop-p goal.the-decreases-loop-p goal.the-invariant-loop-e goal.the-decreases-loop-e goal.the-invariant-loop-i goal.the-decreases-loop-i tie.handed_clauses

abbrev Turn : Type 0
Turn = lts.In-loop tie.the-claims reads.Pre reads.Post goal.the-invariant-loop-p goal.the-decreases-loop-p goal.the-invariant-loop-e goal.the-decreases-loop-e goal.the-invariant-loop-i goal.the-decreases-loop-i tie.handed_clauses

-- the record is decoded, and admitted if the list is good
abbrev Read : Type 0
Read = lts.After-received tie.the-claims reads.Pre reads.Post goal.the-invariant-loop-p goal.the-decreases-loop-p goal.the-invariant-loop-e goal.the-decreases-loop-e goal.the-invariant-loop-i goal.the-decreases-loop-i tie.handed_clauses

-- it holds an event, and the gate has judged it
abbrev Judged : Type 0
Judged = lts.After-gate_of tie.the-claims reads.Pre reads.Post goal.the-invariant-loop-p goal.the-decreases-loop-p goal.the-invariant-loop-e goal.the-decreases-loop-e goal.the-invariant-loop-i goal.the-decreases-loop-i tie.handed_clauses

-- the event is taken
abbrev Taken : Type 0
Taken = lts.Past-After-enum_told_along2 tie.the-claims reads.Pre reads.Post goal.the-invariant-loop-p goal.the-decreases-loop-p goal.the-invariant-loop-e goal.the-decreases-loop-e goal.the-invariant-loop-i goal.the-decreases-loop-i tie.handed_clauses

-- every use that is due has ended
abbrev AllSettled : Type 0
AllSettled = lts.Joined2 tie.the-claims reads.Pre reads.Post goal.the-invariant-loop-p goal.the-decreases-loop-p goal.the-invariant-loop-e goal.the-decreases-loop-e goal.the-invariant-loop-i goal.the-decreases-loop-i tie.handed_clauses

-- the entry and the code are known
abbrev Chosen : Type 0
Chosen = lts.At-match5-branch tie.the-claims reads.Pre reads.Post goal.the-invariant-loop-p goal.the-decreases-loop-p goal.the-invariant-loop-e goal.the-decreases-loop-e goal.the-invariant-loop-i goal.the-decreases-loop-i tie.handed_clauses

abbrev entered : Turn → Entered
entered c = c.before.before.before.before.before.before.before.before.before.before.before.before.before.before.before.before.before

abbrev turn : Read → Turn
turn c = c.before.before.before

abbrev read : Judged → Read
read c = c.before.before.before.before.before.before.before

abbrev judged : Taken → Judged
judged c = c.before

abbrev taken : AllSettled → Taken
taken c = c.before

abbrev all_settled : Chosen → AllSettled
all_settled c = c.before.before.before

entries-64 : (c : Entered) → length c.args.b.entries ≡ 64
entries-64 c = search length-mapped

players-16 : (c : Entered) → length c.args.b.players ≡ 16
players-16 c = search length-mapped

assets-64 : (c : Entered) → length c.args.b.assets ≡ 64
assets-64 c = search length-mapped

lines-64 : (c : Entered) → length c.args.report.lines ≡ 64
lines-64 c = search length-mapped

-- in a turn there is room for one line more
in-turn : (c : Turn) → (c.loop-i.i + 1 ≤ (length (entered c).args.records.now + (record_size - 1)) / record_size) ×
    (19 * (c.loop-i.i + 1) ≤ length (entered c).args.out.now)
in-turn c = (omega arith, omega arith)

-- the book before the record, and the record
abbrev book-at : Turn → Book
book-at c = c.loop-i.book

abbrev record-at : Turn → List ℕ
record-at c = record_at (entered c).args.records.now c.loop-i.i

-- what it holds if the list is good
abbrev admitted-at : Turn → Decoded
admitted-at c = admit c.loop-i.good (decoded (record-at c))

-- the bytes that are read are the record's
is-record : (c : Read) → admit (turn c).loop-i.good (decoded
    (take (c.min-to.result - record_size * (turn c).loop-i.i) (drop (record_size * (turn c).loop-i.i) (entered (turn c)).args.records.now)))
    ≡ admitted-at (turn c)
is-record c =
    let i = (turn c).loop-i.i in
    ap (λ (r : List ℕ). admit (turn c).loop-i.good (decoded r))
    (record-part (entered (turn c)).args.records.now i (c.min-to.result - record_size * i) (omega arith))

abbrev event-at : Judged → Event
event-at c = c.in-Ok.event

is-valid : (c : Judged) → admitted-at (turn (read c)) ≡ Valid (event-at c)
is-valid c = sym (is-record (read c)) ∙ c.in-Ok.ensures

is-few : (c : Judged) → (event-at c).player ≤ 15
is-few c = admitted-few (turn (read c)).loop-i.good (record-at (turn (read c))) (event-at c) (is-valid c)

is-admitted : (c : Taken) → Admitted (book-at (turn (read (judged c)))) (admitted-at (turn (read (judged c)))) (event-at (judged c))
is-admitted c =
    let j = judged c in
    admitted (book-at (turn (read j))) (admitted-at (turn (read j))) (turn (read j)).loop-i.lines (event-at j) (is-valid j)
    (is-few j) Take (sym (c.in-Ok-Take.ensures ∙ ap passed c.in-Ok-Take.field-0-is)) refl

is-player : (c : Taken) → (event-at (judged c)).player % 16 ≡ (event-at (judged c)).player
is-player c = let h = (is-admitted c).few-players in omega arith

after-settle : (c : AllSettled) → (Settled (event-at (judged (taken c))).time (book-at (turn (read (judged (taken c))))) c.if-next-t.book
    c.if-next-t.next) × (c.if-next-t.rows ≡ rows_for c.if-next-t.book) × (c.if-next-t.ends ≡ ends_for c.if-next-t.book) ×
    (c.if-next-t.lines ≡ recorded_all (book-at (turn (read (judged (taken c))))) (turn (read (judged (taken c)))).loop-i.lines
    (overdue (event-at (judged (taken c))).time (book-at (turn (read (judged (taken c))))).players)) ×
    (c.if-next-t.good ≡ good_lines (entered (turn (read (judged (taken c))))).args.b.assets
    (entered (turn (read (judged (taken c))))).args.b.assetcount c.if-next-t.lines
    (entered (turn (read (judged (taken c))))).args.report.lent) ×
    (length c.if-next-t.lines ≡ 64)
after-settle c =
    let l = (turn (read (judged (taken c)))).loop-i in
    let t = (event-at (judged (taken c))).time in
    let start = (entered (turn (read (judged (taken c))))).args in
    elim c.if-next-t.branch [
      | then-next-t+else-loop-p-test w ↦ (
        settled-by t l.book c.if-next-t.book l.invariant.3 l.invariant.4 c.if-next-t.next w.loop-p.p w.loop-p.invariant.0 w.loop-p-test.false
            (w.book-is ∙ w.loop-p.invariant.1) (w.next-is ∙ w.loop-p.invariant.2),
        w.rows-is ∙ w.loop-p.invariant.3 ∙ ap rows_for (sym w.book-is),
        w.ends-is ∙ w.loop-p.invariant.4 ∙ ap ends_for (sym w.book-is),
        w.lines-is ∙ recorded-by l.book l.lines t w.loop-p.p w.loop-p.lines (omega (arith, w.loop-p-test.false, l.invariant.4)) w.loop-p.invariant.6,
        w.good-is ∙ w.loop-p.invariant.7 ∙ ap₂ (λ (n : ℕ) (ms : List Line). good_lines start.b.assets n ms start.report.lent) l.invariant.7 (sym w.lines-is),
        ap length w.lines-is ∙ w.loop-p.invariant.8,
      )
      | else-next-t w ↦ (
        settled-still t l.book c.if-next-t.book l.invariant.3 l.invariant.4 l.next c.if-next-t.next l.invariant.2 w.if-next-t.false w.book-is w.next-is,
        w.rows-is ∙ l.invariant.5 ∙ ap rows_for (sym w.book-is),
        w.ends-is ∙ l.invariant.8 ∙ ap ends_for (sym w.book-is),
        w.lines-is ∙ recorded-still l.book l.lines t l.next l.invariant.2 w.if-next-t.false,
        w.good-is ∙ l.invariant.9 ∙ ap (λ (ms : List Line). good_lines start.b.assets start.b.assetcount ms start.report.lent) (sym w.lines-is),
        ap length w.lines-is ∙ l.invariant.10,
      )
    ]

-- settling leaves the assets
assets-kept : (c : AllSettled) → (c.if-next-t.book.assets ≡ (entered (turn (read (judged (taken c))))).args.b.assets) ×
    (c.if-next-t.book.assetcount ≡ (entered (turn (read (judged (taken c))))).args.b.assetcount)
unfolding settled_book
assets-kept c =
    let z = (after-settle c).0.is-settled in
    let l = (turn (read (judged (taken c)))).loop-i in
    (ap (λ (m : Book). m.assets) z ∙ l.invariant.6, ap (λ (m : Book). m.assetcount) z ∙ l.invariant.7)

-- the match leaves the request
request-kept : (c : Chosen) → c.match-request.request ≡ (event-at (judged (taken (all_settled c)))).request
request-kept c =
    elim c.match-request.branch [
      | in-Begin+else-loop-e-test w ↦ w.request-is ∙ sym w.in-Begin.is
      | in-Continue w ↦ w.request-is
      | in-Stop w ↦ w.request-is
      | in-Cancel w ↦ w.request-is
    ]

-- the use that the asking player has open
abbrev open-at : Chosen → Open
open-at c = open_at (all_settled c).if-next-t.book.players ((event-at (judged (taken (all_settled c)))).player % 16)

planned : (c : Chosen) → Planned (all_settled c).if-next-t.book (event-at (judged (taken (all_settled c)))) (open-at c) c.match-request.found
planned c =
    let s = all_settled c in
    let n = s.if-next-t.book in
    let e = event-at (judged (taken s)) in
    let came = is-admitted (taken s) in
    let kept = assets-kept s in
    let start = entered (turn (read (judged (taken s)))) in
    let o = open-at c in
    let ho : o ≡ open_at n.players e.player = ap (open_at n.players) (is-player (taken s)) in
    let ht : e.time ≤ latest_time = came.early in
    elim c.match-request.branch [
      | in-Begin+else-loop-e-test w ↦
          let sort = w.in-Begin.sort in
          let asset = w.in-Begin.asset in
          let kind = w.from-kind.result in
          let r = w.reach_at-reach.result in
          let tables = c.fill_places.ensures in
          let ats = start.args.b.assets in
          let size : length ats ≡ 64 = assets-64 start in
          let room : min start.args.b.assetcount 64 ≤ length ats = omega arith in
          let hr = w.reach_at-reach.ensures ∙ ap₂ (λ (x y : List ℕ). reach_at x y asset) tables.0 tables.1
          ∙ ap (λ (j : ℕ). reach_at (places_of (take j ats) (length (take j ats))) (parents_of (take j ats) (length (take j ats))) asset)
          c.at_most_64-slots.ensures in
          let end : w.loop-e.e ≡ w.looked_at-n.result = omega (arith, w.loop-e.invariant.0, w.loop-e-test.false) in
          let few : w.loop-e.e ≤ 64 = omega (arith, w.loop-e.invariant.0, w.loop-e.invariant.1) in
          let is-seen : seen w.loop-e.best ≡ best_after n.entries asset r.parent kind (asks n e) w.loop-e.e =
          ap seen w.loop-e.invariant.2 ∙ seen-found n.entries asset r.parent kind (asks n e) w.loop-e.e in
          subst (Planned n e o) (sym w.found-is)
          (planned-begin n e o sort asset kind w.looked_at-n.result r (seen w.loop-e.best)
          ho w.in-Begin.is w.from-kind.ensures
          (usable-is n start.args.b.assets start.args.b.assetcount asset r kept.0 kept.1 (omega arith) room hr)
          (parent_is n start.args.b.assets start.args.b.assetcount asset r kept.0 kept.1 (omega arith) room hr)
          (w.looked_at-n.ensures ∙ ap (looked (is_on o) r.usable) w.at_most_64.ensures)
          (is-seen ∙ ap (best_after n.entries asset r.parent kind (asks n e)) end)
          ht w.at.result
          (w.at.ensures ∙ ap (λ (x : code.Best). at_of x.granted) w.loop-e.invariant.2
          ∙ found-at n.entries asset r.parent kind (asks n e) w.loop-e.e few ∙ ap found_at (sym is-seen))
          w.begin_entry-found.result w.begin_entry-found.ensures)
      | in-Continue w ↦ subst (Planned n e o) (sym w.found-is)
          (planned-continue n e o ho w.further_entry-found.result w.further_entry-found.ensures ht w.in-Continue.is)
      | in-Stop w ↦ subst (Planned n e o) (sym w.found-is)
          (planned-stop n e o ho w.further_entry-found-in-Stop.result w.further_entry-found-in-Stop.ensures w.in-Stop.is)
      | in-Cancel w ↦ subst (Planned n e o) (sym w.found-is)
          (planned-cancel n e o ho w.further_entry-found-in-Cancel.result w.further_entry-found-in-Cancel.ensures w.in-Cancel.is)
    ]

-- what a cancel reads of the event taken last, at the remainder, which is the player
recent-is : (c : Chosen) → recent_of (all_settled c).if-next-t.book.latest (event-at (judged (taken (all_settled c)))).player
    (last_at (all_settled c).if-next-t.book.players ((event-at (judged (taken (all_settled c)))).player % 16)) (open-at c)
    ≡ recent_on (all_settled c).if-next-t.book (event-at (judged (taken (all_settled c))))
recent-is c =
    let s = all_settled c in
    let n = s.if-next-t.book in
    let e = event-at (judged (taken s)) in
    ap (λ (p : ℕ). recent_of n.latest e.player (last_at n.players p) (open_at n.players p)) (is-player (taken s))

-- the operation is done, or refused
abbrev Acted : Type 0
Acted = lts.At-match6-branch tie.the-claims reads.Pre reads.Post goal.the-invariant-loop-p goal.the-decreases-loop-p goal.the-invariant-loop-e goal.the-decreases-loop-e goal.the-invariant-loop-i goal.the-decreases-loop-i tie.handed_clauses

abbrev chosen : Acted → Chosen
chosen c = c.before

-- the way on which the operation is done, and not refused
abbrev Worked : Acted → Type 0
Worked c =
    lts.By-16-At-match6-branch-in-Ok-found tie.the-claims reads.Pre reads.Post goal.the-invariant-loop-p goal.the-decreases-loop-p
    goal.the-invariant-loop-e goal.the-decreases-loop-e goal.the-invariant-loop-i goal.the-decreases-loop-i tie.handed_clauses c.before
    c.match-found.book c.match-found.lines c.match-found.rows c.match-found.ends c.match-found.good c.match-found.next
    c.match-found.answer c.match-found.current

-- the entry that it works on
entry-is : (c : Acted) (w : Worked c) → w.if-k-lt64-2.x ≡ get_or (all_settled (chosen c)).if-next-t.book.entries w.in-Ok-found.k no_entry
entry-is c w =
    let s = all_settled (chosen c) in
    let es = s.if-next-t.book.entries in
    let z = after-settle s in
    elim w.if-k-lt64-2.branch [
      | then-k-lt64-2 v ↦ v.x-is
      | else-k-lt64-2 v ↦ v.x-is ∙ w.blank_entry-x.ensures
          ∙ sym (get_or-eq_default es no_entry (omega (arith, v.if-k-lt64-2.false, z.0.entries)))
    ]

-- a request's effect on an entry
abbrev acts : Chosen → ℕ → Request → Entry → Effect
acts c k y x =
    let n = (all_settled c).if-next-t.book in
    let e = event-at (judged (taken (all_settled c))) in
    act_on y (k % 256) (asks n e) (recent_on n e) x.limits x.meters (open-at c)

-- what it does there
part-is : (c : Acted) (w : Worked c) → w.match-request-2.part
    ≡ acts (chosen c) w.in-Ok-found.k (event-at (judged (taken (all_settled (chosen c))))).request
    (get_or (all_settled (chosen c)).if-next-t.book.entries w.in-Ok-found.k no_entry)
part-is c w =
    let d = chosen c in
    let k = w.in-Ok-found.k in
    let e = event-at (judged (taken (all_settled d))) in
    let x = w.if-k-lt64-2.x in
    let is-part : w.match-request-2.part ≡ acts d k d.match-request.request x =
    elim w.match-request-2.branch [
      | in-Begin-request v ↦ v.part-is ∙ v.begin_on-part.ensures ∙ ap (λ (y : Request). acts d k y x) (sym v.in-Begin-request.is)
      | in-Continue-request v ↦ v.part-is ∙ v.continue_on-part.ensures ∙ ap (λ (y : Request). acts d k y x) (sym v.in-Continue-request.is)
      | in-Stop-request v ↦ v.part-is ∙ v.stop_on-part.ensures ∙ ap (λ (y : Request). acts d k y x) (sym v.in-Stop-request.is)
      | in-Cancel-request v ↦ v.part-is ∙ v.cancel_on-part.ensures
          ∙ ap (λ (r : Recent). cancel_on e.player r x.limits x.meters (open-at d)) (v.recent_of-recent.ensures ∙ recent-is d)
          ∙ ap (λ (y : Request). acts d k y x) (sym v.in-Cancel-request.is)
    ] in
    is-part ∙ ap₂ (acts d k) (request-kept d) (entry-is c w)

-- the settled book at the event's time, with that event taken last and those entries
abbrev timed : Acted → Latest → List Entry → Book
timed c x es =
    let n = (all_settled (chosen c)).if-next-t.book in
    changed n (event-at (judged (taken (all_settled (chosen c))))).time x es n.players

-- with this event, by whether it started an interval
abbrev marked : Acted → Bool → List Entry → Book
marked c w es = timed c (latest_by (event-at (judged (taken (all_settled (chosen c))))) w) es

-- what the operation leaves: the entries with their rows, and with the answer, the use and the mark what the step does
abbrev Left : Acted → Book → List Row → Answer → Open → Bool → Type 0
Left c book rows answer current started =
    (book ≡ marked c started book.entries) × (rows ≡ rows_for book)
    × (record { answer = answer; entries = book.entries; current = current; started = started }
    ≡ done_on (all_settled (chosen c)).if-next-t.book (event-at (judged (taken (all_settled (chosen c))))))
    × (length book.entries ≡ 64)

leaves :
    (c : Acted) (es : List Entry) (a : Answer) (o : Open) (w : Bool) →
    c.match-found.book ≡ marked c w es →
    c.match-found.rows ≡ map row_of_entry es →
    c.match-found.answer ≡ a →
    c.match-found.current ≡ o →
    record { answer = a; entries = es; current = o; started = w }
    ≡ done_on (all_settled (chosen c)).if-next-t.book (event-at (judged (taken (all_settled (chosen c))))) →
    length es ≡ 64 →
    Left c c.match-found.book c.match-found.rows c.match-found.answer c.match-found.current w
leaves c es a o w hb hr ha ho hd hl = (
  hb ∙ ap (λ (m : Book). marked c w m.entries) (sym hb),
  hr ∙ ap rows_for (sym hb),
  ap₂ (λ (x : Answer) (m : Book). record { answer = x; entries = m.entries; current = c.match-found.current; started = w }) ha hb
      ∙ ap (λ (x : Open). record { answer = a; entries = es; current = x; started = w }) ho
      ∙ hd,
  ap (λ (m : Book). length m.entries) hb ∙ hl,
)

left_by : (c : Acted) → (w : Bool) × Left c c.match-found.book c.match-found.rows c.match-found.answer c.match-found.current w
unfolding placed stored
left_by c =
    let d = chosen c in
    let s = all_settled d in
    let e = event-at (judged (taken s)) in
    let n = s.if-next-t.book in
    let es = n.entries in
    let o = open-at d in
    let z = after-settle s in
    elim c.match-found.branch [
      | in-Ok-found w ↦
          let k = w.in-Ok-found.k in
          let x = w.if-k-lt64-2.x in
          let is_x = entry-is c w in
          let part = w.match-request-2.part in
          let hd = (planned d).acts k w.in-Ok-found.is part (part-is c w) in
          let es' = set es k (record { limits = limits_at es k; meters = part.meters }) in
          let done : (w.if-k-lt64-3.book ≡ timed c n.latest es') × (w.if-k-lt64-3.rows ≡ map row_of_entry es') =
          elim w.if-k-lt64-3.branch [
            | then-k-lt64-3 v ↦
                let rs = s.if-next-t.rows in
                let row : get_or rs k no_row ≡ row_of (limits_at es k) (meters_at es k) =
                ap (λ (x : List Row). get_or x k no_row) z.1 ∙ row_at es k (omega (arith, v.if-k-lt64-3.true, z.0.entries)) in (
                  v.book-is,
                  v.rows-is ∙ rows_next es rs k (record { limits = limits_at es k; meters = part.meters }) v.refreshed-row.result z.1
                      (v.refreshed-row.ensures
                      ∙ ap₂ (λ (u : Entry) (r : Row). refreshed_row u.limits part.meters r) is_x row
                      ∙ row-refreshed (limits_at es k) (meters_at es k) part.meters),
                )
            | else-k-lt64-3 v ↦
                let same : es ≡ es' = sym (set_out es k _ (omega (arith, v.if-k-lt64-3.false, z.0.entries))) in (
                  v.book-is ∙ ap (timed c n.latest) same,
                  v.rows-is ∙ z.1 ∙ ap (map row_of_entry) same,
                )
          ] in
          let is-book : c.match-found.book ≡ marked c part.started es' =
          w.book-is
          ∙ ap (λ (m : Book). changed m m.time w.latest_by-header.result m.entries m.players) done.0
          ∙ ap (λ (x : Latest). timed c x es') w.latest_by-header.ensures in (
            part.started,
            leaves c es' part.answer part.current part.started is-book (w.rows-is ∙ done.1) w.answer-is w.current-is hd
                (length-set es k _ ∙ z.0.entries),
          )
      | in-Err-found w ↦ (
        false,
        leaves c es w.refused-answer.result o false (w.book-is ∙ ap (λ (x : Latest). timed c x es) w.latest_by-unmarked.ensures) (w.rows-is ∙ z.1) w.answer-is
            w.current-is
            (ap (λ (x : Answer). record { answer = x; entries = es; current = o; started = false }) w.refused-answer.ensures
            ∙ (planned d).refuses w.in-Err-found.e w.in-Err-found.is)
            z.0.entries,
      )
    ]

-- the lines after the operation, by its answer
abbrev LinesLeft : Acted → List Line → Bool → Answer → Type 0
LinesLeft c report good answer =
    (report ≡ recorded_all (book-at (turn (read (judged (taken (all_settled (chosen c))))))) (all_settled (chosen c)).if-next-t.lines
    (ended_by (event-at (judged (taken (all_settled (chosen c))))).request (event-at (judged (taken (all_settled (chosen c))))).time
    (open-at (chosen c)) answer))
    × (good ≡ good_lines (entered (turn (read (judged (taken (all_settled (chosen c))))))).args.b.assets
    (entered (turn (read (judged (taken (all_settled (chosen c))))))).args.b.assetcount report
    (entered (turn (read (judged (taken (all_settled (chosen c))))))).args.report.lent)
    × (length report ≡ 64)

lines-by : (c : Acted) → LinesLeft c c.match-found.lines c.match-found.good c.match-found.answer
lines-by c =
    let d = chosen c in
    let s = all_settled d in
    let e = event-at (judged (taken s)) in
    let l = (turn (read (judged (taken s)))).loop-i in
    let start = (entered (turn (read (judged (taken s))))).args in
    let b = l.book in
    let n = s.if-next-t.book in
    let es = n.entries in
    let A = s.if-next-t.lines in
    let o = open-at d in
    let z = after-settle s in
    let Good : Bool → List Line → Type 0 = λ v ms. v ≡ good_lines start.b.assets start.b.assetcount ms start.report.lent in
    let moved : (v w : Bool) (ms ns : List Line) → v ≡ w → ms ≡ ns → Good w ns → Good v ms = λ v w ms ns p q g.
    p ∙ g ∙ ap (λ (x : List Line). good_lines start.b.assets start.b.assetcount x start.report.lent) (sym q) in
    elim c.match-found.branch [
      | in-Ok-found w ↦
          let k = w.in-Ok-found.k in
          let x = w.if-k-lt64-2.x in
          let is_x = entry-is c w in
          let part = w.match-request-2.part in
          let names = (planned d).names k w.in-Ok-found.is part (part-is c w) in
          let same-book : (w.if-k-lt64-3.book.switch ≡ n.switch) × (w.if-k-lt64-3.book.assetcount ≡ n.assetcount) =
          elim w.if-k-lt64-3.branch [
            | then-k-lt64-3 v ↦ (ap (λ (m : Book). m.switch) v.book-is, ap (λ (m : Book). m.assetcount) v.book-is)
            | else-k-lt64-3 v ↦ (ap (λ (m : Book). m.switch) v.book-is, ap (λ (m : Book). m.assetcount) v.book-is)
          ] in
          let same-request : w.match-request-2.request ≡ e.request =
          elim w.match-request-2.branch [
            | in-Begin-request v ↦ v.request-is ∙ sym v.in-Begin-request.is
            | in-Continue-request v ↦ v.request-is
            | in-Stop-request v ↦ v.request-is
            | in-Cancel-request v ↦ v.request-is
          ] ∙ request-kept d in
          let slots = d.at_most_64-slots in
          let used = take slots.result start.b.assets in
          let size : length start.b.assets ≡ 64 = assets-64 (entered (turn (read (judged (taken s))))) in
          let asked : request_in w.match-request-2.request part.answer o w.if-k-lt64-3.book.switch x.limits used
          ≡ request_in e.request part.answer o n.switch (limits_at es k) used =
          ap (λ (v : ℕ). request_in w.match-request-2.request part.answer o v x.limits used) same-book.0
          ∙ ap₂ (λ (y : Request) (u : Entry). request_in y part.answer o n.switch u.limits used) same-request is_x in
          let hw = λ (r : Option ℕ) (q : r ≡ request_in e.request part.answer o n.switch (limits_at es k) used).
          slots-request start.b.assets start.b.assetcount slots.result n.assetcount size slots.ensures (assets-kept s).1 n.switch (limits_at es k)
          e.request part.answer o r q in
          let ha : start.b.assets ≡ b.assets = sym l.invariant.6 in
          let after : (w.match-request_line.lines ≡ recorded_all b A (ended_by e.request e.time o part.answer))
          × (Good w.match-request_line.good w.match-request_line.lines) × (length w.match-request_line.lines ≡ 64) =
          elim w.match-request_line.branch [
            | in-Some-request_line u ↦
                let line = u.in-Some-request_line.k in
                let found = u.in-Some-request_line.ensures ∙ asked in
                let small = slots-request-below start.b.assets start.b.assetcount slots.result n.assetcount size slots.ensures (assets-kept s).1
                n.switch (limits_at es k) e.request part.answer o line found in
                let sec = u.request_seconds-seconds.result in
                let y : Line = raised (limits_at es k) sec (line_at A line) in
                let hs : sec ≡ request_seconds e.request e.time o = u.request_seconds-seconds.ensures ∙ ap
                (λ (q : Request). request_seconds q e.time o) same-request in
                let hr : raised x.limits sec (line_at A line) ≡ y = ap (λ (v : Entry). raised v.limits sec (line_at A line)) is_x in
                let to : w.match-request_line.lines ≡ set A line y = u.lines-is ∙ u.raise-good-in-Some-request_line.ensures.report_after ∙ ap (set A line) hr in (
                  to ∙ acted-raised b n e.time z.0.is-settled A start.b.assets ha o part.answer e.request k names line (hw (Some line) found) sec hs
                      small,
                  moved w.match-request_line.good _ w.match-request_line.lines (set A line y)
                      (u.good-is ∙ u.raise-good-in-Some-request_line.ensures.good_value ∙ ap₂ good_after z.4 hr) to
                      (good-raised start.b.assets start.b.assetcount A start.report.lent line (limits_at es k) sec
                      (omega (arith, small, z.5)) small),
                  ap length to ∙ length-set A line y ∙ z.5,
                )
            | in_default-request_line u ↦
                let found = u.in_default-request_line.ensures ∙ asked in (
                  u.lines-is ∙ acted-kept b n e.time z.0.is-settled A start.b.assets ha o part.answer e.request k names 64 (hw None found)
                      (omega arith),
                  moved w.match-request_line.good s.if-next-t.good w.match-request_line.lines A u.good-is u.lines-is z.4,
                  ap length u.lines-is ∙ z.5,
                )
          ] in (
            w.lines-is ∙ after.0 ∙ ap (λ (a : Answer). recorded_all b A (ended_by e.request e.time o a)) (sym w.answer-is),
            moved c.match-found.good w.match-request_line.good c.match-found.lines w.match-request_line.lines w.good-is w.lines-is after.1,
            ap length w.lines-is ∙ after.2,
          )
      | in-Err-found w ↦
          let off : eqb c.match-found.answer.code 0 ≡ false = ap (λ (a : Answer). eqb a.code 0) (w.answer-is ∙ w.refused-answer.ensures)
          ∙ ne_eqb _ 0 (never-granted w.in-Err-found.e) in (
            w.lines-is ∙ refused-kept b A e.time o c.match-found.answer e.request off,
            moved c.match-found.good s.if-next-t.good c.match-found.lines A w.good-is w.lines-is z.4,
            ap length w.lines-is ∙ z.5,
          )
    ]

-- the ends and the next expiry fit the player that is stored: a granted one's end is stored, a refused one keeps its use
ends_by :
    (c : Acted) (q : Player) →
    q.current ≡ c.match-found.current →
    (c.match-found.ends
    ≡ map end_of_player (set (all_settled (chosen c)).if-next-t.book.players
    ((event-at (judged (taken (all_settled (chosen c))))).player % 16) q))
    × (NextExpiry c.match-found.next (set (all_settled (chosen c)).if-next-t.book.players
    ((event-at (judged (taken (all_settled (chosen c))))).player % 16) q))
ends_by c q hq =
    let s = all_settled (chosen c) in
    let z = after-settle s in
    let ps = s.if-next-t.book.players in
    let j = (event-at (judged (taken s))).player % 16 in
    let small : j < length ps = omega (arith, z.0.players) in
    elim c.match-found.branch [
      | in-Ok-found w ↦
          let end : w.end_of-end.result ≡ end_of q.current = w.end_of-end.ensures ∙ ap end_of (sym w.current-is) ∙ ap end_of (sym hq) in (
            w.ends-is ∙ ends_next ps s.if-next-t.ends z.2 j q w.end_of-end.result end,
            subst (λ (v : ℕ). NextExpiry v (set ps j q)) (sym (w.next-is ∙ w.min-next-in-Ok-found.ensures ∙ ap (min s.if-next-t.next) end))
                (expiry-store s.if-next-t.next ps j q z.0.expiry small),
          )
      | in-Err-found w ↦
          let same : q.current ≡ open_at ps j = hq ∙ w.current-is in (
            w.ends-is ∙ ends_same ps s.if-next-t.ends z.2 j q same,
            subst (λ (v : ℕ). NextExpiry v (set ps j q)) (sym w.next-is) (expiry-keep s.if-next-t.next ps j q z.0.expiry small same),
          )
    ]

-- the step on the record, by what it does to what was admitted
stepped :
    (c : Turn) (a : Answer) (book : Book) (ms : List Line) →
    arrive (book-at c) (admitted-at c) ≡ record { answer = a; book = book } →
    lines_read (book-at c) (admitted-at c) c.loop-i.lines ≡ ms →
    step_on (book-at c) c.loop-i.lines (entered c).args.report.lent (record-at c) ≡ record { answer = a; book = book; lines = ms }
stepped c a book ms p q =
    let l = c.loop-i in
    let g = (entered c).args in
    reported-as l.book (decoded (record-at c)) l.lines g.report.lent l.good
    (l.invariant.9 ∙ ap₂ (λ (x : List Asset) (n : ℕ). good_lines x n l.lines g.report.lent) (sym l.invariant.6) (sym l.invariant.7))
    a book ms p q

-- a turn that leaves the book: one line more, and all that stands beside the book stays
kept-turn :
    (c : Turn) (a : Answer) (out : List ℕ) (at : ℕ) →
    (arrive (book-at c) (admitted-at c) ≡ record { answer = a; book = book-at c }) ×
    (lines_read (book-at c) (admitted-at c) c.loop-i.lines ≡ c.loop-i.lines) →
    (at ≡ line_end a c.loop-i.at (length c.loop-i.out)) ×
    (out ≡ line_buffer a c.loop-i.at c.loop-i.out) × (at ≤ c.loop-i.at + 19) →
    Going (entered c).args.b (entered c).args.report.lines (entered c).args.report.lent (entered c).args.records.now (entered c).args.out.now
    ((length (entered c).args.records.now + (record_size - 1)) / record_size) out (book-at c) c.loop-i.lines
    c.loop-i.rows c.loop-i.ends c.loop-i.good c.loop-i.next at (c.loop-i.i + 1)
kept-turn c a out at e p =
    let l = c.loop-i in
    let t = in-turn c in
    let g = (entered c).args in (
      t.0,
      progress-next g.b g.report.lines g.report.lent g.records.now g.out.now l.i l.book l.lines l.out l.at l.invariant.1
          t.1 a l.book l.lines out at (stepped c a l.book l.lines e.0 e.1) p,
      l.invariant.2,
      l.invariant.3,
      l.invariant.4,
      l.invariant.5,
      l.invariant.6,
      l.invariant.7,
      l.invariant.8,
      l.invariant.9,
      l.invariant.10,
    )

pub returns-then-out-count : goal.returns-then-out-count
unfolding fits block_book block_lines block_written block_buffer record_count
returns-then-out-count c =
    let a = c.args in
    let h : length a.out.now < 19 * record_count a.records.now = omega arith in
    rw (lt-leb (19 * record_count a.records.now) (length a.out.now) h) (refl, refl, refl, refl, refl)

pub loop-i-init : goal.loop-i-init
loop-i-init c =
    let start = c.before in
    let a = start.args in
    let size : length a.b.assets ≡ 64 = assets-64 start.before.before.before.before.before.before.before.before.before.before.before.before.before.before.before in
    let room : min a.b.assetcount 64 ≤ length a.b.assets = omega arith in (
      omega arith,
      progress-none a.b a.report.lines a.report.lent a.records.now a.out.now,
      expiry-start a.b.players,
      entries-64 start.before.before.before.before.before.before.before.before.before.before.before.before.before.before.before,
      players-16 start.before.before.before.before.before.before.before.before.before.before.before.before.before.before.before,
      c.rows_of-rows.ensures,
      refl,
      refl,
      c.ends_of-ends.ensures,
      c.good_lines-good.ensures
          ∙ ap (λ (j : ℕ). good_lines (take j a.b.assets) (length (take j a.b.assets)) a.report.lines a.report.lent) c.at_most_64-slots.ensures
          ∙ good-used a.b.assets a.b.assetcount a.report.lines a.report.lent room,
      lines-64 start.before.before.before.before.before.before.before.before.before.before.before.before.before.before.before,
    )

pub loop-i-preserved-in-Err : goal.loop-i-preserved-in-Err
loop-i-preserved-in-Err c =
    let r = c.before.before.before.before.before.before.before in
    let x = c.refused in
    let p = c.put_line-at in
    let z = case-invalid (book-at (turn r)) (admitted-at (turn r)) (turn r).loop-i.lines
    (event_code c.in-Err.e)
    (sym (is-record r) ∙ c.in-Err.ensures) in
    kept-turn (turn r) x.result p.new.out p.result
    (z.0 ∙ ap (λ (a : Answer). record { answer = a; book = book-at (turn r) }) (sym x.ensures), z.1)
    p.ensures

pub loop-i-preserved-in-Err-gate_of : goal.loop-i-preserved-in-Err-gate_of
loop-i-preserved-in-Err-gate_of c =
    let j = c.before.before.before.before.before.before.before in
    let x = c.refused-in-Err-gate_of in
    let p = c.put_line-at-in-Err-gate_of in
    let b = book-at (turn (read j)) in
    let z = case-refused b (admitted-at (turn (read j))) (turn (read j)).loop-i.lines (event-at j) (is-valid j) (is-few j)
    (Refuse (event_code c.in-Err-gate_of.e)) (event_code c.in-Err-gate_of.e) (sym c.in-Err-gate_of.ensures) refl in
    kept-turn (turn (read j)) x.result p.new.out p.result
    (z.0 ∙ ap (λ (a : Answer). record { answer = a; book = b }) (sym x.ensures), z.1)
    p.ensures

pub loop-i-preserved-in-Ok-Resend : goal.loop-i-preserved-in-Ok-Resend
loop-i-preserved-in-Ok-Resend c =
    let j = c.before.before.before.before.before.before.before in
    let p = c.put_line-at-in-Ok-Resend in
    kept-turn (turn (read j)) _ p.new.out p.result
    (case-resent (book-at (turn (read j))) (admitted-at (turn (read j))) (turn (read j)).loop-i.lines (event-at j) (is-valid j)
    (is-few j) Resend (sym (c.in-Ok-Resend.ensures ∙ ap passed c.in-Ok-Resend.field-0-is)) refl)
    p.ensures

pub loop-p-init : goal.loop-p-init
unfolding least_end
loop-p-init c =
    let l = (turn (read (judged c.before.before))).loop-i in
    let start = (entered (turn (read (judged c.before.before)))).args in (
      omega arith,
      settle-none _ _,
      refl,
      l.invariant.5,
      l.invariant.8,
      l.invariant.4,
      due-none _ _ _,
      l.invariant.9 ∙ ap (λ (n : ℕ). good_lines start.b.assets n l.lines start.report.lent) (sym l.invariant.7),
      l.invariant.10,
    )

pub loop-p-preserved : goal.loop-p-preserved
unfolding settled_to
loop-p-preserved c =
    let l = c.loop-p in
    let start = c.before.before.before.before.before in
    let g = (turn (read (judged start))).loop-i in
    let given = (entered (turn (read (judged start)))).args in
    let b = g.book in
    let t = (event-at (judged start)).time in
    let ps = l.book.players in
    let es = l.book.entries in
    let o = open_at ps l.p in
    let ht = (is-admitted start).early in
    let len : length es ≡ 64 = ap (λ (m : Book). length m.entries) l.invariant.1 ∙ settled-size t (take l.p b.players)
    b.entries ∙ g.invariant.3 in
    let slots = c.at_most_64-slots in
    let size : length given.b.assets ≡ 64 = assets-64 (entered (turn (read (judged start)))) in
    let same-count : l.book.assetcount ≡ given.b.assetcount = ap (λ (m : Book). m.assetcount) l.invariant.1 ∙ g.invariant.7 in
    let hw = λ (r : Option ℕ) (q : r ≡ line_in l.book.switch (limits_at es o.entry) (take slots.result given.b.assets) o.content).
    slots-line given.b.assets given.b.assetcount slots.result l.book.assetcount size slots.ensures same-count l.book.switch
    (limits_at es o.entry) o.content r q in
    let few : l.p < length b.players = omega (arith, g.invariant.4) in
    let here : l.p < length ps = omega (arith, l.invariant.5) in
    let due : leb (get_or l.ends l.p 0) t ≡ expired t o = reached ps l.ends l.invariant.4 t l.p ht here in
    let onto : List Line = recorded_all b g.lines (overdue t (take (l.p + 1) b.players)) in
    let Good : Bool → List Line → Type 0 = λ w ms. (w ≡ good_lines given.b.assets b.assetcount ms given.report.lent) × (length ms ≡ 64) in
    let one : (c.if-end-t.book ≡ settle_one t l.p l.book) × (c.if-end-t.rows ≡ rows_for c.if-end-t.book) ×
    (c.if-end-t.ends ≡ ends_for c.if-end-t.book) × (c.if-end-t.next ≡ least_end t b.players (l.p + 1)) × (c.if-end-t.lines ≡ onto) ×
    (Good c.if-end-t.good c.if-end-t.lines) =
    elim c.if-end-t.branch [
      | then-end-t w ↦
          let d : expired t o ≡ true = sym due ∙ le-leb (get_or l.ends l.p 0) t w.if-end-t.true in
          let put : Meters → Book = λ x. with l.book (set es o.entry (record { limits = limits_at es o.entry; meters = x })) ps in
          let inner : (w.if-k-lt64.book ≡ with l.book (released t l.p o es) ps) × (w.if-k-lt64.rows ≡ rows_for w.if-k-lt64.book) × (w.if-k-lt64.lines ≡ onto) ×
          (Good w.if-k-lt64.good w.if-k-lt64.lines) =
          elim w.if-k-lt64.branch [
            | then-k-lt64+in-Some v ↦
                let y : Entry = record { limits = limits_at es o.entry; meters = v.ended_meters-ended.result } in
                let line = v.in-Some.k in
                let small = slots-line-below given.b.assets given.b.assetcount slots.result l.book.assetcount size slots.ensures same-count l.book.switch
                (limits_at es o.entry) o.content line v.in-Some.ensures in
                let hr = ap (λ (m : ℕ). raised (limits_at es o.entry) m (line_at l.lines line)) v.saturating_sub-seconds.ensures in
                let z : Line = raised (limits_at es o.entry) (o.until - o.begin) (line_at l.lines line) in
                let to : w.if-k-lt64.lines ≡ set l.lines line z = v.lines-is ∙ v.raise-good.ensures.report_after ∙ ap (set l.lines line) hr in (
                  v.book-is ∙ ap put v.ended_meters-ended.ensures ∙ ap (λ (x : List Entry). with l.book x ps) (released-due t l.p o es d),
                  v.rows-is ∙ rows_next es l.rows o.entry y v.row_of-row.result l.invariant.3 v.row_of-row.ensures ∙ ap rows_for (sym v.book-is),
                  to ∙ lines-raised b g.lines t l.p few l.book l.invariant.1 l.lines l.invariant.6 given.b.assets (sym g.invariant.6) d
                      line (hw (Some line) v.in-Some.ensures) (o.until - o.begin) refl small,
                  (
                    v.good-is ∙ v.raise-good.ensures.good_value ∙ ap₂ good_after l.invariant.7 hr
                        ∙ good-raised given.b.assets b.assetcount l.lines given.report.lent line (limits_at es o.entry) (o.until - o.begin)
                        (omega (arith, small, l.invariant.8)) small
                        ∙ ap (λ (ms : List Line). good_lines given.b.assets b.assetcount ms given.report.lent) (sym to),
                    ap length to ∙ length-set l.lines line z ∙ l.invariant.8,
                  ),
                )
            | then-k-lt64+in_default v ↦
                let y : Entry = record { limits = limits_at es o.entry; meters = v.ended_meters-ended.result } in (
                  v.book-is ∙ ap put v.ended_meters-ended.ensures ∙ ap (λ (x : List Entry). with l.book x ps) (released-due t l.p o es d),
                  v.rows-is ∙ rows_next es l.rows o.entry y v.row_of-row.result l.invariant.3 v.row_of-row.ensures ∙ ap rows_for (sym v.book-is),
                  v.lines-is ∙ lines-kept b g.lines t l.p few l.book l.invariant.1 l.lines l.invariant.6 given.b.assets (sym g.invariant.6) d
                      64 (hw None v.in_default.ensures) (omega arith),
                  (
                    v.good-is ∙ l.invariant.7 ∙ ap (λ (ms : List Line). good_lines given.b.assets b.assetcount ms given.report.lent) (sym v.lines-is),
                    ap length v.lines-is ∙ l.invariant.8,
                  ),
                )
            | else-k-lt64 v ↦ (
              v.book-is ∙ ap (λ (x : List Entry). with l.book x ps) (released-far t l.p o es (omega (arith, v.if-k-lt64.false, len))),
              v.rows-is ∙ l.invariant.3 ∙ ap rows_for (sym v.book-is),
              v.lines-is ∙ lines-out b g.lines t l.p few l.book l.invariant.1 l.lines l.invariant.6 given.b.assets (sym g.invariant.6) d
                  (omega (arith, v.if-k-lt64.false, g.invariant.3)),
              (
                v.good-is ∙ l.invariant.7 ∙ ap (λ (ms : List Line). good_lines given.b.assets b.assetcount ms given.report.lent) (sym v.lines-is),
                ap length v.lines-is ∙ l.invariant.8,
              ),
            )
          ] in
          let settles : c.if-end-t.book ≡ settle_one t l.p l.book =
          w.book-is
          ∙ ap (λ (x : Player). with w.if-k-lt64.book w.if-k-lt64.book.entries (set w.if-k-lt64.book.players l.p x)) w.shut_player-q.ensures
          ∙ ap (λ (x : Book). with x x.entries (set x.players l.p (shut t (player_at x.players l.p)))) inner.0 in (
            settles,
            w.rows-is ∙ inner.1 ∙ ap rows_for (sym w.book-is),
            w.ends-is ∙ ends_next ps l.ends l.invariant.4 l.p (shut t (player_at ps l.p)) never (shut-end t (player_at ps l.p) d) ∙ ap
                ends_for (sym settles),
            w.next-is ∙ end-due t l.p b l.book l.next l.invariant.1 few l.invariant.2 d,
            w.lines-is ∙ inner.2,
            (
              w.good-is ∙ inner.3.0 ∙ ap (λ (ms : List Line). good_lines given.b.assets b.assetcount ms given.report.lent) (sym w.lines-is),
              ap length w.lines-is ∙ inner.3.1,
            ),
          )
      | else-end-t w ↦
          let d : expired t o ≡ false = sym due ∙ lt-leb (get_or l.ends l.p 0) t w.if-end-t.false in (
            w.book-is
                ∙ ap (λ (x : List Entry). with l.book x ps) (released-still t l.p o es d)
                ∙ ap (with l.book (released t l.p o es)) (shut-not t l.p ps d),
            w.rows-is ∙ l.invariant.3 ∙ ap rows_for (sym w.book-is),
            w.ends-is ∙ l.invariant.4 ∙ ap ends_for (sym w.book-is),
            w.next-is ∙ w.min-next.ensures ∙ ap (min l.next) (kept-end ps l.ends l.invariant.4 l.p here) ∙ end_on t l.p b l.book l.next
                l.invariant.1 few l.invariant.2 d,
            w.lines-is ∙ lines-still b g.lines t l.p few l.book l.invariant.1 l.lines l.invariant.6 given.b.assets (sym g.invariant.6) d,
            (
              w.good-is ∙ l.invariant.7 ∙ ap (λ (ms : List Line). good_lines given.b.assets b.assetcount ms given.report.lent) (sym w.lines-is),
              ap length w.lines-is ∙ l.invariant.8,
            ),
          )
    ] in (
      omega arith,
      one.0 ∙ ap (settle_one t l.p) l.invariant.1 ∙ settle-turn t l.p b few,
      one.3,
      one.1,
      one.2,
      ap (λ (m : Book). length m.players) one.0 ∙ length-set ps l.p _ ∙ l.invariant.5,
      one.4,
      one.5.0,
      one.5.1,
    )

pub loop-e-init : goal.loop-e-init
unfolding found_after choice_after choose_of any_of
loop-e-init c =
    let n = c.if-next-t.book in
    let m = looked-most (is_on (open_at n.players ((event-at (judged
    (taken c.before.before.before.before.before.before.before.before.before.before.before.before))).player % 16))) c.reach_at-reach.result.usable c.at_most_64.result in
    (omega arith, omega (arith, m, c.looked_at-n.ensures, c.at_most_64.ensures, min-le_right n.entrycount 64), c.none-best.ensures)

-- a line that is raised is one of the 64
pub raise-good-requires : goal.raise-good-requires
raise-good-requires c = few-line _ _ _ _ _ _ c.in-Some.k c.at_most_64-slots.ensures c.in-Some.ensures

pub raise-good-requires-in-Some-request_line : goal.raise-good-requires-in-Some-request_line
raise-good-requires-in-Some-request_line c =
    few-request _ _ _ _ _ _ _ _ c.in-Some-request_line.k c.at_most_64-slots.ensures c.in-Some-request_line.ensures

pub loop-e-preserved : goal.loop-e-preserved
loop-e-preserved c =
    let l = c.loop-e in
    let s = c.before.before.before.before.before.before.before.before.before.before.before.before.before.before.before.before in
    let es = s.if-next-t.book.entries in
    let ask = asks s.if-next-t.book (event-at (judged (taken s))) in
    let asset = c.in-Begin.asset in
    let kind = c.from-kind.result in
    let r = c.reach_at-reach.result in
    let z = after-settle s in
    let small : l.e < length es = omega (arith, z.0.entries) in
    let early : ask.time < no_end = omega (arith, (is-admitted (taken s)).early) in
    let row : get_or s.if-next-t.rows l.e no_row ≡ row_of (limits_at es l.e) (meters_at es l.e) = ap
    (λ (x : List Row). get_or x l.e no_row) z.1 ∙ row_at es l.e small in (
      omega arith,
      l.invariant.1,
      c.consider_row-best.ensures
          ∙ ap (λ (x : Row). row_taken asset r.parent kind ask l.e x l.best) row
          ∙ row-taken asset r.parent kind ask l.e (limits_at es l.e) (meters_at es l.e) l.best early
          ∙ ap (λ (x : code.Best). entry_taken asset r.parent kind ask l.e (limits_at es l.e) (meters_at es l.e) x) l.invariant.2
          ∙ sym (found-turn es asset r.parent kind ask l.e),
    )

pub loop-i-preserved : goal.loop-i-preserved
unfolding lines_taken settled_book
loop-i-preserved c =
    let x = c.before.before.before.before.before in
    let s = all_settled (chosen x) in
    let r = turn (read (judged (taken s))) in
    let a = (entered r).args in
    let l = r.loop-i in
    let p = c.put_line-at-in-Ok-Take in
    let i = in-turn r in
    let e = event-at (judged (taken s)) in
    let j = e.player % 16 in
    let n = s.if-next-t.book in
    let ps = n.players in
    let es = x.match-found.book.entries in
    let answer = x.match-found.answer in
    let current = x.match-found.current in
    let z = after-settle s in
    let kept = assets-kept s in
    let started = (left_by x).0 in
    let u = (left_by x).1 in
    let first = (judged (taken s)).noted_last-noted in
    let last : Last = answered_by first.result answer in
    let q : Player = record { last = last; current = current } in
    let store : Book → Book = λ m. with m m.entries (set m.players j q) in
    let is-book : store x.match-found.book ≡ closing n es j e.time (latest_by e started) last current = ap store u.0 in
    let v = lines-by x in
    let f : arrive l.book (admitted-at r) ≡ record { answer = answer; book = store x.match-found.book } =
    case-taken l.book (admitted-at r) e n (record { answer = answer; entries = es; current = current; started = started }) j
    (latest_by e started) last (is-admitted (taken s)) z.0.is-settled u.2 (is-player (taken s)) refl
    (noted-answer e _ answer first.result first.ensures)
    ∙ ap (λ (m : Book). record { answer = answer; book = m }) (sym is-book) in
    let same-open : open-at (chosen x) ≡ open_at (map (shut e.time) l.book.players) e.player =
    ap (open_at ps) (is-player (taken s)) ∙ ap (λ (m : Book). open_at m.players e.player) z.0.is-settled in
    let recorded : lines_read l.book (admitted-at r) l.lines ≡ x.match-found.lines =
    case-lines l.book (admitted-at r) e l.lines answer (is-admitted (taken s)) (ap (λ (o : Outcome). o.answer) f)
    ∙ sym (v.0
    ∙ ap (λ (ms : List Line). recorded_all l.book ms (ended_by e.request e.time (open-at (chosen x)) answer)) z.3
    ∙ ap (λ (o : Open). recorded_all l.book (recorded_all l.book l.lines (overdue e.time l.book.players))
    (ended_by e.request e.time o answer)) same-open) in
    let beside = ends_by x q refl in (
      i.0,
      progress-next a.b a.report.lines a.report.lent a.records.now a.out.now l.i l.book l.lines l.out l.at l.invariant.1
          i.1 answer (store x.match-found.book) x.match-found.lines p.new.out p.result
          (stepped r answer (store x.match-found.book) x.match-found.lines f recorded) p.ensures,
      subst (λ (m : Book). NextExpiry x.match-found.next m.players) (sym is-book) beside.1,
      u.3,
      ap (λ (m : Book). length m.players) is-book ∙ length-set ps j q ∙ z.0.players,
      u.1 ∙ ap rows_for u.0 ∙ ap rows_for (sym is-book),
      ap (λ (m : Book). m.assets) is-book ∙ kept.0,
      ap (λ (m : Book). m.assetcount) is-book ∙ kept.1,
      beside.0 ∙ ap ends_for (sym is-book),
      v.1,
      v.2,
    )

pub returns : goal.returns
unfolding fits block_book block_lines block_written block_buffer record_count
returns c =
    let a = c.args in
    let l = c.loop-i in
    let h : 19 * record_count a.records.now ≤ length a.out.now = omega arith in
    rw (le-leb (19 * record_count a.records.now) (length a.out.now) h)
    (let u = progress-all a.b a.report.lines a.report.lent a.records.now a.out.now l.i l.book l.lines l.out l.at
    l.invariant.1 (omega arith) in (u.0, u.1, refl, u.2, u.3))

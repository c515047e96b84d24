-- The lines of the report after an event, by value in 64 places, and that this is the model's list.
use Rattle.std.specs.Prelude.{ℕ, ◌≡◌, refl, Bool, true, false, cond, List, [], ◌∷◌, ◌++◌, map}
use Rattle.std.proofs.Common.{sym, ap, ◌∙◌}
use Rattle.book.specs.declared.Answer.{Answer}
use Rattle.book.specs.declared.Line.{Line}
use Rattle.book.specs.declared.Book.{Book}
use Rattle.book.specs.declared.Event.{Event}
use Rattle.book.specs.Decoded.{Decoded, Invalid, Valid}
use Rattle.book.specs.Gate.{Gate, Refuse, Resend, Take}
use Rattle.book.specs.declared.Outcome.{Outcome}
use Rattle.book.specs.declared.Reported.{Reported}
use Rattle.model.specs.Gate.{gate}
use Rattle.model.specs.Meters.{shut}
use Rattle.model.specs.Step.{refusal, last_at, open_at, taken_step, step_by, step, arrive}
use Rattle.model.specs.Report.{Ended, recorded, recorded_all, overdue, ended_by, endings, lines_by, lines_read}
use Rattle.metering.specs.Good.{good_lines}

-- what a taken event records, answered with a
unfoldable pub lines_taken : Answer → Book → Event → List Line → List Line
lines_taken a b e ls =
    recorded_all b (recorded_all b ls (overdue e.time b.players))
    (ended_by e.request e.time (open_at (map (shut e.time) b.players) e.player) a)

-- the lines after an event that was answered with a
unfoldable pub lines_with : Answer → Gate → Book → Event → List Line → List Line
lines_with a (Refuse code) b e ls = ls
lines_with a Resend b e ls = ls
lines_with a Take b e ls = lines_taken a b e ls

-- with the book's own answer they are the model's
all_append : (b : Book) (ls : List Line) (xs ys : List Ended) → recorded_all b ls (xs ++ ys) ≡ recorded_all b (recorded_all b ls xs) ys
unfolding recorded_all
all_append b ls [] ys = refl
all_append b ls (x ∷ xs) ys = all_append b (recorded b ls x) xs ys

pub lines-own : (b : Book) (e : Event) (ls : List Line)
    → lines_with (step b e).answer (gate b.time (last_at b.players e.player) e) b e ls ≡ lines_read b (Valid e) ls
unfolding lines_read step lines_with lines_taken lines_by step_by endings
lines-own b e ls = go (gate b.time (last_at b.players e.player) e)
  where
    go : (g : Gate) → lines_with (step_by g b e).answer g b e ls ≡ lines_by g b e ls
    go (Refuse code) = refl
    go Resend = refl
    go Take = sym (all_append b ls (overdue e.time b.players) _)

-- a record with its lines, of which `count` were lent
unfoldable pub reported_on : Book → Decoded → List Line → ℕ → Reported
reported_on b d lines count =
    cond (good_lines b.assets b.assetcount lines count)
    (record { answer = (arrive b d).answer; book = (arrive b d).book; lines = lines_read b d lines })
    (record { answer = refusal 30; book = b; lines = lines })

-- the answer and the book, with the lines left out
abbrev pub outcome_of : Reported → Outcome
outcome_of x = record { answer = x.answer; book = x.book }

-- What is left at the book's own time follows from the image's limits, meters and switch alone: no use in an accepted image is over
-- at its time, so viewing it settles nothing. A caller that asks for time 0 gets this.
use Rattle.std.specs.Prelude.{ℕ, zero, suc, ◌+◌, ◌<◌, ◌≤◌, ◌≡◌, refl, Bool, true, false, get_or, eqb}
use Rattle.std.proofs.Math.Path.{ap}
use Rattle.std.proofs.Common.{◌∙◌, arith}
use mathlib.Core.List.{List, [], ◌∷◌}
use Rattle.std.proofs.Math.Dec.{ltb, leb}
use borrow.Author.Tests.{eqb-true, ltb-true, ltb-false, lt-leb}
use Rattle.numbers.proofs.Tests.{on_test, clash, row-passed}
use Rattle.book.specs.declared.Entry.{Entry}
use Rattle.book.specs.declared.Open.{Open}
use Rattle.book.specs.declared.Book.{Book}
use Rattle.book.specs.Blank.{no_book, no_entry}
use Rattle.model.specs.Book.{player_at, entries_in, in_book, between, inside_dates, inside_interval, content_legal, grant_length, use_legal}
use Rattle.model.specs.Book.{open_legal, Legal}
use Rattle.model.specs.Image.{Bytes, read_code}
use Rattle.model.specs.Meters.{is_on, expired, settled}
use Rattle.model.specs.Step.{open_at}
use Rattle.model.specs.Choice.{any_of}
use Rattle.model.proofs.Legal.Rules.{open_passes, blank-current, unused-from, used-from, stages-from}
use Rattle.model.proofs.Image.RoundTrip.{demand2}
use Rattle.uses.specs.Due.{due_at, any_due, none-due}
use Rattle.views.specs.Views.{view_time, left_values}
use Rattle.embed.specs.Calls.{held_book}
use Rattle.embed.specs.Seen.{entry_found, left_seen}

none_of : (f : ℕ → Bool) (n : ℕ) → ((p : ℕ) → p < n → f p ≡ false) → any_of f n ≡ false
unfolding any_of
none_of f zero h = refl
none_of f (suc n) h = rw (none_of f n (λ p k. h p (omega arith)), h n (omega arith))

module _ (b : Book) (legal : Legal b) where
  -- "begin ≤ book time < until"
  running : (o : Open) → open_passes b o ≡ true → is_on o ≡ true → b.time < o.until
  unfolding open_legal use_legal inside_dates inside_interval content_legal
  running o e on =
      let use-passes = rw (eqb-true o.on 1 on) at e in
      let l = (get_or b.entries o.entry no_entry).limits in
      let m = (get_or b.entries o.entry no_entry).meters in
      ltb-true b.time o.until
      (row-passed
      (leb o.begin b.time)
      (ltb b.time o.until ∷ leb o.until (b.time + grant_length l.kind) ∷ ltb o.entry (entries_in b)
      ∷ between 1 3 l.kind ∷ inside_dates o l ∷ inside_interval o l m ∷ content_legal (in_book b o.content) l o ∷ [])
      use-passes).1.0

  not-over : (p : ℕ) → p < 16 → expired b.time (open_at b.players p) ≡ false
  unfolding expired
  not-over p k =
      let x = player_at b.players p in
      let passes = (stages-from b legal.rules).players p k in
      on_test (is_on x.current)
      (λ on.
      on_test (eqb x.last.number 0)
      (λ q. clash on (ap is_on (blank-current x (unused-from b x q passes))))
      (λ q. rw (on) (lt-leb x.current.until b.time (running x.current (used-from b x q passes).1.1.0 on))))
      (λ off. rw (off) refl)

  pub settled-now : settled b.time b.players b.entries ≡ b.entries
  unfolding any_due due_at
  settled-now = (none-due b.time b.players b.entries legal.player_slots (none_of _ 16 not-over)).1

view-now : (now time : ℕ) → time ≤ now → view_time now time ≡ now
view-now now time h =
    on_test (ltb time now)
    (λ w. rw w refl)
    (λ w. let k = ltb-false time now w in let e : time ≡ now = omega arith in rw (w) e)

-- a time that is not above the book's
module _ (s : List ℕ) (bytes : Bytes s) (accepted : read_code s ≡ 0) (time : ℕ) (past : time ≤ (held_book s).time) where
  held-legal : Legal (held_book s)
  unfolding held_book
  held-legal = (demand2.accepted_legal no_book s bytes accepted).0

  pub left-now : (i : ℕ) → left_seen s time i ≡ left_values (held_book s).time (held_book s).switch (get_or (held_book s).entries i no_entry)
  unfolding left_seen entry_found
  left-now i =
      ap (λ (t : ℕ). left_values t (held_book s).switch (get_or (settled t (held_book s).players (held_book s).entries) i no_entry))
      (view-now (held_book s).time time past)
      ∙ ap (λ (es : List Entry). left_values (held_book s).time (held_book s).switch (get_or es i no_entry))
      (settled-now (held_book s) held-legal)

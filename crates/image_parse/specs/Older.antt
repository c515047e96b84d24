-- The loop that sets the marks of an older image: what holds before it, and the law of one turn.
use Rattle.std.specs.Prelude.{ℕ, suc, ◌+◌, ◌<◌, ◌≡◌, List, length, get_or, set, drop}
use Rattle.std.proofs.Math.Path.{refl, sym}
use Rattle.std.proofs.Common.{◌∙◌, add-one}
use Rattle.std.proofs.Math.Seq.{drop-cons, append_snoc}
use Rattle.std.proofs.lemmas.List.{set_at}
use Rattle.numbers.specs.Count.{listed}
use Rattle.numbers.proofs.TableLaws.{length-listed}
use Rattle.book.specs.declared.Entry.{Entry}
use Rattle.book.specs.declared.Player.{Player}
use Rattle.book.specs.Blank.{no_entry}
use Rattle.model.specs.Book.{marks_of}
use Rattle.model.specs.Image.{with_marks, marked_entries}

module _ (ps : List Player) (es : List Entry) where
  -- entry i with its marks
  abbrev pub marked_at : ℕ → Entry
  marked_at i = with_marks (marks_of ps i) (get_or es i no_entry)

  pub marked-none : es ≡ marked_entries ps es 0
  unfolding marked_entries listed
  marked-none = refl

  pub marked_turn : (i : ℕ) → i < length es → set (marked_entries ps es i) i (marked_at i) ≡ marked_entries ps es (i + 1)
  unfolding marked_entries listed
  marked_turn i h =
      rw (add-one, drop-cons es i no_entry h)
      (set_at (listed marked_at i) (get_or es i no_entry) (drop (suc i) es) (marked_at i) i (length-listed marked_at i)
      ∙ sym (append_snoc (listed marked_at i) (marked_at i) (drop (suc i) es)))

-- The marks of the entries of a book that is read. "Older images get marks set from their open uses": by rule 27 a legal book has just
-- these, so nothing is lost where a version does not say them.
use Prim.Native.Nat.{ℕ, ◌≤◌, ◌<◌}
use mathlib.Core.Path.{◌≡◌, refl, sym, ap, ap₂, subst, ◌∙◌}
use mathlib.Core.Bool.{cond, and-false}
use mathlib.Core.List.{List, ◌++◌}
use native.Mathlib.Omega.{arith}
use lib.ListN.{replicate}
use lib.Seq.{drop_at}
use lib.Dec.{leb}
use borrow.Author.Tests.{ne_eqb}
use Rattle.numbers.specs.Count.{listed}
use Rattle.numbers.specs.Fields.{Fit}
use Rattle.numbers.proofs.BitLaws.{mask_fits}
use Rattle.numbers.proofs.TableLaws.{below_or_not, listed_same, listed_at, length-listed}
use Rattle.numbers.proofs.Tests.{on_test, on_same, clash}
use Rattle.book.specs.declared.Entry.{Entry}
use Rattle.book.specs.declared.Player.{Player}
use Rattle.book.specs.declared.Book.{Book}
use Rattle.book.specs.Blank.{no_entry}
use Rattle.book.specs.Changed.{changed}
use Rattle.model.specs.Book.{meters_at, entries_in, marks_of, marks_legal, entry_meters_legal, Legal}
use Rattle.model.specs.Image.{newest, marks_said, entry_widths, entry_values, with_marks, marked_entries, marked}
use Rattle.model.proofs.Legal.Rules.{stages-from}
use Rattle.model.proofs.Image.Header.{by-version}

-- ## Reading

-- the entry as version v says it: its values by the newest version are those of the entry by version v
abbrev pub entry_said : ℕ → Entry → Entry
entry_said v e = with_marks (marks_said v e.meters) e

-- the entry that is read at position i where version v says e
abbrev pub entry_read : ℕ → List Player → ℕ → Entry → Entry
entry_read v ps i e = with_marks (cond (leb 4 v) e.meters.marks (marks_of ps i)) e

-- the filled slots get their marks, the blank ones stay
marked-slots : (ps : List Player) (f : ℕ → Entry) (n k : ℕ)
    → marked_entries ps (listed f n ++ replicate k no_entry) n ≡ listed (λ i. with_marks (marks_of ps i) (f i)) n ++ replicate k no_entry
unfolding marked_entries
marked-slots ps f n k = ap₂ ◌++◌
    (listed_same _ _ n (λ i h. ap (with_marks (marks_of ps i)) (listed_at f n i no_entry (replicate k no_entry) h)))
    (drop_at (listed f n) (replicate k no_entry) n (length-listed f n))

-- so for every version the table becomes that of the entries that are read
pub marked-table : (v n k : ℕ) (b : Book) (f : ℕ → Entry) → entries_in b ≡ n → b.entries ≡ listed f n ++ replicate k no_entry
    → marked v b ≡ changed b b.time b.latest (listed (λ i. entry_read v b.players i (f i)) n ++ replicate k no_entry) b.players
unfolding marked
marked-table v n k b f q h =
    let ps = b.players in
    on_test (leb 4 v)
    (λ e. rw e (λ j. changed b b.time b.latest (h j) ps))
    (λ e. rw e
    (ap₂ (λ (es : List Entry) (m : ℕ). changed b b.time b.latest (marked_entries ps es m) ps) h q
    ∙ ap (λ (es : List Entry). changed b b.time b.latest es ps) (marked-slots ps f n k)))

-- ## A legal book

-- rule 27: "where marks and open uses differ"
pub legal-marks : (b : Book) → Legal b → (i : ℕ) → i < entries_in b → (meters_at b.entries i).marks ≡ marks_of b.players i
unfolding entry_meters_legal marks_legal
legal-marks b l i h = on_same (meters_at b.entries i).marks (marks_of b.players i) (λ e. e)
    (λ d. clash ((stages-from b l.rules).meters i h) (rw (ne_eqb _ _ d, and-false)))

-- what any version says of an entry whose marks are those of the open uses reads as the entry
pub entry_kept : (v : ℕ) → 1 ≤ v → v ≤ newest → (ps : List Player) (i : ℕ) (e : Entry) → e.meters.marks ≡ marks_of ps i
    → entry_read v ps i (entry_said v e) ≡ e
entry_kept v oldest known ps i e h =
    let set : with_marks (marks_of ps i) e ≡ e = ap (λ (m : ℕ). with_marks m e) (sym h) in
    by-version (λ v. entry_read v ps i (entry_said v e) ≡ e) set set set refl refl v oldest known

-- the marks of a legal book fit their type
pub marks-fit : (b : Book) → Legal b → (i : ℕ) → (meters_at b.entries i).marks < 65536
unfolding entries_in marks_of
marks-fit b l i = below_or_not i (entries_in b)
    (λ h. rw (legal-marks b l i h) (mask_fits _ 16))
    (λ h. subst (λ (e : Entry). e.meters.marks < 65536) (sym (l.entries_blank i (omega (arith, l.entry_count)))) (omega arith))

-- so an entry fits its type if what a version says of it does
pub marks-typed : (v : ℕ) (e : Entry) → e.meters.marks < 65536 → Fit (entry_widths newest) (entry_values v e)
    → Fit (entry_widths newest) (entry_values newest e)
marks-typed v e h f = omega arith

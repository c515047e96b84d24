-- How many bytes a turn keeps, and that its text is in the output buffer.
use Rattle.std.specs.Prelude.{ℕ, ◌-◌, ◌%◌, ◌≤◌, ◌<◌, ◌≡◌, Bool, true, false, cond, List, ◌++◌, length, drop}
use Rattle.std.proofs.Common.{◌∙◌, arith, length-append, length-drop}
use Rattle.book.specs.declared.Line.{Line}
use Rattle.book.specs.declared.Book.{Book}
use Rattle.model.specs.Record.{record_size}
use Rattle.turn.specs.Turn.{kept_count, kept_of, inside, text_after, written_after, out_after, kept_after}

-- no more is kept than is there
pub kept_less : (ended : Bool) (n : ℕ) → kept_count ended n ≤ n
unfolding kept_count
kept_less true n = omega arith
kept_less false n = omega arith

pub length-kept : (ended : Bool) (s : List ℕ) → length (kept_of ended s) ≡ kept_count ended (length s)
unfolding kept_of
length-kept ended s =
    let h = kept_less ended (length s) in
    let e : length s - (length s - kept_count ended (length s)) ≡ kept_count ended (length s) = omega arith in
    length-drop (length s - kept_count ended (length s)) s ∙ e

-- less than a record, so there is room to read
pub kept_small : (input : List ℕ) (n : ℕ) (ended : Bool) → kept_after input n ended < record_size
unfolding kept_after kept_count
kept_small input n ended = small (inside input n) ended
  where
    small : (t u : Bool) → cond t (cond u 0 (n % record_size)) 0 < record_size
    small true true = omega arith
    small true false = omega arith
    small false u = omega arith

pub written-inside : (b : Book) (ls : List Line) (count : ℕ) (input : List ℕ) (n : ℕ) (ended : Bool) (out : List ℕ)
    → written_after b ls count input n ended ≤ length (out_after b ls count input n ended out)
unfolding written_after out_after
written-inside b ls count input n ended out = fits (inside input n) (text_after b ls count input n ended)
  where
    fits : (t : Bool) (s : List ℕ) → cond t (length s) 0 ≤ length (cond t (s ++ drop (length s) out) out)
    fits true s = rw (length-append s (drop (length s) out)) (omega arith)
    fits false s = omega arith

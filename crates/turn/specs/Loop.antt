-- The loop of the run program: turns over any reads print what the whole input would, and leave its book and its lines.
-- A turn here is what the contract of `turn` says; that the run program makes these turns and writes their text is what `answer_reads` of
-- crate serve promises, of an input and an output whose bytes are known.
use Rattle.std.specs.Prelude.{ℕ, ◌+◌, ◌*◌, ◌-◌, ◌/◌, ◌≤◌, ◌≡◌, refl, Bool, true, take, drop}
use Rattle.std.proofs.Math.Path.{sym, ap}
use Rattle.std.proofs.Common.{ap₂, subst, ◌∙◌, length-append, take-append-drop, take_all, take-add, take_at, drop_at, le-leb}
use Rattle.std.proofs.Math.Bool.{false}
use mathlib.Core.List.{List, [], ◌∷◌, ◌++◌, append_assoc}
use native.Mathlib.Omega.{arith}
use Rattle.std.proofs.Math.ListN.{length}
use Rattle.std.proofs.Math.Seq.{length-take-le, take-append_seam}
use Rattle.book.specs.declared.Line.{Line}
use Rattle.book.specs.declared.Book.{Book}
use Rattle.model.specs.Book.{assets_in}
use Rattle.model.specs.Record.{record_size, decoded}
use Rattle.model.specs.Report.{receive, lines_left, lent}
use Rattle.model.specs.History.{record_lines}
use Rattle.model.specs.Run.{lines, records_in, run_text, run_book, run_lines, zero_lines}
use Rattle.report.specs.Report.{taken_lines}
use Rattle.step.specs.Given.{left-length}
use Rattle.batch.specs.Block.{answers-taken, book-taken, lines-taken}
use Rattle.blocks.specs.Blocks.{block-book, block-lines, block-text}
use Rattle.turn.specs.Turn.{kept_count, answered_of, kept_of, inside, book_after, lines_after, text_after, written_after, out_after}
use Rattle.turn.specs.Turn.{kept_after, input_after}
use Rattle.turn.specs.Kept.{length-kept}
use Rattle.turn.specs.Zeros.{zeros-length}

-- ## Definitions

-- A read: what is in the input buffer after it, and how many bytes came.
pub record Read : Type 0 where
  pub buffer : List ℕ
  pub got : ℕ

-- Between two reads: the book, the lines and how many of them are lent, the buffers, how many bytes are kept, and all that has been
-- written.
pub record Between : Type 0 where
  pub book : Book
  pub lines : List Line
  pub count : ℕ
  pub input : List ℕ
  pub kept : ℕ
  pub out : List ℕ
  pub text : List ℕ

-- the bytes that came, after those that were kept
abbrev pub came : Between → Read → List ℕ
came l r = take r.got (drop l.kept r.buffer)

-- what is assumed of a read: it leaves the kept bytes as they were and brings no more than the buffer has room for
abbrev pub Delivered : Between → Read → Type 0
Delivered l r = (take l.kept r.buffer ≡ take l.kept l.input) × (l.kept + r.got ≤ length r.buffer)

-- one turn on the buffer after a read, with its text written
unfoldable pub turn_on : Bool → Between → Read → Between
turn_on ended l r =
    let n : ℕ = l.kept + r.got in
    record {
      book = book_after l.book l.lines l.count r.buffer n ended;
      lines = lines_after l.book l.lines l.count r.buffer n ended;
      count = l.count;
      input = input_after r.buffer n ended;
      kept = kept_after r.buffer n ended;
      out = out_after l.book l.lines l.count r.buffer n ended l.out;
      text = l.text ++ take (written_after l.book l.lines l.count r.buffer n ended)
          (out_after l.book l.lines l.count r.buffer n ended l.out);
    }

-- a turn for each read, and one for the last, at which the input ends
unfoldable pub turns_on : Between → List Read → Read → Between
turns_on l [] last = turn_on true l last
turns_on l (r ∷ rs) last = turns_on (turn_on false l r) rs last

-- all bytes that came
unfoldable pub input : Between → List Read → Read → List ℕ
input l [] last = came l last
input l (r ∷ rs) last = came l r ++ input (turn_on false l r) rs last

unfoldable pub AllDelivered : Between → List Read → Read → Type 0
AllDelivered l [] last = Delivered l last
AllDelivered l (r ∷ rs) last = Delivered l r × AllDelivered (turn_on false l r) rs last

-- before the first read, with any bytes in the buffers: a line of zeros for each asset is lent
abbrev pub start : Book → List ℕ → List ℕ → Between
start b i o = record { book = b; lines = taken_lines (zero_lines b); count = assets_in b; input = i; kept = 0; out = o; text = [] }

-- ## One turn

abbrev pub held : Between → List ℕ
held l = take l.kept l.input

-- the lines by value are those of a list
abbrev pub Lends : Between → List Line → Type 0
Lends l ls = (l.lines ≡ taken_lines ls) × (l.count ≡ length ls)

left-size : (b : Book) (ls : List Line) (rs : List (List ℕ)) → length (record_lines b ls rs) ≡ length ls
unfolding record_lines
left-size b ls [] = refl
left-size b ls (r ∷ rs) =
    left-size (receive b (lent ls r)).book (lines_left b (lent ls r)) rs ∙ left-length b (decoded r) ls

module _ (ended : Bool) (l : Between) (ls : List Line) (of : Lends l ls) (r : Read) (h : Delivered l r) where
  abbrev now : List ℕ
  now = answered_of ended (held l ++ came l r)

  inside_is : inside r.buffer (l.kept + r.got) ≡ true
  inside_is = le-leb (l.kept + r.got) (length r.buffer) h.1

  there-is : take (l.kept + r.got) r.buffer ≡ held l ++ came l r
  there-is = take-add l.kept r.got r.buffer ∙ ap (λ (x : List ℕ). x ++ came l r) h.0

  pub next-book : (turn_on ended l r).book ≡ run_book l.book ls now
  unfolding turn_on book_after run_book
  next-book = rw (inside_is, there-is, of.0, of.1) (book-taken (records_in now) l.book ls)

  pub next-lends : Lends (turn_on ended l r) (run_lines l.book ls now)
  unfolding turn_on lines_after run_lines
  next-lends = (
    rw (inside_is, there-is, of.0, of.1) (lines-taken (records_in now) l.book ls),
    of.1 ∙ sym (left-size l.book ls (records_in now)),
  )

  text-is : text_after l.book l.lines l.count r.buffer (l.kept + r.got) ended ≡ run_text l.book ls now
  unfolding text_after run_text
  text-is = rw (there-is, of.0, of.1) (ap lines (answers-taken (records_in now) l.book ls))

  pub next-text : (turn_on ended l r).text ≡ l.text ++ run_text l.book ls now
  unfolding turn_on written_after out_after
  next-text =
      rw (inside_is, text-is)
      (ap (λ (x : List ℕ). l.text ++ x) (take-append_seam (run_text l.book ls now) _))

  pub next-held : held (turn_on ended l r) ≡ kept_of ended (held l ++ came l r)
  unfolding turn_on kept_after input_after
  next-held =
      let n : length (take (l.kept + r.got) r.buffer) ≡ l.kept + r.got = length-take-le (l.kept + r.got) r.buffer h.1 in
      let k : length (kept_of ended (take (l.kept + r.got) r.buffer)) ≡ kept_count ended (l.kept + r.got) =
      length-kept ended (take (l.kept + r.got) r.buffer) ∙ ap (kept_count ended) n in
      rw inside_is (take_at _ _ _ k ∙ ap (kept_of ended) there-is)

-- ## What is answered now, and then what is kept together with what follows

module _ (s t : List ℕ) where
  whole : length (answered_of false s) ≡ record_size * (length s / record_size)
  unfolding answered_of kept_count
  whole =
      let e : length s - kept_count false (length s) ≡ record_size * (length s / record_size) = omega arith in
      length-take-le (length s - kept_count false (length s)) s (omega arith) ∙ e

  split : s ++ t ≡ answered_of false s ++ (kept_of false s ++ t)
  unfolding answered_of kept_of
  split = ap (λ (x : List ℕ). x ++ t) (sym (take-append-drop (length s - kept_count false (length s)) s)) ∙ append_assoc
      (answered_of false s) (kept_of false s) t

  module _ (b : Book) (ls : List Line) where
    abbrev first : List ℕ
    first = answered_of false s

    abbrev then : List ℕ
    then = kept_of false s ++ t

    split-book : run_book b ls (s ++ t) ≡ run_book (run_book b ls first) (run_lines b ls first) then
    split-book = ap (run_book b ls) split ∙ block-book first then (length s / record_size) whole b ls

    split-lines : run_lines b ls (s ++ t) ≡ run_lines (run_book b ls first) (run_lines b ls first) then
    split-lines = ap (run_lines b ls) split ∙ block-lines first then (length s / record_size) whole b ls

    pub split_text : run_text b ls (s ++ t) ≡ run_text b ls first ++ run_text (run_book b ls first) (run_lines b ls first) then
    split_text = ap (run_text b ls) split ∙ block-text first then (length s / record_size) whole b ls

pub all-answered : (s : List ℕ) → answered_of true s ≡ s
unfolding answered_of kept_count
all-answered s = take_all (length s - 0) s (omega arith)

-- ## All turns

from-book : (l : Between) (ls : List Line) → Lends l ls → (rs : List Read) (last : Read) → AllDelivered l rs last
    → (turns_on l rs last).book ≡ run_book l.book ls (held l ++ input l rs last)
unfolding turns_on input AllDelivered
from-book l ls of [] last h = next-book true l ls of last h ∙ ap (run_book l.book ls) (all-answered (held l ++ came l last))
from-book l ls of (r ∷ rs) last (h, hs) =
    let n : Between = turn_on false l r in
    let s : List ℕ = held l ++ came l r in
    let t : List ℕ = input n rs last in
    let ms : List Line = run_lines l.book ls (answered_of false s) in
    from-book n ms (next-lends false l ls of r h) rs last hs
    ∙ ap₂ (λ (b : Book) (k : List ℕ). run_book b ms (k ++ t)) (next-book false l ls of r h) (next-held false l ls of r h)
    ∙ sym (split-book s t l.book ls)
    ∙ ap (run_book l.book ls) (append_assoc (held l) (came l r) t)

from-lines : (l : Between) (ls : List Line) → Lends l ls → (rs : List Read) (last : Read) → AllDelivered l rs last
    → Lends (turns_on l rs last) (run_lines l.book ls (held l ++ input l rs last))
unfolding turns_on input AllDelivered
from-lines l ls of [] last h =
    subst (λ (s : List ℕ). Lends (turn_on true l last) (run_lines l.book ls s)) (all-answered (held l ++ came l last))
    (next-lends true l ls of last h)
from-lines l ls of (r ∷ rs) last (h, hs) =
    let n : Between = turn_on false l r in
    let s : List ℕ = held l ++ came l r in
    let t : List ℕ = input n rs last in
    let ms : List Line = run_lines l.book ls (answered_of false s) in
    subst (Lends (turns_on n rs last))
    (ap₂ (λ (b : Book) (k : List ℕ). run_lines b ms (k ++ t)) (next-book false l ls of r h) (next-held false l ls of r h)
    ∙ sym (split-lines s t l.book ls)
    ∙ ap (run_lines l.book ls) (append_assoc (held l) (came l r) t))
    (from-lines n ms (next-lends false l ls of r h) rs last hs)

from-text : (l : Between) (ls : List Line) → Lends l ls → (rs : List Read) (last : Read) → AllDelivered l rs last
    → (turns_on l rs last).text ≡ l.text ++ run_text l.book ls (held l ++ input l rs last)
unfolding turns_on input AllDelivered
from-text l ls of [] last h =
    next-text true l ls of last h ∙ ap (λ (s : List ℕ). l.text ++ run_text l.book ls s) (all-answered (held l ++ came l last))
from-text l ls of (r ∷ rs) last (h, hs) =
    let n : Between = turn_on false l r in
    let s : List ℕ = held l ++ came l r in
    let t : List ℕ = input n rs last in
    let ms : List Line = run_lines l.book ls (answered_of false s) in
    let now : List ℕ = run_text l.book ls (answered_of false s) in
    from-text n ms (next-lends false l ls of r h) rs last hs
    ∙ ap₂ (λ (x y : List ℕ). x ++ y) (next-text false l ls of r h) (ap₂ (λ (b : Book) (k : List ℕ). run_text b ms (k ++ t))
    (next-book false l ls of r h) (next-held false l ls of r h))
    ∙ append_assoc l.text now _
    ∙ ap (λ (x : List ℕ). l.text ++ x) (sym (split_text s t l.book ls) ∙ ap (run_text l.book ls) (append_assoc (held l) (came l r) t))

-- However the input is split, what is written is the text of all of it, and the book and the lines are those after all of it.
module _ (b : Book) (i o : List ℕ) (rs : List Read) (last : Read) (h : AllDelivered (start b i o) rs last) where
  zeros : Lends (start b i o) (zero_lines b)
  zeros = (refl, sym (zeros-length b))

  pub reads-text : (turns_on (start b i o) rs last).text ≡ run_text b (zero_lines b) (input (start b i o) rs last)
  reads-text = from-text (start b i o) (zero_lines b) zeros rs last h

  pub reads-book : (turns_on (start b i o) rs last).book ≡ run_book b (zero_lines b) (input (start b i o) rs last)
  reads-book = from-book (start b i o) (zero_lines b) zeros rs last h

  pub reads_lines : (turns_on (start b i o) rs last).lines ≡ taken_lines (run_lines b (zero_lines b) (input (start b i o) rs last))
  reads_lines = (from-lines (start b i o) (zero_lines b) zeros rs last h).0

-- ## The premise can be met

-- the read that brings a piece: it stands after the kept bytes, and the rest of the buffer stays
abbrev pub bringing : Between → List ℕ → Read
bringing l piece = record { buffer = take l.kept l.input ++ (piece ++ drop (l.kept + length piece) l.input); got = length piece }

-- after any reads, any piece for which there is room can come
module _ (l : Between) (piece : List ℕ) (room : l.kept + length piece ≤ length l.input) where
  kept-length : length (take l.kept l.input) ≡ l.kept
  kept-length = length-take-le l.kept l.input (omega arith)

  pub brought : Delivered l (bringing l piece)
  brought = (
    take_at (take l.kept l.input) (piece ++ drop (l.kept + length piece) l.input) l.kept kept-length,
    simp (length-append) (omega (arith, kept-length)),
  )

  pub brings : came l (bringing l piece) ≡ piece
  brings =
      ap (take (length piece)) (drop_at (take l.kept l.input) (piece ++ drop (l.kept + length piece) l.input) l.kept
      kept-length)
      ∙ take-append_seam piece (drop (l.kept + length piece) l.input)

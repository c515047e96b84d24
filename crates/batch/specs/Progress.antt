-- How far a block of records is answered: the book, the lines and the text after the first i records, and the law of one more record.
use Rattle.std.specs.Prelude.{ℕ, ◌+◌, ◌*◌, ◌-◌, ◌≤◌, min, ◌≡◌, take, drop}
use Rattle.std.proofs.Math.Path.{refl, sym, ap}
use Rattle.std.proofs.Common.{◌∙◌, ⊎_elim, length-drop, take_all}
use Rattle.std.proofs.Math.Bool.{true}
use mathlib.Core.List.{List, [], ◌∷◌, ◌++◌, append_assoc, append-nil}
use Rattle.std.proofs.Math.Numerals.{add-one}
use native.Mathlib.Omega.{arith}
use Rattle.std.proofs.Math.ListN.{length, length-append}
use Rattle.std.proofs.Math.Dec.{leb}
use borrow.Author.Tests.{le-leb}
use Rattle.numbers.specs.Count.{listed}
use Rattle.numbers.specs.Buffer.{lay}
use Rattle.numbers.proofs.BufferLaws.{lay-nil, lay-lay, lay-front}
use Rattle.book.specs.declared.Answer.{Answer}
use Rattle.book.specs.declared.Line.{Line}
use Rattle.book.specs.declared.Book.{Book}
use Rattle.book.specs.declared.Reported.{Reported}
use Rattle.model.specs.Record.{record_size}
use Rattle.model.specs.Run.{line, lines, record_count, record_at, records_in}
use Rattle.batch.specs.Block.{step_on, answers_on, book_on, lines_on, block_text}
use Rattle.text.specs.Lines.{line_end, line_buffer}
use Rattle.text.specs.Digits.{below, length-lay}

-- the book, the lines and the text after the first i records of s
unfoldable pub book_to : Book → List Line → ℕ → List ℕ → ℕ → Book
book_to b ls count s i = book_on b ls count (listed (record_at s) i)

unfoldable pub lines_to : Book → List Line → ℕ → List ℕ → ℕ → List Line
lines_to b ls count s i = lines_on b ls count (listed (record_at s) i)

unfoldable pub text_to : Book → List Line → ℕ → List ℕ → ℕ → List ℕ
text_to b ls count s i = lines (answers_on b ls count (listed (record_at s) i))

lines_next : (as' : List Answer) (a : Answer) → lines (as' ++ (a ∷ [])) ≡ lines as' ++ line a
unfolding lines
lines_next [] a = append-nil (line a)
lines_next (x ∷ as') a = ap (λ (t : List ℕ). line x ++ t) (lines_next as' a) ∙ sym (append_assoc (line x) (lines as') (line a))

module _ (count : ℕ) where
  -- what record r gives after some others
  abbrev next_on : Book → List Line → List (List ℕ) → List ℕ → Reported
  next_on b ls rs r = step_on (book_on b ls count rs) (lines_on b ls count rs) count r

  on-next : (rs : List (List ℕ)) (b : Book) (ls : List Line) (r : List ℕ)
      → (book_on b ls count (rs ++ (r ∷ [])) ≡ (next_on b ls rs r).book) × (lines_on b ls count (rs ++ (r ∷ [])) ≡ (next_on b ls rs r).lines)
      × (answers_on b ls count (rs ++ (r ∷ [])) ≡ answers_on b ls count rs ++ ((next_on b ls rs r).answer ∷ []))
  unfolding book_on lines_on answers_on
  on-next [] b ls r = (refl, refl, refl)
  on-next (x ∷ rs) b ls r =
      let y = step_on b ls count x in
      let h = on-next rs y.book y.lines r in
      (h.0, h.1, ap (λ (as' : List Answer). y.answer ∷ as') h.2)

  module _ (b : Book) (ls : List Line) (s : List ℕ) (i : ℕ) where
    abbrev turn_of : Reported
    turn_of = step_on (book_to b ls count s i) (lines_to b ls count s i) count (record_at s i)

    book-next : book_to b ls count s (i + 1) ≡ turn_of.book
    unfolding book_to lines_to listed
    book-next = rw add-one (on-next (listed (record_at s) i) b ls (record_at s i)).0

    held_next : lines_to b ls count s (i + 1) ≡ turn_of.lines
    unfolding book_to lines_to listed
    held_next = rw add-one (on-next (listed (record_at s) i) b ls (record_at s i)).1

    text-next : text_to b ls count s (i + 1) ≡ text_to b ls count s i ++ line turn_of.answer
    unfolding book_to lines_to text_to listed
    text-next =
        rw add-one
        (ap lines (on-next (listed (record_at s) i) b ls (record_at s i)).2
        ∙ lines_next (answers_on b ls count (listed (record_at s) i)) (next_on b ls (listed (record_at s) i) (record_at s i)).answer)

-- b, the lines ls and the buffer old at the start; book, held and out after i records, with at bytes written
pub record Progress (b : Book) (ls : List Line) (count : ℕ) (s old : List ℕ) (i : ℕ) (book : Book) (held : List Line) (out : List ℕ)
    (at : ℕ) : Type 0 where
  pub is-book : book ≡ book_to b ls count s i
  pub is-lines : held ≡ lines_to b ls count s i
  pub text : out ≡ lay old 0 (text_to b ls count s i)
  pub end : at ≡ length (text_to b ls count s i)
  pub room : at ≤ 19 * i

module _ (b : Book) (ls : List Line) (count : ℕ) (s old : List ℕ) where
  pub progress-none : Progress b ls count s old 0 b ls old 0
  unfolding book_to lines_to text_to listed book_on lines_on answers_on lines
  progress-none = record { is-book = refl; is-lines = refl; text = sym (lay-nil old 0); end = refl; room = omega arith }

  module _ (i : ℕ) (book : Book) (held : List Line) (out : List ℕ) (at : ℕ) (u : Progress b ls count s old i book held out at) where
    abbrev so_far : List ℕ
    so_far = text_to b ls count s i

    pub progress-length : 19 * i ≤ length old → length out ≡ length old
    progress-length h = ap length u.text ∙ length-lay old 0 so_far (omega (arith, h, u.end, u.room))

    -- one more record: its answer, book and lines are those of the step, and its line is put after the text
    pub progress-next :
        19 * (i + 1) ≤ length old →
        (a : Answer) (book' : Book) (held' : List Line) (out' : List ℕ) (at' : ℕ) →
        step_on book held count (record_at s i) ≡ record { answer = a; book = book'; lines = held' } →
        (at' ≡ line_end a at (length out)) × (out' ≡ line_buffer a at out) × (at' ≤ at + 19) →
        Progress b ls count s old (i + 1) book' held' out' at'
    unfolding line_end line_buffer
    progress-next h a book' held' out' at' e p =
        let l : length out ≡ length old = progress-length (omega arith) in
        let w : leb (at + 19) (length out) ≡ true = le-leb (at + 19) (length out) (omega (arith, l, u.room, h)) in
        let f : turn_of count b ls s i ≡ record { answer = a; book = book'; lines = held' } =
        ap (λ (x : Book). step_on x (lines_to b ls count s i) count (record_at s i)) (sym u.is-book)
        ∙ ap (λ (x : List Line). step_on book x count (record_at s i)) (sym u.is-lines) ∙ e in
        let t : text_to b ls count s (i + 1) ≡ so_far ++ line a = text-next count b ls s i ∙ ap
        (λ (o : Reported). so_far ++ line o.answer) f in
        let n : at' ≡ at + length (line a) = p.0 ∙ rw w refl in
        let o : out' ≡ lay out at (line a) = p.1 ∙ rw w refl in
        let k : length (text_to b ls count s (i + 1)) ≡ length so_far + length (line a) = ap length t ∙ length-append so_far (line a) in
        record {
          is-book = sym (book-next count b ls s i ∙ ap (λ (o : Reported). o.book) f);
          is-lines = sym (held_next count b ls s i ∙ ap (λ (o : Reported). o.lines) f);
          text =
              o
              ∙ ap (λ (x : List ℕ). lay x at (line a)) u.text
              ∙ lay-lay old 0 so_far (line a) at (omega (arith, u.end)) (omega (arith, u.end, u.room, h))
              ∙ ap (λ (x : List ℕ). lay old 0 x) (sym t);
          end = omega (arith, n, k, u.end);
          room = omega (arith, p.2, u.room);
        }

    -- all records
    pub progress-all :
        i ≡ record_count s →
        (book ≡ book_on b ls count (records_in s)) × (held ≡ lines_on b ls count (records_in s)) × (at ≡ length (block_text b ls count s))
        × (out ≡ block_text b ls count s ++ drop (length (block_text b ls count s)) old)
    unfolding records_in book_to lines_to text_to
    progress-all e =
        let k : listed (record_at s) i ≡ listed (record_at s) (record_count s) = ap (listed (record_at s)) e in (
          u.is-book ∙ ap (book_on b ls count) k,
          u.is-lines ∙ ap (lines_on b ls count) k,
          u.end ∙ ap (λ (rs : List (List ℕ)). length (lines (answers_on b ls count rs))) k,
          u.text
              ∙ ap (λ (rs : List (List ℕ)). lay old 0 (lines (answers_on b ls count rs))) k
              ∙ lay-front old (lines (answers_on b ls count (listed (record_at s) (record_count s))))
              (length (lines (answers_on b ls count (listed (record_at s) (record_count s))))) refl,
        )

-- the bytes of record i, as far as it goes
pub record-part : (s : List ℕ) (i n : ℕ) → n ≡ min (record_size * i + record_size) (length s) - record_size * i → take n (drop (record_size *
    i) s) ≡ record_at s i
unfolding record_at
record-part s i n e =
    ⊎_elim
    (λ short.
    let l : length (drop (record_size * i) s) ≡ length s - record_size * i = length-drop (record_size * i) s in
    take_all n (drop (record_size * i) s) (omega arith) ∙ sym (take_all record_size (drop (record_size * i) s) (omega arith)))
    (λ whole. let k : n ≡ record_size = omega arith in ap (λ (m : ℕ). take m (drop (record_size * i) s)) k)
    (below (length s) (record_size * i + record_size))

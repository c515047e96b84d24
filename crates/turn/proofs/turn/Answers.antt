-- `turn`: if n is more than the buffer holds, nothing is done; otherwise the records are answered, and what is
-- left of the next one is moved to the front. The output buffer has room for the lines of all records that the input buffer holds.
use Prim.Native.Nat.{ℕ, ◌+◌, ◌*◌, ◌-◌, ◌/◌, ◌%◌, ◌≤◌}
use native.Mathlib.Omega.{arith}
use borrow.Author.Tests.{leb-true, le-leb}
use Rattle.std.proofs.Math.Seq.{paste}
use borrow.Author.Rules.{rules}
use mathlib.Core.Path.{◌≡◌, sym, ap, subst, ◌∙◌}
use mathlib.Core.Bool.{Bool, true, cond}
use mathlib.Core.List.{List, ◌++◌}
use lib.ListN.{length, take, drop}
use lib.Seq.{length-take-le, take-take, take-add, drop_at}
use Rattle.numbers.proofs.Tests.{on_test}
use Rattle.book.specs.declared.Line.{Line}
use Rattle.book.specs.declared.Book.{Book}
use Rattle.model.specs.Record.{record_size}
use Rattle.model.specs.Run.{record_count}
use Rattle.batch.specs.Block.{fits, block_text, block_book, block_lines, block_written, block_buffer}
use Rattle.turn.specs.Turn.{kept_count, answered_of, kept_of, inside, book_after, lines_after, text_after, written_after, out_after}
use Rattle.turn.specs.Turn.{kept_after, input_after}
use Rattle.turn.specs.Kept.{kept_less}
use Rattle.turn.proofs.turn.Goals as goal

-- the kept bytes moved to the front
moved : (input : List ℕ) (whole kept : ℕ) → paste input 0 (drop whole input) kept ≡ take kept (drop whole input) ++ drop kept input
moved input whole kept =
    let z : 0 + kept ≡ kept = omega arith in
    ap (λ (i : ℕ). take kept (drop whole input) ++ drop i input) z

-- a slice of a prefix
part : (a k : ℕ) (l : List ℕ) → a + k ≤ length l → drop a (take (a + k) l) ≡ take k (drop a l)
part a k l h = ap (drop a) (take-add a k l) ∙ drop_at (take a l) (take k (drop a l)) a (length-take-le a l (omega arith))

module _ (b : Book) (ls : List Line) (lent : ℕ) (input : List ℕ) (n : ℕ) (ended : Bool) (out : List ℕ) (kept : ℕ)
    (inside_is : inside input n ≡ true) (count : kept ≡ cond ended 0 (n % record_size)) (room : 19 * ((length input + (record_size - 1)) /
    record_size) ≤ length out) where
  there : n ≤ length input
  there = leb-true n (length input) inside_is

  less : kept ≤ n
  unfolding kept_count
  less = rw count (kept_less ended n)

  abbrev records : List ℕ
  records = take (n - kept) input

  whole_is : length (take n input) - kept_count ended (length (take n input)) ≡ n - kept
  unfolding kept_count
  whole_is = let t = there in rw (length-take-le n input there, count)

  answered-is : answered_of ended (take n input) ≡ records
  unfolding answered_of
  answered-is = let l = less in rw whole_is (take-take (n - kept) n input (omega arith))

  kept-is : kept_of ended (take n input) ≡ take kept (drop (n - kept) input)
  unfolding kept_of
  kept-is =
      let t = there in
      let l = less in
      let e : n ≡ (n - kept) + kept = omega arith in
      rw whole_is (ap (λ (m : ℕ). drop (n - kept) (take m input)) e ∙ part (n - kept) kept input (omega arith))

  fits-is : fits records (length out) ≡ true
  unfolding fits record_count
  fits-is = let t = there in let e = length-take-le (n - kept) input (omega arith) in le-leb (19 * record_count records) (length out)
      (omega arith)

  text-is : text_after b ls lent input n ended ≡ block_text b ls lent records
  unfolding text_after
  text-is = ap (block_text b ls lent) answered-is

  book-is : block_book b ls lent records (length out) ≡ book_after b ls lent input n ended
  unfolding block_book book_after
  book-is = rw (fits-is, inside_is, answered-is)

  lines_are : block_lines b ls lent records (length out) ≡ lines_after b ls lent input n ended
  unfolding block_lines lines_after
  lines_are = rw (fits-is, inside_is, answered-is)

  written_is : block_written b ls lent records (length out) ≡ written_after b ls lent input n ended
  unfolding block_written written_after
  written_is = rw (fits-is, inside_is, text-is)

  out-is : block_buffer b ls lent records out ≡ out_after b ls lent input n ended out
  unfolding block_buffer out_after
  out-is = rw (fits-is, inside_is, text-is)

  kept-count : kept ≡ kept_after input n ended
  unfolding kept_after kept_count
  kept-count = rw inside_is count

  input-is : paste input 0 (drop (n - kept) input) (n - (n - kept)) ≡ input_after input n ended
  unfolding input_after kept_count
  input-is =
      let l = less in
      let e : n - (n - kept) ≡ kept = omega arith in
      subst (λ (i : ℕ). paste input 0 (drop (n - kept) input) i ≡ input_after input n ended) (sym e) (moved input (n - kept) kept ∙ rw (inside_is, kept-is, count))

pub overflow_sub-whole : goal.overflow_sub-whole
overflow_sub-whole c =
    on_test c.args.ended
    (λ q. let e = rw q at c.pick-kept.ensures in omega arith)
    (λ q. let e = rw q at c.pick-kept.ensures in omega arith)

pub returns : goal.returns
returns c =
    let a = c.args in
    let block = c.answer_block-block.ensures in
    let within : inside a.input.now a.n ≡ true = search rules in
    let kept = c.pick-kept.result in
    let count = c.pick-kept.ensures in
    record {
      done = within;
      book_value = block.0 ∙ book-is a.b a.report.lines a.report.lent a.input.now a.n a.ended a.out.now kept within count (omega arith);
      lines_value = block.1 ∙ lines_are a.b a.report.lines a.report.lent a.input.now a.n a.ended a.out.now kept within count (omega arith);
      lent_value = block.2;
      written_value = block.3 ∙ written_is a.b a.report.lines a.report.lent a.input.now a.n a.ended a.out.now kept within count (omega arith);
      kept_value = kept-count a.b a.report.lines a.report.lent a.input.now a.n a.ended a.out.now kept within count (omega arith);
      input_after = c.copy_within.ensures.after ∙ input-is a.b a.report.lines a.report.lent a.input.now a.n a.ended a.out.now kept within count (omega arith);
      out_after = block.4 ∙ out-is a.b a.report.lines a.report.lent a.input.now a.n a.ended a.out.now kept within count (omega arith);
    }

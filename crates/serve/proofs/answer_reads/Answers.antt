-- The text that a turn writes is in the output buffer, and what it keeps leaves room. A turn goes on where the one before it ended.
use Rattle.std.proofs.Common.{ℕ, ◌≡◌, refl, ◌<◌, ◌≤◌, Bool, List, length, arith, rules, eq-eqb}
use borrow.Author.Tests.{ne_eqb}
use Rattle.book.specs.declared.Book.{Book}
use Rattle.book.specs.declared.Line.{Line}
use Rattle.model.specs.Record.{record_size}
use Rattle.turn.specs.Turn.{written_after, out_after, kept_after}
use Rattle.turn.specs.Kept.{kept_small, written-inside}
use Rattle.serve.proofs.Reading.{turn_goes_on, turn_ends}
use Rattle.serve.proofs.answer_reads.Goals as goal

text_there : (b : Book) (ls : List Line) (lent : ℕ) (input : List ℕ) (n : ℕ) (ended : Bool) (out outs : List ℕ) (written : ℕ)
    → written ≡ written_after b ls lent input n ended → outs ≡ out_after b ls lent input n ended out → written ≤ length outs
text_there b ls lent input n ended out outs written e f = rw (e, f) (written-inside b ls lent input n ended out)

kept_few : (input : List ℕ) (n : ℕ) (ended : Bool) (kept : ℕ) → kept ≡ kept_after input n ended → kept < record_size
kept_few input n ended kept e = rw e (kept_small input n ended)

pub print_first-requires : goal.print_first-requires
print_first-requires g c = text_there _ _ _ _ _ _ _ _ _ c.in-Some.ensures.written_value c.in-Some.ensures.out_after

pub returns-then-ended : goal.returns-then-ended
returns-then-ended g c =
    let read = c.in-Ok.ensures in
    let room : c.loop.kept < length c.read_behind.new.input = omega arith in
    λ _ ls first lent.
    turn_ends _ ls _ _ _ _ _ _ _ _ _ _ _ _ _ _ _ _ _ _ refl read.same read.fits c.in-Some.ensures.written_value c.in-Some.ensures.out_after
    (c.loop.invariant.1 ls first lent) read.bytes (c.if-not-print_first.ensures (search rules)) (eq-eqb c.in-Ok.got 0 c.if-ended.true) c.if-ended.true (read.end c.if-ended.true room)

pub loop-preserved : goal.loop-preserved
loop-preserved g c =
    let read = c.in-Ok.ensures in
    let turned = c.in-Some.ensures in (
      kept_few _ _ _ _ turned.kept_value,
      λ ls first lent.
          turn_goes_on _ ls _ _ _ _ _ _ _ _ _ _ _ _ _ _ _ _ _ _ refl read.same read.fits turned.written_value turned.out_after
          (c.loop.invariant.1 ls first lent) read.bytes (c.if-not-print_first.ensures (search rules)) _ _ _ _ _ (ne_eqb c.in-Ok.got 0 c.if-ended.false) turned.book_value
          turned.lines_value turned.lent_value turned.kept_value turned.input_after,
    )

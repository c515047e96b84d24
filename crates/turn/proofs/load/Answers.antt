-- `load`: the bytes in image are the first of the file, as many as image holds, and they decide the answer (the laws of `Load`).
use Prim.Native.Nat.{ℕ, ◌≤◌, min}
use native.Mathlib.Omega.{arith}
use mathlib.Core.Path.{◌≡◌, sym, ap, ◌∙◌}
use mathlib.Core.List.{List}
use lib.ListN.{length, take}
use lib.Seq.{take_all}
use borrow.Author.Rules.{rules}
use Rattle.numbers.proofs.TableLaws.{below_or_not}
use Rattle.book.specs.declared.Book.{Book}
use Rattle.book.specs.Blank.{no_book}
use Rattle.model.specs.Image.{read_code, read_book}
use Rattle.turn.specs.Turn.{Begins}
use Rattle.turn.specs.Load.{cut-code, cut-book}
use Rattle.turn.proofs.load.Goals as goal

-- a count above the length takes the whole list
least-take : (n : ℕ) (l : List ℕ) → take (min n (length l)) l ≡ take n l
least-take n l =
    below_or_not n (length l)
    (λ h. let e : min n (length l) ≡ n = omega arith in rw e)
    (λ h. let e : min n (length l) ≡ length l = omega arith in take_all (min n (length l)) l (omega arith) ∙ sym (take_all n l h))

module _ (image : List ℕ) (n k : ℕ) (f : List ℕ) (begins : Begins image n f) (long : 5400 ≤ length image) (least : k ≡ min n (length image)) where
  there : take k image ≡ take (length image) f
  there = ap (λ (m : ℕ). take m image) least ∙ least-take n image ∙ sym begins

  same-code : read_code (take k image) ≡ read_code f
  same-code = ap read_code there ∙ cut-code (length image) long f

  same-book : (held : Book) → read_book held (take k image) ≡ read_book held f
  same-book held = ap (read_book held) there ∙ cut-book (length image) long f held

pub returns-in_err-read : goal.returns-in_err-read
returns-in_err-read c f begins =
    let e = same-code c.args.image.now c.args.n c.min.result f begins (omega arith) (omega arith) in
    let told = sym e ∙ c.in_err-read.ensures.code in
    search (rules, told)

pub returns : goal.returns
returns c f begins =
    let a = c.args in
    let e = same-code a.image.now a.n c.min.result f begins (omega arith) (omega arith) in
    let b = same-book a.image.now a.n c.min.result f begins (omega arith) (omega arith) no_book in
    (sym e ∙ c.in_ok-read.ensures.code, c.read.ensures.book_after ∙ ap (λ (x : Book). read_book x (take c.min.result a.image.now)) c.blank_book-b.ensures ∙ b)

-- Two results of `write` that meet its contract are equal, with what they leave in the buffer, for every book and every buffer.
use Rattle.std.specs.Prelude.{ℕ, ◌≡◌, ◌<◌, ◌≤◌, List, length, Result, MatchResult, OnErr}
use Rattle.std.proofs.Common.{refl, sym, ◌∙◌, arith}
use Rattle.numbers.proofs.OneResult.{one_result}
use Rattle.book.specs.declared.TheConstants.{NO_ROOM}
use Rattle.book.specs.declared.Book.{Book}
use Rattle.book.specs.declared.NoRoom.{NoRoom}
use Rattle.model.specs.Image.{length_of, write_answer, write_buffer}

module _ (b : Book) (old : List ℕ) where
  -- the clauses of the contract
  abbrev pub Writes : Result ℕ NoRoom → List ℕ → Type 0
  Writes result new =
      MatchResult result
      (λ n. (length_of b ≤ length old) × (write_answer b (length old) ≡ n))
      (λ _. (length old < length_of b) × (write_answer b (length old) ≡ NO_ROOM))
      × (new ≡ write_buffer b old)
      × OnErr result (new ≡ old)

  pub write : (r r' : Result ℕ NoRoom) (new new' : List ℕ) → Writes r new → Writes r' new' → (r ≡ r') × (new ≡ new')
  write r r' new new' h k = (
    one_result
        (λ n. (length_of b ≤ length old) × (write_answer b (length old) ≡ n))
        (λ _. (length old < length_of b) × (write_answer b (length old) ≡ NO_ROOM))
        (λ m n p q. sym p.1 ∙ q.1)
        (λ d e p q. refl)
        (λ n e p q. omega (arith, p, q))
        r r' h.0 k.0,
    h.1 ∙ sym k.1,
  )

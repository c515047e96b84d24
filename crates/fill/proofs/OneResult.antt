-- Two results of `fill` that meet its contract are equal, with what they leave in the buffer, for all values and every buffer.
use Rattle.std.specs.Prelude.{◌≡◌, ⊤, List, length, Result, MatchResult}
use Rattle.std.proofs.Common.{refl, sym, ◌∙◌, arith}
use Rattle.numbers.proofs.OneResult.{one_result}
use Rattle.book.specs.declared.NoRoom.{NoRoom}
use Rattle.fill.specs.Fill.{fill_code, filled, no_room}

module _ {T : Type 0} (values old : List T) where
  -- the clauses of the contract
  abbrev pub Fills : Result ⊤ NoRoom → List T → Type 0
  Fills result new =
      MatchResult result
      (λ _. fill_code values (length old) ≡ 0)
      (λ _. fill_code values (length old) ≡ no_room)
      × (new ≡ filled values old)

  pub fill : (r r' : Result ⊤ NoRoom) (new new' : List T) → Fills r new → Fills r' new' → (r ≡ r') × (new ≡ new')
  fill r r' new new' h k = (
    one_result (λ _. fill_code values (length old) ≡ 0) (λ _. fill_code values (length old) ≡ no_room)
        (λ a b p q. refl) (λ d e p q. refl) (λ a e p q. omega (arith, p, q)) r r' h.0 k.0,
    h.1 ∙ sym k.1,
  )

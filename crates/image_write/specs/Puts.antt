-- A record written piece by piece: what holds after some pieces, and one piece more.
use Rattle.std.specs.Prelude.{◌≡◌, ℕ, ◌+◌, ◌≤◌, List, ◌++◌, length}
use Rattle.std.proofs.Common.{ap, ◌∙◌, arith, length-append}
use Rattle.numbers.specs.Buffer.{lay}
use Rattle.numbers.proofs.BufferLaws.{lay-more}

-- the n bytes s are written from offset `at` of the buffer `old`, which makes it `buf`; the next piece goes to o
pub record Written (old : List ℕ) (at : ℕ) (s : List ℕ) (n : ℕ) (buf : List ℕ) (o : ℕ) : Type 0 where
  pub size : length s ≡ n
  pub next : o ≡ at + n
  pub laid : buf ≡ lay old at s

-- what `put` ensures of bytes t that are the piece s
pub piece : {old s t buf : List ℕ} {at n o : ℕ} → t ≡ s → length s ≡ n → (o ≡ at + length t) × (buf ≡ lay old at t)
    → Written old at s n buf o
piece {old} {s} {t} {buf} {at} e k p = record {
  size = k;
  next = p.0 ∙ ap (λ (x : List ℕ). at + length x) e ∙ ap (λ (x : ℕ). at + x) k;
  laid = p.1 ∙ ap (lay old at) e;
}

-- two pieces, one after the other, are one
pub joint : {old s buf t new : List ℕ} {at n o m r : ℕ} → Written old at s n buf o → Written buf o t m new r
    → at + (n + m) ≤ length old → Written old at (s ++ t) (n + m) new r
joint {old} {s} {buf} {t} {new} {at} {n} {o} p q room = record {
  size = length-append s t ∙ omega (arith, p.size, q.size);
  next = omega (arith, p.next, q.next);
  laid = q.laid ∙ lay-more old buf s t at o p.laid (omega (arith, p.size, p.next)) (omega (arith, p.next, q.size, room));
}

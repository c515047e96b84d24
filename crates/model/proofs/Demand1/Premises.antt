-- What demand 1 says of records on an illegal book, and of a resend on a legal one: its premises can be met.
use mathlib.Core.Path.{◌≡◌, refl}
use Prim.Native.Nat.{ℕ}
use mathlib.Core.List.{List, [], ◌∷◌}
use native.Mathlib.Omega.{arith}
use Rattle.numbers.specs.Count.{listed}
use Rattle.model.specs.Run.{zero_lines}
use Rattle.model.specs.Demand1.{GoodList, LegalRequest, begin, continue, stop, cancel, IsEvent, asker, Against, bad-list, cut}
use Rattle.model.specs.Demand1.{no-player, no-request, unlike}
use Rattle.model.specs.Demand1.{out-of-line, out-of-time, Follows, same-boot, next-boot, greater-boot, IsResend, IsTaken}
use Rattle.model.specs.Demand1.{TakenCode}
use Rattle.model.proofs.Examples.AnswerCodes.{odd, bytes, kept, met}
use Rattle.model.proofs.Examples.Books.{greatest, greatest-legal}
use Rattle.model.proofs.Examples.Computes.{events_run}
use Rattle.model.proofs.Demand3.Lines.{good-list}
use Rattle.model.proofs.Demand3.Zeros.{zeros-good}
use Rattle.model.proofs.Demand1.Proof.{demand1}

-- player 0 begins play of asset 1
abbrev begins : ℕ → ℕ → List ℕ
begins number time = bytes 0 number 1 1 1 time

begin-event : (number time : ℕ) → IsEvent (begins number time)
begin-event number time = record { whole = refl; player = omega arith; request = begin refl (omega arith) (omega arith) }

-- ## The lists

-- the odd book's list is good, and so are zeros for the greatest book
kept-good : GoodList odd kept
unfolding events_run
kept-good = good-list odd kept refl

great-good : GoodList greatest (zero_lines greatest)
great-good = zeros-good greatest greatest-legal

-- ## Each of 1 to 6 has its ground, and 30

-- too short
pub thirty : Against odd [] [] 30
unfolding events_run
thirty = bad-list refl (λ g. omega (arith, g.enough))

pub six : Against odd kept [] 6
six = cut refl kept-good (λ w. omega (arith, w))

pub two : Against odd kept (bytes 16 5 9 0 0 100) 2
two = no-player refl kept-good refl (omega arith)

pub one : Against odd kept (bytes 0 5 4 1 1 100) 1
one = no-request refl kept-good refl (omega arith) bad
  where
    bad : LegalRequest 4 1 1 → ⊥
    bad (begin o l h) = omega (arith, o)
    bad (continue o a k) = omega (arith, o)
    bad (stop o a k) = omega (arith, o)
    bad (cancel o a k) = omega (arith, k)

pub four : Against odd kept (bytes 0 5 1 1 2 100) 4
four =
    unlike refl kept-good (record { whole = refl; player = omega arith; request = begin refl (omega arith) (omega arith) })
    (record { not_none = omega arith; number = refl })
    (λ r. omega (arith, r.kind))

skipped : Follows 5 7 → ⊥
skipped (same-boot boot counter b c p q) = omega (arith, p, q)
skipped (next-boot boot b p q) = omega (arith, p)
skipped (greater-boot boot counter greater c b g p q) = omega (arith, q)

next : Follows 5 6
next = same-boot 0 5 (omega arith) (omega arith) refl refl

pub three : Against odd kept (begins 7 0) 3
three = out-of-line refl kept-good (begin-event 7 0) (λ n. omega (arith, n.number)) skipped

pub five : Against odd kept (begins 6 99) 5
five = out-of-time refl kept-good (begin-event 6 99) next (λ i. omega (arith, i.not_back))

-- ## A resend and a taken event

pub again : IsResend odd kept (begins 5 0)
again = record {
  list = kept-good;
  event = begin-event 5 0;
  number = record { not_none = omega arith; number = refl };
  request = record { operation = refl; asset = refl; kind = refl };
}

pub takes : IsTaken odd kept (begins 6 100)
takes = record {
  list = kept-good;
  event = begin-event 6 100;
  line = next;
  time = record { not_back = omega arith; not_late = omega arith };
}

-- and under a greater boot number: 3, counter 1
abbrev rebooted : List ℕ
rebooted = 0 ∷ 0 ∷ 0 ∷ 0 ∷ 3 ∷ 0 ∷ 0 ∷ 0 ∷ 1 ∷ 1 ∷ 0 ∷ 1 ∷ 1 ∷ 0 ∷ 0 ∷ 0 ∷ 100 ∷ []

pub takes-rebooted : IsTaken odd kept rebooted
takes-rebooted = record {
  list = kept-good;
  event = record { whole = refl; player = omega arith; request = begin refl (omega arith) (omega arith) };
  line = greater-boot 0 5 3 (omega arith) (omega arith) (omega arith) refl refl;
  time = record { not_back = omega arith; not_late = omega arith };
}

-- the book after it: there are 16 players, so its last event is stored
pub stored_last : (asker (met (begins 6 100)).book (begins 6 100)).last ≡
    record { number = 6; operation = 1; asset = 1; kind = 1; answer = (met (begins 6 100)).answer }
stored_last = ((demand1.records odd kept (begins 6 100)).taken takes).last refl

-- ## A resend on a legal book: the greatest number

abbrev last_again : List ℕ
last_again = 3 ∷ 255 ∷ 255 ∷ 255 ∷ 255 ∷ 255 ∷ 255 ∷ 255 ∷ 255 ∷ 1 ∷ 255 ∷ 255 ∷ 5 ∷ 0 ∷ 0 ∷ 0 ∷ 0 ∷ []

pub legal-again : IsResend greatest (zero_lines greatest) last_again
unfolding greatest listed
legal-again = record {
  list = great-good;
  event = record { whole = refl; player = omega arith; request = begin refl (omega arith) (omega arith) };
  number = record { not_none = omega arith; number = refl };
  request = record { operation = refl; asset = refl; kind = refl };
}

pub legal-code : TakenCode (asker greatest last_again).last.answer.code
legal-code = (demand1.records greatest (zero_lines greatest) last_again).stored-code greatest-legal legal-again

-- The answer to a record and the book it leaves, computed on an illegal book: each of 1 to 6 in order, a resend, and two taken events.
use mathlib.Core.Path.{◌≡◌, refl}
use Prim.Native.Nat.{ℕ}
use mathlib.Core.List.{List, [], ◌∷◌}
use lib.ListN.{replicate}
use Rattle.numbers.specs.Count.{first}
use Rattle.book.specs.declared.Answer.{Answer}
use Rattle.book.specs.declared.Entry.{Entry}
use Rattle.book.specs.declared.Open.{Open}
use Rattle.book.specs.declared.Player.{Player}
use Rattle.book.specs.declared.Line.{Line}
use Rattle.book.specs.declared.Book.{Book}
use Rattle.book.specs.declared.Outcome.{Outcome}
use Rattle.book.specs.Blank.{no_player, closed}
use Rattle.model.specs.Report.{receive, lent}
use Rattle.model.specs.Demand1.{refused}
use Rattle.model.proofs.Examples.Afternoon.{asset, limits, granted}
use Rattle.model.proofs.Examples.Computes.{events_run}

-- play of asset 1, timed 3 with timer 100, `timed` of them used, with these marks
abbrev pub used : ℕ → ℕ → Entry
used timed marks = record {
  limits = limits 1 1 2 0 3 100 0 0 0 0;
  meters = record { count = 0; timed = timed; first = 0; seconds = 0; started = 0; marks = marks };
}

-- a player whose last event had that number and request
abbrev pub player : ℕ → ℕ → ℕ → ℕ → Answer → Open → Player
player number operation asset kind answer current = record {
  last = record { number = number; operation = operation; asset = asset; kind = kind; answer = answer };
  current = current;
}

abbrev pub running : ℕ → ℕ → Open
running begin until = record { on = 1; entry = 0; begin = begin; until = until; content = 1 }

-- its time, the player last taken, plus 1, the entry's timed count and marks, and two players
abbrev pub book : ℕ → ℕ → ℕ → ℕ → Player → Player → Book
book time latest timed marks zeroth first = record {
  time = time;
  switch = 0;
  latest = record { player = latest; started = 0 };
  assetcount = 1;
  entrycount = 1;
  assets = asset 1 1 0 ∷ [];
  entries = used timed marks ∷ [];
  players = zeroth ∷ first ∷ replicate 14 no_player;
}

-- an illegal book: player 0 has 7 3 9 as its last answer, and an open use that should have ended 10 seconds ago
abbrev pub stale : Player
stale = player 5 1 1 1 (record { code = 7; entry = 3; until = 9 }) (running 40 90)

abbrev pub odd : Book
odd = book 100 0 2 1 stale no_player

-- a good list for it
abbrev pub kept : List Line
kept = record { content = 1; times = 8; seconds = 9 } ∷ []

-- a record on the odd book, lent that list
abbrev pub met : List ℕ → Outcome
met s = receive odd (lent kept s)

-- number, asset and time below 256
abbrev pub bytes : ℕ → ℕ → ℕ → ℕ → ℕ → ℕ → List ℕ
bytes player number operation asset kind time =
    player ∷ 0 ∷ 0 ∷ 0 ∷ 0 ∷ 0 ∷ 0 ∷ 0 ∷ number ∷ operation ∷ 0 ∷ asset ∷ kind ∷ 0 ∷ 0 ∷ 0 ∷ time ∷ []

-- 4,000,000,001
abbrev too_late : List ℕ
too_late = 0 ∷ 0 ∷ 0 ∷ 0 ∷ 0 ∷ 0 ∷ 0 ∷ 0 ∷ 6 ∷ 3 ∷ 0 ∷ 0 ∷ 0 ∷ 238 ∷ 107 ∷ 40 ∷ 1 ∷ []

-- this answer, and nothing changed
abbrev left : Answer → Outcome
left a = record { answer = a; book = odd }

-- 6 before all others; 2 before 1; 1 before the number; 4 and a resend, whose time is not read; 3 before 5; 5
pub nothing-changed : (
    met []
    ∷ met (0 ∷ bytes 0 5 1 1 1 100)
    ∷ met (bytes 16 5 9 0 0 100)
    ∷ met (bytes 0 5 4 1 1 100)
    ∷ met (bytes 0 6 0 0 0 100)
    ∷ met (bytes 0 6 1 1 0 100)
    ∷ met (bytes 0 6 1 1 6 100)
    ∷ met (bytes 0 6 3 1 0 100)
    ∷ met (bytes 0 6 2 0 1 100)
    ∷ met (bytes 0 6 4 1 0 100)
    ∷ met (bytes 0 6 4 0 1 100)
    ∷ met (bytes 0 6 5 0 0 100)
    ∷ met (bytes 0 5 1 2 1 100)
    ∷ met (bytes 0 5 1 1 2 100)
    ∷ met (bytes 0 5 3 0 0 0)
    ∷ met (bytes 0 5 1 1 1 0)
    ∷ met (bytes 0 4 3 0 0 100)
    ∷ met (bytes 0 7 3 0 0 0)
    ∷ met (bytes 1 0 3 0 0 100)
    ∷ met (bytes 0 6 3 0 0 99)
    ∷ met too_late
    ∷ [])
    ≡ (left (refused 6)
    ∷ left (refused 6)
    ∷ left (refused 2)
    ∷ left (refused 1)
    ∷ left (refused 1)
    ∷ left (refused 1)
    ∷ left (refused 1)
    ∷ left (refused 1)
    ∷ left (refused 1)
    ∷ left (refused 1)
    ∷ left (refused 1)
    ∷ left (refused 1)
    ∷ left (refused 4)
    ∷ left (refused 4)
    ∷ left (refused 4)
    ∷ left (record { code = 7; entry = 3; until = 9 })
    ∷ left (refused 3)
    ∷ left (refused 3)
    ∷ left (refused 3)
    ∷ left (refused 5)
    ∷ left (refused 5)
    ∷ [])
unfolding events_run
nothing-changed = refl

-- Taken: number, request, answer, time and, in the header, the player plus 1 are stored. The stale use ends at its until, whichever player
-- asks: its mark is cleared and, since it was shorter than the timer, its timed count goes back. The stop then finds nothing open; the
-- other player's begin adds its own timed count and mark.
pub stored : (met (bytes 0 6 3 0 0 100) ∷ met (bytes 1 1 1 1 1 101) ∷ []) ≡ (
    record { answer = refused 14; book = book 100 1 1 0 (player 6 3 0 0 (refused 14) closed) no_player }
    ∷ record {
      answer = granted 0 161;
      book = book 101 2 2 2 (player 5 1 1 1 (record { code = 7; entry = 3; until = 9 }) closed)
          (player 1 1 1 1 (granted 0 161) (running 101 161));
    }
    ∷ [])
unfolding events_run
stored = refl

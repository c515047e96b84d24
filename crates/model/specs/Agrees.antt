-- The book agrees with the ledger: over every list of events from a fresh book its meters are the ledger's figures, and its players and
-- header what uses and taken events say. So a showing that is taken back (order 8 of document 02) is gone from every meter. Statements only;
-- proved in `proofs/Demand3/Agrees`. Quotations are of order 8.
use Rattle.std.specs.Prelude.{ℕ, ◌+◌, ◌≤◌, ◌<◌, ◌≡◌, ◌↔◌, true, false, List, [], ◌∷◌}
use Rattle.numbers.specs.Bits.{bit}
use Rattle.book.specs.declared.Recent.{Recent}
use Rattle.book.specs.declared.Book.{Book}
use Rattle.model.specs.Book.{limits_at, meters_at, player_at, entries_in, momentary, flagged, interval_flag, Legal, Fresh}
use Rattle.model.specs.Meters.{begun, cancelled}
use Rattle.model.specs.Step.{starts_interval}
use Rattle.model.specs.Report.{Arrival}
use Rattle.model.specs.Ledger.{Use, Taken, time_of, is_open}
use Rattle.model.specs.Demand3.{State, starting, after, Every, LastBegin, AddedBy, figures, held_in, last_of}

-- "the player last taken, plus 1, 0 for none"
abbrev pub player_last : List Taken → ℕ
player_last [] = 0
player_last (x ∷ xs) = x.event.player + 1

-- "that event opened a use that started an interval": the use is the ledger's newest, of an entry with an interval, and the first of it
pub record StartedLast (s : State) : Type 0 where
  pub begun : LastBegin s
  pub current : Use
  pub others : List Use
  pub is-newest : s.account.uses ≡ current ∷ others
  pub added : AddedBy begun.last begun.asset current
  pub opened : is_open (time_of s.account.taken) current ≡ true
  pub interval : flagged interval_flag (limits_at s.book.entries current.entry) ≡ true
  pub first : Every (λ u. u.entry ≡ current.entry → ⊥) others

-- what a book keeps, by the account
pub record KeptBy (s : State) : Type 0 where
  pub meters : (i : ℕ) → meters_at s.book.entries i
      ≡ figures (λ p. time_of s.account.taken) s.account.uses i (limits_at s.book.entries i)
  pub opens : (p : ℕ) → (player_at s.book.players p).current ≡ held_in (time_of s.account.taken) p s.account.uses
  pub lasts : (p : ℕ) → (player_at s.book.players p).last ≡ last_of p s.account.taken
  -- "The header keeps the player last taken, .. and whether that event opened a use that started an interval" (1, else 0)
  pub player : s.book.latest.player ≡ player_last s.account.taken
  pub started : s.book.latest.started ≡ 1 ↔ StartedLast s
  pub mark : s.book.latest.started ≤ 1

pub record Agrees : Type 0 where
  pub kept : (b : Book) → Legal b → Fresh b → (xs : List Arrival) → KeptBy (after (starting b) xs)
  -- "that begin's rises in count, timed count and seconds are taken off, and the interval is unstarted if that begin started it": on legal
  -- meters, a cancel behind a begin of player p, who did not have the entry open, gives the same meters back
  pub inverse : (b : Book) (i p t until : ℕ) (r : Recent) → Legal b → i < entries_in b → bit p (meters_at b.entries i).marks ≡ false
      → momentary (limits_at b.entries i).kind ≡ false
      → r.started ≡ starts_interval (limits_at b.entries i) (meters_at b.entries i)
      → cancelled p r t until (limits_at b.entries i) (begun p t until (limits_at b.entries i) (meters_at b.entries i))
      ≡ meters_at b.entries i

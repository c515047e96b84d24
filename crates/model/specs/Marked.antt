-- Order 7 of document 02: "The entry keeps one mark for each of the 16 players, bit p for player p". In a legal book an entry's marks are
-- its open uses, and over every list of events from a fresh book they are those of the ledger. Statements only; proved in
-- `proofs/Legal/Marked`.
use Rattle.std.specs.Prelude.{ℕ, ◌≤◌, ◌<◌, ◌≡◌, ◌↔◌, ◌⊎◌, true, List, [], ◌∷◌}
use Rattle.numbers.specs.Bits.{bit, ones}
use Rattle.book.specs.declared.Book.{Book}
use Rattle.model.specs.Book.{limits_at, meters_at, player_at, entries_in, open_uses, Legal, Fresh}
use Rattle.model.specs.Report.{Arrival, receive}
use Rattle.model.specs.Ledger.{Use, time_of, is_open, open_together}
use Rattle.model.specs.Demand3.{State, starting, after}

-- the marks of entry i
abbrev pub marks_in : Book → ℕ → ℕ
marks_in b i = (meters_at b.entries i).marks

-- player p has entry i open
pub record HasOpen (b : Book) (i p : ℕ) : Type 0 where
  pub on : (player_at b.players p).current.on ≡ 1
  pub entry : (player_at b.players p).current.entry ≡ i

-- by the ledger: some use of player p is of entry i and open at T
abbrev pub SomeUse : ℕ → ℕ → ℕ → List Use → Type 0
SomeUse T i p [] = ⊥
SomeUse T i p (u ∷ us) = ((u.player ≡ p) × (u.entry ≡ i) × (is_open T u ≡ true)) ⊎ SomeUse T i p us

-- the marks of a book: "bit p for player p", and none besides; "how many are set", and that they do not exceed a threshold
pub record MarksAreUses (b : Book) : Type 0 where
  pub each : (i p : ℕ) → i < entries_in b → p < 16 → bit p (marks_in b i) ≡ true ↔ HasOpen b i p
  pub sixteen : (i : ℕ) → marks_in b i < 65536
  pub number : (i : ℕ) → i < entries_in b → ones (marks_in b i) ≡ open_uses b.players i
  pub together : (i : ℕ) → i < entries_in b → ((limits_at b.entries i).threshold ≡ 0 → ⊥)
      → open_uses b.players i ≤ (limits_at b.entries i).threshold

-- the same by the ledger
pub record MarksByLedger (s : State) : Type 0 where
  pub each : (i p : ℕ) → p < 16
      → bit p (marks_in s.book i) ≡ true ↔ SomeUse (time_of s.account.taken) i p s.account.uses
  pub number : (i : ℕ) → ones (marks_in s.book i) ≡ open_together (time_of s.account.taken) s.account.uses i

pub record Marked : Type 0 where
  pub legal : (b : Book) → Legal b → MarksAreUses b
  -- every event keeps it
  pub kept : (b : Book) (x : Arrival) → Legal b → MarksAreUses (receive b x).book
  pub ledger : (b : Book) → Legal b → Fresh b → (xs : List Arrival) → MarksByLedger (after (starting b) xs)

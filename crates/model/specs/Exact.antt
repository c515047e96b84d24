-- The definitions of events are total: a subtraction stops at 0, and a continue is answered 15 unless its new until is above the old one.
-- On a legal book neither bends a rule: no subtraction is cut off at 0, and no new until is below the old one.
-- Every subtraction of the rules, when it is computed, and the field that says that it is not cut off:
--
--   begun        u - t                        a begin             ExactBegin.until
--   least_until   accumulated - used seconds   a begin             ExactBegin.unused
--                                             a continue          ExactContinue.unused
--   continued    v - u                        a continue          ExactContinue.not_below
--   ended        e - b                        settling, a stop    ExactEnd.begun
--   ended        used timed - 1               settling, a stop    ExactEnd.timed
--   ended        u - e                        settling, a stop    ExactEnd.counted
--   ended        used seconds - (u - e)       settling, a stop    ExactEnd.seconds
--   cancelled    used count - 1               a cancel            ExactCancel.count
--   cancelled    used timed - 1               a cancel            ExactCancel.timed
--   cancelled    u - b                        a cancel            ExactCancel.begun
--   cancelled    used seconds - (u - b)       a cancel            ExactCancel.seconds
--   lasts        until - begin                the meter rules     Exact.lasts
--   latest_player latest.player - 1            the header's rule   Exact.nobody
--
-- `Report` has one, the end - begin of a use that ends (ExactEnd.begun), and a sum that stops at 2 to the 64 less 1: Exact.sums.
-- Statements only; proved in `proofs/Legal/Exact`.
use Rattle.std.specs.Prelude.{ℕ, suc, ◌+◌, ◌-◌, ◌≤◌, ◌<◌, ◌≡◌, true, List, ◌∷◌, ◌++◌, map, take}
use Rattle.book.specs.declared.Entry.{Entry}
use Rattle.book.specs.declared.Open.{Open}
use Rattle.book.specs.declared.Player.{Player}
use Rattle.book.specs.declared.Latest.{Latest}
use Rattle.book.specs.declared.Line.{Line}
use Rattle.book.specs.declared.Book.{Book}
use Rattle.book.specs.declared.Event.{Event}
use Rattle.book.specs.Gate.{Take}
use Rattle.model.specs.Book.{limits_at, meters_at, flagged, players_legal, latest_legal, Legal}
use Rattle.model.specs.Book.{count_flag, timed_flag, accumulated_flag}
use Rattle.model.specs.Meters.{is_on, expired, shut, released, settled}
use Rattle.model.specs.Gate.{gate}
use Rattle.model.specs.Choice.{asks, catalog_of, chosen, choose, grant_until}
use Rattle.model.specs.Step.{more, last_at, open_at}
use Rattle.model.specs.Report.{line_at, good, Ended, recorded_all, endings}

-- ## What is claimed of a use's end, of a begin, of a continue, of a cancel

-- the use o ends at e, with entries es: whatever goes back has been counted before
pub record ExactEnd (e : ℕ) (es : List Entry) (o : Open) : Type 0 where
  pub begun : o.begin ≤ e
  pub counted : e ≤ o.until
  pub timed : flagged timed_flag (limits_at es o.entry) ≡ true → 1 ≤ (meters_at es o.entry).timed
  pub seconds : flagged accumulated_flag (limits_at es o.entry) ≡ true → o.until - e ≤ (meters_at es o.entry).seconds

-- entry i is granted at t
pub record ExactBegin (t : ℕ) (es : List Entry) (i : ℕ) : Type 0 where
  pub unused : flagged accumulated_flag (limits_at es i) ≡ true → (meters_at es i).seconds ≤ (limits_at es i).accumulated
  pub until : t ≤ grant_until t (limits_at es i) (meters_at es i)

-- the open use o is continued at t: "Equal to the old: 15. Else used seconds rise by the difference."
pub record ExactContinue (t : ℕ) (es : List Entry) (o : Open) : Type 0 where
  pub unused : flagged accumulated_flag (limits_at es o.entry) ≡ true
      → (meters_at es o.entry).seconds ≤ (limits_at es o.entry).accumulated
  pub not_below : o.until ≤ more es o t

-- the open use o is taken back: whatever is taken off has been counted before
pub record ExactCancel (es : List Entry) (o : Open) : Type 0 where
  pub begun : o.begin ≤ o.until
  pub count : flagged count_flag (limits_at es o.entry) ≡ true → 1 ≤ (meters_at es o.entry).count
  pub timed : flagged timed_flag (limits_at es o.entry) ≡ true → 1 ≤ (meters_at es o.entry).timed
  pub seconds : flagged accumulated_flag (limits_at es o.entry) ≡ true → o.until - o.begin ≤ (meters_at es o.entry).seconds

-- the line has room for the use that ended
pub record ExactLine (l : Line) (x : Ended) : Type 0 where
  pub times : l.times + 1 < 18446744073709551616
  pub seconds : l.seconds + x.seconds < 18446744073709551616

-- ## When they are computed

-- the event is taken
abbrev pub Taken : Book → Event → Type 0
Taken b e = gate b.time (last_at b.players e.player) e ≡ Take

-- "players 0 to 15 in turn": the entries when it is player p's turn
abbrev pub at_turn : ℕ → Book → Event → List Entry
at_turn p b e = settled e.time (take p b.players) b.entries

-- the entries when all are settled, and the asking player's use then
abbrev pub at_request : Book → Event → List Entry
at_request b e = settled e.time b.players b.entries

abbrev pub asking : Book → Event → Open
asking b e = open_at (map (shut e.time) b.players) e.player

-- ## The claims

pub record Exact : Type 0 where
  -- a use that is over ends at its until, whatever earlier players gave back to the same entry
  pub settling : (b : Book) (e : Event) (p : ℕ) → Legal b → Taken b e → expired e.time (open_at b.players p) ≡ true
      → ExactEnd (open_at b.players p).until (at_turn p b e) (open_at b.players p)
  -- these are the entries that settling works on: each turn leads to the next, and the last to the request
  pub turn : (b : Book) (e : Event) (p : ℕ) → Legal b → p < 16
      → at_turn (suc p) b e ≡ released e.time p (open_at b.players p) (at_turn p b e)
  pub turns : (b : Book) (e : Event) → Legal b → at_turn 16 b e ≡ at_request b e
  -- then the request
  pub begin : (b : Book) (e : Event) (asset kind i : ℕ) → Legal b → Taken b e
      → choose (catalog_of b) (at_request b e) (asks b e) asset kind ≡ chosen i → ExactBegin e.time (at_request b e) i
  pub continue : (b : Book) (e : Event) → Legal b → Taken b e → is_on (asking b e) ≡ true
      → ExactContinue e.time (at_request b e) (asking b e)
  pub stop : (b : Book) (e : Event) → Legal b → Taken b e → is_on (asking b e) ≡ true
      → ExactEnd e.time (at_request b e) (asking b e)
  pub cancel : (b : Book) (e : Event) → Legal b → Taken b e → is_on (asking b e) ≡ true → ExactCancel (at_request b e) (asking b e)
  -- in a book that meets the player rules, no open use ends before it begins
  pub lasts : (b : Book) (p : ℕ) → players_legal b ≡ true → p < 16 → is_on (open_at b.players p) ≡ true
      → (open_at b.players p).begin ≤ (open_at b.players p).until
  -- where no event was taken, the header's rule reads no player, nor an entry or its open uses
  pub nobody : (x : Latest) (uses uses' : ℕ) (e e' : Entry) (p p' : Player) → x.player ≡ 0
      → latest_legal x uses e p ≡ latest_legal x uses' e' p'
  -- with a good list, no line comes near 2 to the 64: what an event records is added in full, whatever was recorded before
  pub sums : (b : Book) (e : Event) (ls : List Line) (done left : List Ended) (x : Ended) (k : ℕ) → Legal b → Taken b e → good b ls ≡ true
      → endings b e ≡ done ++ x ∷ left → ExactLine (line_at (recorded_all b ls done) k) x

-- Demand 3 as a statement: what is claimed of every list of events run from a fresh legal book, each event lent any list of lines (order 3
-- of document 02). It is proved in `proofs/Demand3`.
-- This file imports no proofs. The rules are used here only where document 01 says so ("with the ledger's figures for the meters");
-- the checks before an event is taken, which of 10 to 13 and 43 a begin is answered, suitable, the grounds against an entry, the order of
-- the choice, until, and what a continue, a stop and a cancel are answered are stated a second time, worded separately.
use Rattle.std.specs.Prelude.{◌≡◌, ◌↔◌, ◌⊎◌, ℕ, suc, ◌+◌, ◌-◌, ◌≤◌, ◌<◌, Bool, true, false, not, ◌&&◌, cond, List, [], ◌∷◌, map, length, eqb}
use Rattle.std.proofs.Math.Option.{Option, none, some}
use Rattle.numbers.specs.Count.{one}
use Rattle.book.specs.declared.Limits.{Limits}
use Rattle.book.specs.declared.Meters.{Meters}
use Rattle.book.specs.declared.Entry.{Entry}
use Rattle.book.specs.declared.Answer.{Answer}
use Rattle.book.specs.declared.Last.{Last}
use Rattle.book.specs.declared.Open.{Open}
use Rattle.book.specs.declared.Line.{Line}
use Rattle.book.specs.declared.Book.{Book}
use Rattle.book.specs.declared.Event.{Event}
use Rattle.book.specs.declared.Kind.{Kind}
use Rattle.book.specs.declared.Kind.TheVariants.{Play, Display, Execute, Print, Export}
use Rattle.book.specs.declared.Recent.{Recent}
use Rattle.book.specs.declared.Request.TheVariants.{Begin, Continue, Stop, Cancel}
use Rattle.book.specs.Decoded.{Decoded, Invalid, Valid}
use Rattle.book.specs.Gate.{Gate, Refuse, Resend, Take}
use Rattle.book.specs.Blank.{no_last, closed}
use Rattle.model.specs.Book.{asset_at, limits_at, meters_at, assets_in, entries_in, flagged}
use Rattle.model.specs.Book.{count_flag, timed_flag, start_flag, end_flag, interval_flag, accumulated_flag}
use Rattle.model.specs.Record.{kind_number, operation_number, decoded}
use Rattle.model.specs.Meters.{where_flagged}
use Rattle.model.specs.Choice.{catalog_of, Choice, nobody, chosen, asks, choose, none_grantable, grant_until}
use Rattle.model.specs.Step.{done, refusal, noted, step, arrive}
use Rattle.model.specs.Report.{line_at, Arrival, admitted, receive, lines_left}
use Rattle.model.specs.Gate.{gate}
use Rattle.model.specs.Ledger.{Use, Taken, Account, empty, latest_taken, resent, called_taken, time_of, latest, is_open, spent_count}
use Rattle.model.specs.Ledger.{spent_timed, spent_seconds, counts_timed, sum_of, earliest, Ground, count-spent, timed-spent}
use Rattle.model.specs.Ledger.{seconds-spent, interval-over, interval-zero, before-start, after-end, switch-off, threshold-full}
use Rattle.model.specs.Ledger.{stands, note_arrival, open_together, marks_by}
use Rattle.model.specs.Ledger.{report_times, report_seconds}
use Rattle.model.specs.History.{answers, final, handed, handed_lines, record_answers, record_final, record_lines}
use Rattle.model.specs.Run.{zero_lines}
use Rattle.model.specs.Demand1.{GoodList, Follows}

-- ## The run

-- the book, and the account of the events and answers so far
pub record State : Type 0 where
  pub book : Book
  pub account : Account

-- "each later one the book that the one before it left"; order 3: "whatever list each event is lent"
unfoldable pub advance : State → Arrival → State
advance s x = record {
  book = (receive s.book x).book;
  account = note_arrival s.account x.event (receive s.book x).answer;
}

-- all events of a list in turn
unfoldable pub after : State → List Arrival → State
after s [] = s
after s (x ∷ xs) = after (advance s x) xs

-- "The first gets a fresh book"
abbrev pub starting : Book → State
starting b = record { book = b; account = empty }

-- ## a. The limits

abbrev pub Every : (Use → Type 0) → List Use → Type 0
Every P [] = Unit {0}
Every P (u ∷ us) = P u × Every P us

-- where the interval of an entry starts; t if the entry has no use
abbrev pub start_or : ℕ → Option ℕ → ℕ
start_or t none = t
start_or t (some c) = c

-- the second x lies in the entry's dates, and in its interval
pub record Inside (l : Limits) (us : List Use) (i x : ℕ) : Type 0 where
  pub start : flagged start_flag l ≡ true → l.start ≤ x
  pub end : flagged end_flag l ≡ true → x ≤ l.end
  pub from : flagged interval_flag l ≡ true → start_or 0 (earliest i us) ≤ x
  pub until : flagged interval_flag l ≡ true → x < start_or 0 (earliest i us) + l.interval

-- "Every second in a use's [begin, until) must lie in its entry's dates and interval; a momentary use has its begin there."
pub record UseInside (l : Limits) (us : List Use) (u : Use) : Type 0 where
  pub begin : Inside l us u.entry u.begin
  pub seconds : (x : ℕ) → u.begin ≤ x → x < u.until → Inside l us u.entry x

-- "spent count, spent timed and spent seconds are at most their flagged limits"; order 7 of document 02: "at most that many players,
-- 1 to 16 (0 for none), have the entry open together"
pub record Limited (T : ℕ) (us : List Use) (es : List Entry) : Type 0 where
  pub count : (i : ℕ) → flagged count_flag (limits_at es i) ≡ true → spent_count us i ≤ (limits_at es i).count
  pub timed : (i : ℕ) → flagged timed_flag (limits_at es i) ≡ true → spent_timed T us i (limits_at es i) ≤ (limits_at es i).timed
  pub seconds : (i : ℕ) → flagged accumulated_flag (limits_at es i) ≡ true → spent_seconds us i ≤ (limits_at es i).accumulated
  pub together : (i : ℕ) → ((limits_at es i).threshold ≡ 0 → ⊥) → open_together T us i ≤ (limits_at es i).threshold
  pub inside : Every (λ u. UseInside (limits_at es u.entry) us u) us

-- ## b. The checks before an event is taken

-- the number of the player's latest taken event, 0 if there is none
abbrev pub number_by : Option Taken → ℕ
number_by none = 0
number_by (some x) = x.event.number

abbrev pub number_of : State → Event → ℕ
number_of s e = number_by (latest_taken e.player s.account.taken)

-- "last + 1", and order 4, in terms of boot number and counter
abbrev pub InLine : State → Event → Type 0
InLine s e = Follows (number_of s e) e.number

-- "t below the book's time or above 4,000,000,000: 5", and the book's time is that of the latest taken event
abbrev pub InTime : State → Event → Type 0
InTime s e = (time_of s.account.taken ≤ e.time) × (e.time ≤ 4000000000)

-- "it is no resend, is taken"
pub record Takes (s : State) (e : Event) : Type 0 where
  pub new : resent s.account e ≡ false
  pub taken : called_taken (step s.book e).answer.code ≡ true

-- the book stays as it is, and the answer is a
abbrev pub OnlyAnswers : State → Event → Answer → Type 0
OnlyAnswers s e a = step s.book e ≡ record { answer = a; book = s.book }

-- "Equal to the player's last number (not 0): a *resend* if operation, asset and kind are equal. It gets the stored answer, t is not read,
-- and nothing changes; else 4. Anything but last + 1: 3 ... Then t ...: 5. From here the event is *taken*"
pub record Checked (s : State) (e : Event) : Type 0 where
  pub no-player : 15 < e.player → OnlyAnswers s e (refusal 2)
  pub again : e.player ≤ 15 → (x : Taken) → latest_taken e.player s.account.taken ≡ some x → resent s.account e ≡ true →
      OnlyAnswers s e x.answer
  pub unlike : e.player ≤ 15 → resent s.account e ≡ false → 0 < number_of s e → e.number ≡ number_of s e → OnlyAnswers s e (refusal 4)
  pub out-of-line : e.player ≤ 15 → (0 < number_of s e → e.number ≡ number_of s e → ⊥) → (InLine s e → ⊥) → OnlyAnswers s e (refusal 3)
  pub out-of-time : e.player ≤ 15 → InLine s e → (InTime s e → ⊥) → OnlyAnswers s e (refusal 5)
  pub takes : e.player ≤ 15 → InLine s e → InTime s e → Takes s e

-- ## c. Which begins reach the choice

-- "and is answered none of 10, 11 and 12"
pub record PastChecks (a : Answer) : Type 0 where
  pub not-10 : a.code ≡ 10 → ⊥
  pub not-11 : a.code ≡ 11 → ⊥
  pub not-12 : a.code ≡ 12 → ⊥

-- "its player has nothing open at t"
abbrev pub NothingOpen : ℕ → ℕ → List Use → Type 0
NothingOpen t p us = Every (λ u. u.player ≡ p → is_open t u ≡ false) us

-- "begin with a use open": some use of the player is open at t
abbrev pub SomeOpen : ℕ → ℕ → List Use → Type 0
SomeOpen t p [] = ⊥
SomeOpen t p (u ∷ us) = ((u.player ≡ p) × (is_open t u ≡ true)) ⊎ SomeOpen t p us

-- "the asset is in the book with key 1"
pub record InBookWithKey (b : Book) (asset : ℕ) : Type 0 where
  pub position : ℕ
  pub below : position < assets_in b
  pub number : (asset_at b.assets position).number ≡ asset
  pub key : (asset_at b.assets position).key ≡ 1

-- An entry of asset `owner` serves `asset`: its own, or that of the parent in the book from which it inherits. There is no third case:
-- nothing through an illegal asset or one with a key, nothing through two levels, nothing through an inherit that is not in the book.
pub data Serves (b : Book) (asset owner : ℕ) : Type 0 where
  own : owner ≡ asset → Serves b asset owner
  inherited : (x y : ℕ) → x < assets_in b → y < assets_in b
      → (asset_at b.assets x).number ≡ asset → (asset_at b.assets x).inherit ≡ (asset_at b.assets y).number
      → (asset_at b.assets y).key ≡ 0 → (asset_at b.assets y).inherit ≡ 0 → owner ≡ (asset_at b.assets y).number
      → Serves b asset owner

-- entry i is suitable
pub record Suits (b : Book) (asset kind i : ℕ) : Type 0 where
  pub below : i < entries_in b
  pub kind-is : (limits_at b.entries i).kind ≡ kind
  pub serves : Serves b asset (limits_at b.entries i).asset

-- "which by the ledger and the book's assets and entries means: its player has nothing open at t, the asset is in the book with key 1,
-- and some entry is suitable"
pub record MayChoose (s : State) (e : Event) (asset kind : ℕ) : Type 0 where
  pub idle : NothingOpen e.time e.player s.account.uses
  pub asset-in : InBookWithKey s.book asset
  pub entry : ℕ
  pub suits : Suits s.book asset kind entry

-- ## d. What a begin is answered

-- answered with that code exactly when P holds; "Each of 1 to 15 returns entry 255 and until 0."
abbrev pub RefusedWhen : Type 0 → ℕ → Answer → Type 0
RefusedWhen P code a = (a.code ≡ code → P) × (P → a ≡ refusal code)

-- by the ledger, that ground stands against entry i
abbrev pub against : Event → State → ℕ → Ground → Bool
against e s i g = stands s.book.switch e s.account.uses i (limits_at s.book.entries i) g

-- entry i "is out of its dates or spent": some ground stands. "Any ground against a grant that a request adds counts in demand 3, by the
-- ledger, like out of its dates or spent."
pub record OutOrSpent (e : Event) (s : State) (i : ℕ) : Type 0 where
  pub ground : Ground
  pub holds : against e s i ground ≡ true

-- entry i is neither: no ground stands
abbrev pub Left : Event → State → ℕ → Type 0
Left e s i = (g : Ground) → against e s i g ≡ false

-- "every suitable entry is out of its dates or spent"
abbrev pub NoneLeft : State → Event → ℕ → ℕ → Type 0
NoneLeft s e asset kind = (i : ℕ) → Suits s.book asset kind i → OutOrSpent e s i

-- order 3: "some suitable entry fails for the switch only": that ground stands against it, and no other
pub record ForSwitch (s : State) (e : Event) (asset kind : ℕ) : Type 0 where
  pub entry : ℕ
  pub suits : Suits s.book asset kind entry
  pub stands : against e s entry switch-off ≡ true
  pub only : (g : Ground) → against e s entry g ≡ true → g ≡ switch-off

-- whether the entry's interval has started, by the ledger
abbrev pub is_some : Option ℕ → Bool
is_some none = false
is_some (some c) = true

-- the same, for an entry with a flagged interval
abbrev pub running : List Use → ℕ → Limits → Bool
running us i l = flagged interval_flag l && is_some (earliest i us)

-- (i) for two entries
abbrev pub SameFlags : Limits → Limits → Type 0
SameFlags x y = x.flags ≡ 0 ↔ y.flags ≡ 0

-- Order 6 of document 02: "end + 1 and, if started, first + interval", for entry i by the ledger
pub data Moment (us : List Use) (i : ℕ) (l : Limits) (x : ℕ) : Type 0 where
  at-end : flagged end_flag l ≡ true → x ≡ l.end + 1 → Moment us i l x
  at-interval : (c : ℕ) → flagged interval_flag l ≡ true → earliest i us ≡ some c → x ≡ c + l.interval → Moment us i l x

-- "last moment, which is the least of" these
pub record LastMoment (us : List Use) (i : ℕ) (l : Limits) (x : ℕ) : Type 0 where
  pub listed : Moment us i l x
  pub least : (y : ℕ) → Moment us i l y → x ≤ y

-- "an entry with neither"
abbrev pub NoMoment : List Use → ℕ → Limits → Type 0
NoMoment us i l = (x : ℕ) → Moment us i l x → ⊥

-- "earlier last moment ...; an entry with neither comes last"
pub data EarlierMoment (us : List Use) (i j : ℕ) (x y : Limits) : Type 0 where
  only-first : (a : ℕ) → LastMoment us i x a → NoMoment us j y → EarlierMoment us i j x y
  both-sooner : (a b : ℕ) → LastMoment us i x a → LastMoment us j y b → a < b → EarlierMoment us i j x y

pub data SameMoment (us : List Use) (i j : ℕ) (x y : Limits) : Type 0 where
  neither : NoMoment us i x → NoMoment us j y → SameMoment us i j x y
  both-same : (a : ℕ) → LastMoment us i x a → LastMoment us j y a → SameMoment us i j x y

-- Entry i goes before entry j "by: (i) no flags; ... (iv) own before inherited; (v) lower position", with "earlier last moment" after (i)
pub data Precedes (es : List Entry) (us : List Use) (asset i j : ℕ) : Type 0 where
  by_flags : (limits_at es i).flags ≡ 0 → ((limits_at es j).flags ≡ 0 → ⊥) → Precedes es us asset i j
  by-moment : SameFlags (limits_at es i) (limits_at es j) → EarlierMoment us i j (limits_at es i) (limits_at es j)
      → Precedes es us asset i j
  by-owner : SameFlags (limits_at es i) (limits_at es j) → SameMoment us i j (limits_at es i) (limits_at es j)
      → (limits_at es i).asset ≡ asset → ((limits_at es j).asset ≡ asset → ⊥) → Precedes es us asset i j
  by-position : SameFlags (limits_at es i) (limits_at es j) → SameMoment us i j (limits_at es i) (limits_at es j)
      → ((limits_at es i).asset ≡ asset ↔ (limits_at es j).asset ≡ asset) → i < j → Precedes es us asset i j

-- the times of which until is the least: "t + 60, end + 1, first + interval (first is t if not started), t + unused seconds",
-- for a continue "old until + unused seconds"
pub data Bound (t from : ℕ) (l : Limits) (us : List Use) (i x : ℕ) : Type 0 where
  near : x ≡ t + 60 → Bound t from l us i x
  last : flagged end_flag l ≡ true → x ≡ l.end + 1 → Bound t from l us i x
  span : flagged interval_flag l ≡ true → x ≡ start_or t (earliest i us) + l.interval → Bound t from l us i x
  unused : flagged accumulated_flag l ≡ true → x ≡ from + (l.accumulated - spent_seconds us i) → Bound t from l us i x

-- u is one of these times, and the least
pub record IsLeast (t from : ℕ) (l : Limits) (us : List Use) (i u : ℕ) : Type 0 where
  pub listed : Bound t from l us i u
  pub least : (x : ℕ) → Bound t from l us i x → u ≤ x

-- "Print and export are momentary"; "Momentary: until = t"
abbrev pub UntilIs : Kind → ℕ → Limits → List Use → ℕ → ℕ → Type 0
UntilIs Play t l us i u = IsLeast t t l us i u
UntilIs Display t l us i u = IsLeast t t l us i u
UntilIs Execute t l us i u = IsLeast t t l us i u
UntilIs Print t l us i u = u ≡ t
UntilIs Export t l us i u = u ≡ t

-- "else is granted, with the entry and until that document 01 fixes", in words
pub record Granted (s : State) (e : Event) (kind : Kind) (asset : ℕ) (a : Answer) : Type 0 where
  pub code : a.code ≡ 0
  pub suits : Suits s.book asset (kind_number kind) a.entry
  pub left : Left e s a.entry
  pub first : (j : ℕ) → Suits s.book asset (kind_number kind) j → Left e s j → (j ≡ a.entry → ⊥)
      → Precedes s.book.entries s.account.uses asset a.entry j
  pub until : UntilIs kind e.time (limits_at s.book.entries a.entry) s.account.uses a.entry a.until

-- "the ledger's figures for the meters"; `at` is the time at which each player's uses are judged
unfoldable pub figures : (ℕ → ℕ) → List Use → ℕ → Limits → Meters
figures at us i l = record {
  count = where_flagged (flagged count_flag l) (spent_count us i);
  timed = where_flagged (flagged timed_flag l) (sum_of (counts_timed at l.timer i) us);
  first = where_flagged (flagged interval_flag l) (start_or 0 (earliest i us));
  seconds = where_flagged (flagged accumulated_flag l) (spent_seconds us i);
  started = one (running us i l);
  marks = marks_by at us i;
}

-- from position i on
unfoldable pub filled_from : ℕ → List Use → ℕ → List Entry → List Entry
filled_from T us i [] = []
filled_from T us i (x ∷ xs) = record { limits = x.limits; meters = figures (λ p. T) us i x.limits } ∷ filled_from T us (suc i) xs

-- the entries with the ledger's figures for their meters
abbrev pub filled : ℕ → List Use → List Entry → List Entry
filled T us es = filled_from T us 0 es

-- the answer for a choice; `code` is that if nothing is grantable
abbrev pub chosen_answer : ℕ → ℕ → List Entry → Choice → Answer
chosen_answer code t es nobody = refusal code
chosen_answer code t es (chosen i) = record { code = 0; entry = i; until = grant_until t (limits_at es i) (meters_at es i) }

-- A begin that reaches the choice "is answered "none grantable" exactly when by the ledger every suitable entry is out of its dates or
-- spent, and else is granted": once in words, and once by the rules' own choice "judged by the ledger before it, with T = its t and the
-- ledger's figures for the meters". "None grantable" is 13, or 43: order 3, "43, taken, in place of 13 when some suitable entry fails for
-- the switch only".
pub record Chosen (s : State) (e : Event) (kind : Kind) (asset : ℕ) : Type 0 where
  pub none : RefusedWhen (NoneLeft s e asset (kind_number kind) × (ForSwitch s e asset (kind_number kind) → ⊥)) 13 (step s.book e).answer
  pub switch : RefusedWhen (NoneLeft s e asset (kind_number kind) × ForSwitch s e asset (kind_number kind)) 43 (step s.book e).answer
  pub either : NoneLeft s e asset (kind_number kind) → ((step s.book e).answer ≡ refusal 13) ⊎ ((step s.book e).answer ≡ refusal 43)
  pub granted : ((step s.book e).answer.code ≡ 13 → ⊥) → ((step s.book e).answer.code ≡ 43 → ⊥)
      → Granted s e kind asset (step s.book e).answer
  pub answer : (step s.book e).answer ≡
      chosen_answer (none_grantable (catalog_of s.book) (filled e.time s.account.uses s.book.entries) (asks s.book e) asset
      (kind_number kind)) e.time (filled e.time s.account.uses s.book.entries)
      (choose (catalog_of s.book) (filled e.time s.account.uses s.book.entries) (asks s.book e) asset (kind_number kind))

-- "10 | asset not in book, or key 0": checked after 11, so nothing is open
pub record Unknown (s : State) (e : Event) (asset : ℕ) : Type 0 where
  pub idle : NothingOpen e.time e.player s.account.uses
  pub not_in : InBookWithKey s.book asset → ⊥

-- "12 | no suitable entry": checked after 11 and 10
pub record Unsuited (s : State) (e : Event) (asset kind : ℕ) : Type 0 where
  pub idle : NothingOpen e.time e.player s.account.uses
  pub asset-in : InBookWithKey s.book asset
  pub none-suits : (i : ℕ) → Suits s.book asset kind i → ⊥

-- What is claimed of a begin that is taken and is no resend: "in order: 11, 10, 12, 13", each exactly when its condition holds.
pub record Begins (s : State) (e : Event) (kind : Kind) (asset : ℕ) : Type 0 where
  pub busy : RefusedWhen (SomeOpen e.time e.player s.account.uses) 11 (step s.book e).answer
  pub unknown : RefusedWhen (Unknown s e asset) 10 (step s.book e).answer
  pub unsuited : RefusedWhen (Unsuited s e asset (kind_number kind)) 12 (step s.book e).answer
  pub reaches : PastChecks (step s.book e).answer ↔ MayChoose s e asset (kind_number kind)
  pub choice : PastChecks (step s.book e).answer → Chosen s e kind asset

-- ## e. What a continue and a stop are answered

-- the use that a continue or a stop applies to: its player's latest, open at t
pub record IsCurrent (t p : ℕ) (us : List Use) (u : Use) : Type 0 where
  pub latest-use : latest p us ≡ some u
  pub still_open : is_open t u ≡ true

-- "The new until is the least of t + 60, end + 1, first + interval, old until + unused seconds. Equal to the old: 15.";
-- it is never below the old
pub record Lengthened (s : State) (e : Event) (a : Answer) : Type 0 where
  pub current : Use
  pub is-current : IsCurrent e.time e.player s.account.uses current
  pub until : ℕ
  pub least : IsLeast e.time current.until (limits_at s.book.entries current.entry) s.account.uses current.entry until
  pub not-below : current.until ≤ until
  pub no_more : RefusedWhen (until ≡ current.until) 15 a
  pub more : (until ≡ current.until → ⊥) → a ≡ record { code = 0; entry = current.entry; until = until }

-- "**Continue**: 14 if nothing is open.", otherwise as above
pub record Continues (s : State) (e : Event) : Type 0 where
  pub nothing : RefusedWhen (NothingOpen e.time e.player s.account.uses) 14 (step s.book e).answer
  pub lengthened : (NothingOpen e.time e.player s.account.uses → ⊥) → Lengthened s e (step s.book e).answer

-- "The use ends at t"; "Answer: its entry, until t."
pub record Halted (s : State) (e : Event) (a : Answer) : Type 0 where
  pub current : Use
  pub is-current : IsCurrent e.time e.player s.account.uses current
  pub answer : a ≡ record { code = 0; entry = current.entry; until = e.time }

-- "**Stop**: 14 if nothing is open.", otherwise as above
pub record Stops (s : State) (e : Event) : Type 0 where
  pub nothing : RefusedWhen (NothingOpen e.time e.player s.account.uses) 14 (step s.book e).answer
  pub halted : (NothingOpen e.time e.player s.account.uses → ⊥) → Halted s e (step s.book e).answer

-- ## e2. What a cancel is answered

-- the last event taken from any player was a granted begin
pub record LastBegin (s : State) : Type 0 where
  pub last : Taken
  pub earlier : List Taken
  pub is_last : s.account.taken ≡ last ∷ earlier
  pub kind : Kind
  pub asset : ℕ
  pub begin : last.event.request ≡ Begin kind asset
  pub granted : last.answer.code ≡ 0

-- Order 8 of document 02: "the last event taken from any player was this player's granted begin of a use still open"
pub record JustBegun (s : State) (e : Event) : Type 0 where
  pub begun : LastBegin s
  pub player : begun.last.event.player ≡ e.player
  pub current : Use
  pub is-current : IsCurrent e.time e.player s.account.uses current

-- the use u is the one that x, a granted begin for an asset, added, and is as it was then
pub record AddedBy (x : Taken) (asset : ℕ) (u : Use) : Type 0 where
  pub entry : u.entry ≡ x.answer.entry
  pub player : u.player ≡ x.event.player
  pub begin : u.begin ≡ x.event.time
  pub until : u.until ≡ x.answer.until
  pub stopped : u.stopped ≡ false
  pub content : u.content ≡ asset

-- "The answer is 0, the entry and the use's begin. The ledger drops the use.": it is the ledger's newest, which that begin had added, and
-- the uses left are those before it
pub record TakenBack (s : State) (e : Event) (j : JustBegun s e) (a : Answer) : Type 0 where
  pub answer : a ≡ record { code = 0; entry = j.current.entry; until = j.current.begin }
  pub added : AddedBy j.begun.last j.begun.asset j.current
  pub dropped : s.account.uses ≡ j.current ∷ (note_arrival s.account (Valid e) a).uses

-- "14 if nothing is open, then 44, taken, if another event was taken since or it was no such begin", otherwise as above
pub record Cancels (s : State) (e : Event) : Type 0 where
  pub nothing : RefusedWhen (NothingOpen e.time e.player s.account.uses) 14 (step s.book e).answer
  pub since : RefusedWhen ((NothingOpen e.time e.player s.account.uses → ⊥) × (JustBegun s e → ⊥)) 44 (step s.book e).answer
  pub back : (j : JustBegun s e) → TakenBack s e j (step s.book e).answer
  pub granted : ((step s.book e).answer.code ≡ 14 → ⊥) → ((step s.book e).answer.code ≡ 44 → ⊥) → JustBegun s e

-- ## f. Resends struck out

abbrev pub read_resend : Account → Decoded → Bool
read_resend a (Invalid code) = false
read_resend a (Valid e) = resent a e

-- order 3: "an event answered 30 is no resend"
abbrev pub is_resend : State → Arrival → Bool
is_resend s x = not (eqb (receive s.book x).answer.code 30) && read_resend s.account x.event

-- "The list with every resend struck out", and the answers to what is left. Order 3: each event keeps its list, "the same in both runs".
unfoldable pub struck : State → List Arrival → List Arrival
struck s [] = []
struck s (x ∷ xs) = cond (is_resend s x) (struck (advance s x) xs) (x ∷ struck (advance s x) xs)

unfoldable pub kept : State → List Arrival → List Answer
kept s [] = []
kept s (x ∷ xs) = cond (is_resend s x) (kept (advance s x) xs) ((receive s.book x).answer ∷ kept (advance s x) xs)

-- ## g. Every answer from the ledger alone

-- what the player has open at T, and its latest taken event, as the book would store them
abbrev pub held_by : ℕ → Option Use → Open
held_by T none = closed
held_by T (some u) = cond (is_open T u) (record { on = 1; entry = u.entry; begin = u.begin; until = u.until; content = u.content }) closed

abbrev pub held_in : ℕ → ℕ → List Use → Open
held_in T p us = held_by T (latest p us)

abbrev pub last_by : Option Taken → Last
last_by none = no_last
last_by (some x) = noted x.event x.answer

abbrev pub last_of : ℕ → List Taken → Last
last_of p taken = last_by (latest_taken p taken)

-- whether the event is a granted begin
abbrev pub granted_begin : Taken → Bool
granted_begin x = eqb (operation_number x.event.request) 1 && eqb x.answer.code 0

-- whether the last event taken from any player is the player's granted begin
abbrev pub begun_last : ℕ → List Taken → Bool
begun_last p [] = false
begun_last p (x ∷ xs) = eqb x.event.player p && granted_begin x

-- what a cancel reads of it; no answer depends on whether it started an interval
abbrev pub recent_by : ℕ → List Taken → Recent
recent_by p taken = record { begun = begun_last p taken; started = false }

-- the answer from the account, given the result of the checks
unfoldable pub predict_by : Gate → Book → Account → Event → Answer
predict_by (Refuse code) b a e = refusal code
predict_by Resend b a e = (last_of e.player a.taken).answer
predict_by Take b a e =
    (done e.request (catalog_of b) (filled e.time a.uses b.entries) (held_in e.time e.player a.uses) (asks b e)
    (recent_by e.player a.taken)).answer

-- the answer from the account; b is read only for what no event changes: switch, assets, limits, counts
unfoldable pub predict : Book → Account → Decoded → Answer
predict b a (Invalid code) = refusal code
predict b a (Valid e) = predict_by (gate (time_of a.taken) (last_of e.player a.taken) e) b a e

-- the answers of a machine that holds no book: b is the fresh book throughout
unfoldable pub predicted : Book → Account → List Arrival → List Answer
predicted b a [] = []
predicted b a (x ∷ xs) = predict b a (admitted b x) ∷ predicted b (note_arrival a x.event (predict b a (admitted b x))) xs

-- ## h. A limit of zero

-- Order 2 of document 02: "Count, timed, interval and accumulated may now be 0 when flagged". One of the four is.
pub data ZeroLimit (l : Limits) : Type 0 where
  zero-count : flagged count_flag l ≡ true → l.count ≡ 0 → ZeroLimit l
  zero-timed : flagged timed_flag l ≡ true → l.timed ≡ 0 → ZeroLimit l
  zero-interval : flagged interval_flag l ≡ true → l.interval ≡ 0 → ZeroLimit l
  zero-accumulated : flagged accumulated_flag l ≡ true → l.accumulated ≡ 0 → ZeroLimit l

-- the grounds that make an entry spent; by `before-start` and `after-end` it is out of its dates, by `switch-off` and `threshold-full`
-- neither
abbrev pub is_spent : Ground → Bool
is_spent count-spent = true
is_spent timed-spent = true
is_spent seconds-spent = true
is_spent interval-over = true
is_spent interval-zero = true
is_spent before-start = false
is_spent after-end = false
is_spent switch-off = false
is_spent threshold-full = false

-- entry i is spent by the ledger
pub record Spent (e : Event) (s : State) (i : ℕ) : Type 0 where
  pub ground : Ground
  pub is-spent : is_spent ground ≡ true
  pub holds : against e s i ground ≡ true

-- "such an entry is never grantable, and spent in the ledger": at every event it is spent, and no use is ever of it;
-- "a begin with only such entries gets 13"
pub record NeverGranted (b : Book) : Type 0 where
  pub spent : (xs : List Arrival) (e : Event) (i : ℕ) → ZeroLimit (limits_at b.entries i) → Spent e (after (starting b) xs) i
  pub unused : (xs : List Arrival) (i : ℕ) → ZeroLimit (limits_at b.entries i)
      → Every (λ u. u.entry ≡ i → ⊥) (after (starting b) xs).account.uses
  pub only : (xs : List Arrival) (e : Event) (kind : Kind) (asset : ℕ) → e.request ≡ Begin kind asset → Takes (after (starting b) xs) e
      → MayChoose (after (starting b) xs) e asset (kind_number kind)
      → ((i : ℕ) → Suits (after (starting b) xs).book asset (kind_number kind) i → ZeroLimit (limits_at b.entries i))
      → (step (after (starting b) xs).book e).answer ≡ refusal 13

-- ## i. The list that an event is lent

-- order 3: "Any other list, or one holding 2 to the 62 or more, gets 30 255 0 before all checks, with nothing changed, the ledger too."
-- With a good list the event is answered as if there were none, so what is claimed of `step` holds of it.
pub record Lent (s : State) (x : Arrival) : Type 0 where
  pub good : GoodList s.book x.lines → receive s.book x ≡ arrive s.book x.event
  pub bad : (GoodList s.book x.lines → ⊥) → receive s.book x ≡ record { answer = refusal 30; book = s.book }
  pub noted : (GoodList s.book x.lines → ⊥) → advance s x ≡ s
  pub lines : (GoodList s.book x.lines → ⊥) → lines_left s.book x ≡ x.lines
  pub resend : (GoodList s.book x.lines → ⊥) → is_resend s x ≡ false

-- ## j. The report

-- the ledger's sums for a content, by the entries' limits, which no event changes
abbrev pub times_by : List Entry → State → ℕ → ℕ
times_by es s content = report_times (time_of s.account.taken) (limits_at es) content s.account.uses

abbrev pub seconds_by : List Entry → State → ℕ → ℕ
seconds_by es s content = report_seconds (time_of s.account.taken) (limits_at es) content s.account.uses

-- the content of line k
abbrev pub content_of : Book → ℕ → ℕ
content_of b k = (asset_at b.assets k).number

-- What one event does to the list that it is lent: with the switch on, each line gains what the ledger's sums for its content gain, and
-- nothing else of the list changes.
pub record Gains (s : State) (x : Arrival) : Type 0 where
  pub size : length (lines_left s.book x) ≡ length x.lines
  pub contents : (k : ℕ) → (line_at (lines_left s.book x) k).content ≡ (line_at x.lines k).content
  pub times : s.book.switch ≡ 1 → (k : ℕ) → k < assets_in s.book
      → (line_at (lines_left s.book x) k).times + times_by s.book.entries s (content_of s.book k)
      ≡ (line_at x.lines k).times + times_by s.book.entries (advance s x) (content_of s.book k)
  pub seconds : s.book.switch ≡ 1 → (k : ℕ) → k < assets_in s.book
      → (line_at (lines_left s.book x) k).seconds + seconds_by s.book.entries s (content_of s.book k)
      ≡ (line_at x.lines k).seconds + seconds_by s.book.entries (advance s x) (content_of s.book k)
  pub further : (k : ℕ) → assets_in s.book ≤ k → line_at (lines_left s.book x) k ≡ line_at x.lines k
  -- "With the switch off .. nothing is recorded."
  pub off : s.book.switch ≡ 0 → lines_left s.book x ≡ x.lines

-- "From zeros": the first lines name the assets in the book's order; any lines may follow
abbrev pub FromZeros : Book → List Line → Type 0
FromZeros b ls = (k : ℕ) → k < assets_in b → line_at ls k ≡ record { content = content_of b k; times = 0; seconds = 0 }

-- "From zeros, each event lent the lines the last one left, with the switch on, those first lines equal the ledger's sums over ended uses
-- of tracked entries, any further line staying as it was; with it off they stay zeros."
pub record Reported (b : Book) (ls : List Line) (ds : List Decoded) : Type 0 where
  pub first : b.switch ≡ 1 → (k : ℕ) → k < assets_in b → line_at (handed_lines b ls ds) k ≡ record {
    content = content_of b k;
    times = times_by b.entries (after (starting b) (handed b ls ds)) (content_of b k);
    seconds = seconds_by b.entries (after (starting b) (handed b ls ds)) (content_of b k);
  }
  pub further : (k : ℕ) → assets_in b ≤ k → line_at (handed_lines b ls ds) k ≡ line_at ls k
  pub size : length (handed_lines b ls ds) ≡ length ls
  pub off : b.switch ≡ 0 → handed_lines b ls ds ≡ ls

-- ## The demand, for a fresh book

-- 10 to the 16. A player has numbers enough for 2 to the 62 uses, of 0 seconds each and all at one time, and then a line would be full. Of so
-- many events each counts one time at most, and 300 seconds at most (60 today), so no line reaches 2 to the 62.
abbrev pub events_at_most : ℕ
events_at_most = 10000000000000000

pub record Demand3 (b : Book) : Type 0 where
  pub time : (xs : List Arrival) → (after (starting b) xs).book.time ≡ time_of (after (starting b) xs).account.taken
  pub limits : (xs : List Arrival) → Limited (time_of (after (starting b) xs).account.taken) (after (starting b) xs).account.uses
      b.entries
  pub lent : (xs : List Arrival) (x : Arrival) → Lent (after (starting b) xs) x
  pub checked : (xs : List Arrival) (e : Event) → Checked (after (starting b) xs) e
  pub begins : (xs : List Arrival) (e : Event) (kind : Kind) (asset : ℕ) → e.request ≡ Begin kind asset → Takes (after (starting b) xs) e
      → Begins (after (starting b) xs) e kind asset
  pub continues : (xs : List Arrival) (e : Event) → e.request ≡ Continue → Takes (after (starting b) xs) e → Continues
      (after (starting b) xs) e
  pub stops : (xs : List Arrival) (e : Event) → e.request ≡ Stop → Takes (after (starting b) xs) e → Stops (after (starting b) xs) e
  pub cancels : (xs : List Arrival) (e : Event) → e.request ≡ Cancel → Takes (after (starting b) xs) e → Cancels (after (starting b) xs) e
  pub struck_answers : (xs : List Arrival) → answers b (struck (starting b) xs) ≡ kept (starting b) xs
  pub struck_book : (xs : List Arrival) → final b (struck (starting b) xs) ≡ final b xs
  pub predictable : (xs : List Arrival) → answers b xs ≡ predicted b empty xs
  pub never : NeverGranted b
  pub gains : (xs : List Arrival) (x : Arrival) → Gains (after (starting b) xs) x
  pub reported : (ls : List Line) (ds : List Decoded) → FromZeros b ls → Reported b ls ds
  -- the list that the run program begins with is such a list, and good
  pub zeros : FromZeros b (zero_lines b) × GoodList b (zero_lines b)
  -- from zeros the lines handed on stay good, so by `lent` none gets 30 for its list
  pub stays_good : (ls : List Line) (ds : List Decoded) → length ds ≤ events_at_most → FromZeros b ls → GoodList b ls
      → GoodList (after (starting b) (handed b ls ds)).book (handed_lines b ls ds)
  pub records : (ls : List Line) (rs : List (List ℕ)) → (record_answers b ls rs ≡ answers b (handed b ls (map decoded rs)))
      × (record_final b ls rs ≡ final b (handed b ls (map decoded rs)))
      × (record_lines b ls rs ≡ handed_lines b ls (map decoded rs))

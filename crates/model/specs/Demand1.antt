-- Demand 1 as a statement: "Every event and every book image that meets the rules of document 01 is accepted, and gets the answer and
-- the new book that those rules fix. Everything else is turned away with the number in its table, and the book and every byte lent to
-- the server are then what they were." Claimed of every book, legal or not, of every list of lines lent for the report (order 3 of document
-- 02), and of every list of numbers as a record. It is proved in `proofs/Demand1`. This file imports no proofs. What a record says and the
-- checks before an event is taken are stated here a second time, in terms of byte positions and numbers. Of the rules only the step itself
-- and the settling of entries are used.
-- Which of 10 to 15, 43 and 44 a taken event gets, which entry a begin gets and until when is stated by `Demand3`, in terms of the ledger,
-- and what the meters become by `Agrees`.
use Rattle.std.specs.Prelude.{◌≡◌, ◌↔◌, ◌⊎◌, ℕ, ◌+◌, ◌*◌, ◌≤◌, ◌<◌, true, List, length, get_or}
use Rattle.book.specs.declared.Answer.{Answer}
use Rattle.book.specs.declared.Entry.{Entry}
use Rattle.book.specs.declared.Open.{Open}
use Rattle.book.specs.declared.Player.{Player}
use Rattle.book.specs.declared.Line.{Line}
use Rattle.book.specs.declared.Book.{Book}
use Rattle.book.specs.declared.Outcome.{Outcome}
use Rattle.book.specs.Blank.{no_entry, closed}
use Rattle.model.specs.Book.{asset_at, assets_in, limits_at, meters_at, player_at, flagged, interval_flag, Legal}
use Rattle.model.specs.Image.{newest, version_in, image_as, read_code, SaidBy, Bytes}
use Rattle.model.specs.Meters.{settled}
use Rattle.model.specs.Report.{line_at, receive, lines_left, lent}

-- ## What a record says

-- "13-byte events (player 8, number 32, operation 8, asset 16, kind 8, time 32)"; "Big-endian." Order 4 of document 02: "New players put a
-- 32-bit boot number before their counter", and "Event records grow to 17 bytes".
abbrev pub byte : ℕ → List ℕ → ℕ
byte k s = get_or s k 0

abbrev pub asked_player : List ℕ → ℕ
asked_player s = byte 0 s

abbrev pub asked_boot : List ℕ → ℕ
asked_boot s = byte 1 s * 16777216 + byte 2 s * 65536 + byte 3 s * 256 + byte 4 s

abbrev pub asked_counter : List ℕ → ℕ
asked_counter s = byte 5 s * 16777216 + byte 6 s * 65536 + byte 7 s * 256 + byte 8 s

-- the number with that boot number and that counter
abbrev pub numbered : ℕ → ℕ → ℕ
numbered boot counter = boot * 4294967296 + counter

abbrev pub asked_number : List ℕ → ℕ
asked_number s = numbered (asked_boot s) (asked_counter s)

abbrev pub asked_operation : List ℕ → ℕ
asked_operation s = byte 9 s

abbrev pub asked_asset : List ℕ → ℕ
asked_asset s = byte 10 s * 256 + byte 11 s

abbrev pub asked_kind : List ℕ → ℕ
asked_kind s = byte 12 s

abbrev pub asked_time : List ℕ → ℕ
asked_time s = byte 13 s * 16777216 + byte 14 s * 65536 + byte 15 s * 256 + byte 16 s

-- "operation (1 begin, 2 continue, 3 stop)"; "Kind is 1 to 5 for begin; asset and kind are 0 otherwise."
pub data LegalRequest (operation asset kind : ℕ) : Type 0 where
  begin : operation ≡ 1 → 1 ≤ kind → kind ≤ 5 → LegalRequest operation asset kind
  continue : operation ≡ 2 → asset ≡ 0 → kind ≡ 0 → LegalRequest operation asset kind
  stop : operation ≡ 3 → asset ≡ 0 → kind ≡ 0 → LegalRequest operation asset kind
  -- order 8: "Operation 4, with asset and kind 0"
  cancel : operation ≡ 4 → asset ≡ 0 → kind ≡ 0 → LegalRequest operation asset kind

-- the record is an event: it passes the checks 6, 2 and 1
pub record IsEvent (s : List ℕ) : Type 0 where
  pub whole : length s ≡ 17
  pub player : asked_player s ≤ 15
  pub request : LegalRequest (asked_operation s) (asked_asset s) (asked_kind s)

-- ## The list that it is lent

-- order 3: "The report is a lent list of up to 64 lines, each with content, times and seconds in 64 bits, the first naming the assets in
-- the book's order. .. Any other list, or one holding 2 to the 62 or more, gets 30 255 0": what a list must be for another answer
pub record GoodList (b : Book) (ls : List Line) : Type 0 where
  pub enough : assets_in b ≤ length ls
  pub most : length ls ≤ 64
  pub names : (k : ℕ) → k < assets_in b → (line_at ls k).content ≡ (asset_at b.assets k).number
  pub contents : (k : ℕ) → (line_at ls k).content < 4611686018427387904
  pub times : (k : ℕ) → (line_at ls k).times < 4611686018427387904
  pub seconds : (k : ℕ) → (line_at ls k).seconds < 4611686018427387904

-- the record, lent these lines: answer and book
abbrev pub received : Book → List Line → List ℕ → Outcome
received b ls s = receive b (lent ls s)

-- and the lines after it
abbrev pub left : Book → List Line → List ℕ → List Line
left b ls s = lines_left b (lent ls s)

-- ## What the book says of its player

abbrev pub asker : Book → List ℕ → Player
asker b s = player_at b.players (asked_player s)

-- "Equal to the player's last number (not 0)"
pub record SameNumber (b : Book) (s : List ℕ) : Type 0 where
  pub not_none : 0 < (asker b s).last.number
  pub number : asked_number s ≡ (asker b s).last.number

-- "operation, asset and kind are equal"
pub record SameRequest (b : Book) (s : List ℕ) : Type 0 where
  pub operation : asked_operation s ≡ (asker b s).last.operation
  pub asset : asked_asset s ≡ (asker b s).last.asset
  pub kind : asked_kind s ≡ (asker b s).last.kind

-- "last + 1"; order 4: "Counter 1 under a greater boot number is in line too, and now only the largest 64-bit number has none after it."
-- In terms of boot number and counter, each at most 4,294,967,295:
pub data Follows (last number : ℕ) : Type 0 where
  -- the same boot number with the next counter
  same-boot : (boot counter : ℕ) → boot ≤ 4294967295 → counter < 4294967295
      → last ≡ numbered boot counter → number ≡ numbered boot (counter + 1) → Follows last number
  -- after the greatest counter, the next boot number with counter 0
  next-boot : (boot : ℕ) → boot < 4294967295
      → last ≡ numbered boot 4294967295 → number ≡ numbered (boot + 1) 0 → Follows last number
  -- any greater boot number with counter 1
  greater-boot : (boot counter greater : ℕ) → counter ≤ 4294967295 → boot < greater → greater ≤ 4294967295
      → last ≡ numbered boot counter → number ≡ numbered greater 1 → Follows last number

abbrev pub InLine : Book → List ℕ → Type 0
InLine b s = Follows (asker b s).last.number (asked_number s)

-- not "t below the book's time or above 4,000,000,000"
pub record InTime (b : Book) (s : List ℕ) : Type 0 where
  pub not_back : b.time ≤ asked_time s
  pub not_late : asked_time s ≤ 4000000000

-- ## Turned away, a resend, or taken

-- "Order of checks: 2, 1, then the number. ... else 4. Anything but last + 1: 3 ... Then ... 5.": when each of 1 to 6 is returned; order 3:
-- "30 255 0 before all checks"
pub data Against (b : Book) (ls : List Line) (s : List ℕ) (code : ℕ) : Type 0 where
  bad-list : code ≡ 30 → (GoodList b ls → ⊥) → Against b ls s code
  cut : code ≡ 6 → GoodList b ls → (length s ≡ 17 → ⊥) → Against b ls s code
  no-player : code ≡ 2 → GoodList b ls → length s ≡ 17 → 15 < asked_player s → Against b ls s code
  no-request : code ≡ 1 → GoodList b ls → length s ≡ 17 → asked_player s ≤ 15
      → (LegalRequest (asked_operation s) (asked_asset s) (asked_kind s) → ⊥)
      → Against b ls s code
  unlike : code ≡ 4 → GoodList b ls → IsEvent s → SameNumber b s → (SameRequest b s → ⊥) → Against b ls s code
  out-of-line : code ≡ 3 → GoodList b ls → IsEvent s → (SameNumber b s → ⊥) → (InLine b s → ⊥) → Against b ls s code
  out-of-time : code ≡ 5 → GoodList b ls → IsEvent s → InLine b s → (InTime b s → ⊥) → Against b ls s code

-- "a *resend* if operation, asset and kind are equal"
pub record IsResend (b : Book) (ls : List Line) (s : List ℕ) : Type 0 where
  pub list : GoodList b ls
  pub event : IsEvent s
  pub number : SameNumber b s
  pub request : SameRequest b s

-- "From here the event is *taken*"
pub record IsTaken (b : Book) (ls : List Line) (s : List ℕ) : Type 0 where
  pub list : GoodList b ls
  pub event : IsEvent s
  pub line : InLine b s
  pub time : InTime b s

-- there is no fourth case
pub data Verdict (b : Book) (ls : List Line) (s : List ℕ) : Type 0 where
  turned-away : (code : ℕ) → Against b ls s code → Verdict b ls s
  resend : IsResend b ls s → Verdict b ls s
  taken : IsTaken b ls s → Verdict b ls s

-- ## What a taken event leaves

-- "Each of 1 to 15 returns entry 255 and until 0."; order 3: "30 255 0"; 43 and 44 are each "an added *taken* answer", which "returns 255
-- and 0"
abbrev pub refused : ℕ → Answer
refused code = record { code = code; entry = 255; until = 0 }

-- what orders of document 02 add: 43 (order 3) and 44 (order 8)
abbrev pub AddedCode : ℕ → Type 0
AddedCode code = (43 ≤ code) × (code ≤ 44)

-- 0, or a code that the table or an order calls taken
abbrev pub TakenCode : ℕ → Type 0
TakenCode code = (code ≡ 0) ⊎ ((10 ≤ code) × (code ≤ 15)) ⊎ AddedCode code

-- "each open use of any player with until ≤ t ends": a player's open use before and after
pub record Settles (t : ℕ) (old new : Open) : Type 0 where
  pub ends : old.on ≡ 1 → old.until ≤ t → new ≡ closed
  pub stays : (old.on ≡ 1 → t < old.until) → new ≡ old

-- the entries after settling at the event's time
abbrev pub settled_entries : Book → List ℕ → List Entry
settled_entries b s = settled (asked_time s) b.players b.entries

-- what is left if the answer is not 0: "*Taken* leaves entries' meters as settling made them."
pub record LeavesSettled (b : Book) (s : List ℕ) (o : Outcome) : Type 0 where
  pub answer : o.answer ≡ refused o.answer.code
  pub entries : o.book.entries ≡ settled_entries b s
  pub current : length b.players ≡ 16 → Settles (asked_time s) (asker b s).current (asker o.book s).current

-- what its player has open if the answer is 0: "Momentary: ... nothing opens."; "The new until ..."; "The use ends at t". Order 3: the
-- content, "the asset its begin asked for", "is kept with every open use".
pub record Opens (b : Book) (s : List ℕ) (o : Outcome) : Type 0 where
  pub begun : asked_operation s ≡ 1 → asked_kind s ≤ 3
      → (asker o.book s).current ≡ record {
        on = 1;
        entry = o.answer.entry;
        begin = asked_time s;
        until = o.answer.until;
        content = asked_asset s;
      }
  pub momentary : asked_operation s ≡ 1 → 4 ≤ asked_kind s → Settles (asked_time s) (asker b s).current (asker o.book s).current
  pub continued : asked_operation s ≡ 2
      → (asker o.book s).current ≡ record {
        on = 1;
        entry = o.answer.entry;
        begin = (asker b s).current.begin;
        until = o.answer.until;
        content = (asker b s).current.content;
      }
  pub stopped : asked_operation s ≡ 3 → (asker o.book s).current ≡ closed
  -- order 8: "the use closes"
  pub cancelled : asked_operation s ≡ 4 → (asker o.book s).current ≡ closed

-- order 8: "that event opened a use that started an interval": a begin that was granted, of a kind that opens a use, on an entry with an
-- interval that had not started before
pub record StartedInterval (b : Book) (s : List ℕ) (a : Answer) : Type 0 where
  pub begin : asked_operation s ≡ 1
  pub granted : a.code ≡ 0
  pub opening : asked_kind s ≤ 3
  pub interval : flagged interval_flag (limits_at b.entries a.entry) ≡ true
  pub new : (meters_at (settled_entries b s) a.entry).started ≡ 1 → ⊥

-- What a taken event leaves. In the program a book has 16 players by its type; here a list may have any length.
pub record Stored (b : Book) (s : List ℕ) (o : Outcome) : Type 0 where
  -- "its number, request (operation, asset, kind) and answer are stored"
  pub last : length b.players ≡ 16 → (asker o.book s).last ≡
      record { number = asked_number s; operation = asked_operation s; asset = asked_asset s; kind = asked_kind s; answer = o.answer }
  -- "the book's time becomes t"
  pub time : o.book.time ≡ asked_time s
  -- order 8: "The header keeps the player last taken, plus 1, .. and whether that event opened a use that started an interval" (1, else 0)
  pub player : o.book.latest.player ≡ asked_player s + 1
  pub started : o.book.latest.started ≡ 1 ↔ StartedInterval b s o.answer
  pub mark : o.book.latest.started ≤ 1
  -- "One player's record is settled on its own, the others untouched."
  pub lasts : (p : ℕ) → (p ≡ asked_player s → ⊥) → (player_at o.book.players p).last ≡ (player_at b.players p).last
  pub currents : (p : ℕ) → (p ≡ asked_player s → ⊥)
      → Settles (asked_time s) (player_at b.players p).current (player_at o.book.players p).current
  -- what no event changes; order 3: "one switch for metering (0 or 1) that no event changes"
  pub switch : o.book.switch ≡ b.switch
  pub assets : o.book.assets ≡ b.assets
  pub assetcount : o.book.assetcount ≡ b.assetcount
  pub entrycount : o.book.entrycount ≡ b.entrycount
  pub limits : (i : ℕ) → limits_at o.book.entries i ≡ limits_at b.entries i
  pub entry_slots : length o.book.entries ≡ length b.entries
  pub player_slots : length o.book.players ≡ length b.players
  -- the answer: 0, which changes no entry but the one it names, or one of 10 to 15, 43 or 44, which changes none
  pub code : TakenCode o.answer.code
  pub grants : o.answer.code ≡ 0 → (i : ℕ) → (i ≡ o.answer.entry → ⊥)
      → get_or o.book.entries i no_entry ≡ get_or (settled_entries b s) i no_entry
  pub opens : o.answer.code ≡ 0 → length b.players ≡ 16 → Opens b s o
  pub refuses : (o.answer.code ≡ 0 → ⊥) → LeavesSettled b s o

-- ## The demand

-- 0 to 6, 10 to 15, 30, 43 and 44
abbrev pub TableCode : ℕ → Type 0
TableCode code = (code ≤ 6) ⊎ ((10 ≤ code) × (code ≤ 15)) ⊎ (code ≡ 30) ⊎ AddedCode code

-- a record on a book
pub record Answered (b : Book) (ls : List Line) (s : List ℕ) : Type 0 where
  -- it is one of the three
  pub verdict : Verdict b ls s
  -- "nothing changed"
  pub turned-away : (code : ℕ) → Against b ls s code
      → (received b ls s ≡ record { answer = refused code; book = b }) × (left b ls s ≡ ls)
  -- and 1 to 6 and 30 are returned in no other case, except that a resend gets what is stored
  pub only : (code : ℕ) → ((1 ≤ code) × (code ≤ 6)) ⊎ (code ≡ 30) → (received b ls s).answer.code ≡ code → (IsResend b ls s → ⊥)
      → Against b ls s code
  -- "It gets the stored answer, t is not read, and nothing changes"
  pub again : IsResend b ls s → (received b ls s ≡ record { answer = (asker b s).last.answer; book = b }) × (left b ls s ≡ ls)
  -- a legal book stores none of 1 to 6 nor 30, so on it there is no exception
  pub stored-code : Legal b → IsResend b ls s → TakenCode (asker b s).last.answer.code
  pub taken : IsTaken b ls s → Stored b s (received b ls s)
  -- of the list, only times and seconds of the first lines change; how is stated by `Demand3`
  pub further : (k : ℕ) → assets_in b ≤ k → line_at (left b ls s) k ≡ line_at ls k
  pub contents : (k : ℕ) → (line_at (left b ls s) k).content ≡ (line_at ls k).content
  pub size : length (left b ls s) ≡ length ls
  pub off : b.switch ≡ 0 → left b ls s ≡ ls
  -- every answer's code is 0 or one of the table's
  pub code : (IsResend b ls s → Legal b) → TableCode (received b ls s).answer.code

-- 0, or a row of the table
abbrev pub ImageCode : ℕ → Type 0
ImageCode code = (code ≡ 0) ⊎ ((20 ≤ code) × (code ≤ 27))

-- the bytes are the image of a legal book, laid out by a version that can say it
pub record IsImage (s : List ℕ) : Type 0 where
  pub book : Book
  pub version : ℕ
  pub oldest : 1 ≤ version
  pub known : version ≤ newest
  pub legal : Legal book
  pub said : SaidBy version book
  pub bytes : image_as version book ≡ s

-- What an accepted image gives, and what a refused one and a short buffer leave, is stated by `Demand2`.
pub record Demand1 : Type 0 where
  pub records : (b : Book) (ls : List Line) (s : List ℕ) → Answered b ls s
  -- order 4: "now only the largest 64-bit number has none after it"
  pub followed : (n : ℕ) → n < 18446744073709551615 → Follows n (n + 1)
  pub none_after : (n : ℕ) → Follows 18446744073709551615 n → ⊥
  pub images : (s : List ℕ) → ImageCode (read_code s)
  -- 22 for any other version
  pub versions : (s : List ℕ) → read_code s ≡ 0 → (1 ≤ version_in s) × (version_in s ≤ newest)
  pub accepted : (s : List ℕ) → Bytes s → read_code s ≡ 0 ↔ IsImage s

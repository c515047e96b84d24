-- Computed examples for order 8 of document 02, "Film did not load": runs in which a begin is taken back and in which it cannot be, the
-- meters, lines and uses that they leave, and images with the event taken last. Quotations are that document's.
use mathlib.Core.Path.{◌≡◌, refl}
use Prim.Native.Nat.{ℕ}
use mathlib.Core.Bool.{true}
use mathlib.Core.List.{List, [], ◌∷◌, ◌++◌, map}
use lib.ListN.{take, drop, replicate}
use Rattle.book.specs.declared.Answer.{Answer}
use Rattle.book.specs.declared.Meters.{Meters}
use Rattle.book.specs.declared.Entry.{Entry}
use Rattle.book.specs.declared.Player.{Player}
use Rattle.book.specs.declared.Book.{Book}
use Rattle.book.specs.declared.Kind.TheVariants.{Play, Display, Print}
use Rattle.book.specs.declared.Request.TheVariants.{Begin, Continue, Stop, Cancel}
use Rattle.book.specs.Decoded.{Decoded, Invalid}
use Rattle.book.specs.Blank.{no_meters, no_player, no_latest, closed}
use Rattle.model.specs.Book.{meters_at, player_at}
use Rattle.model.specs.Step.{refusal}
use Rattle.model.specs.History.{answers, final, handed, handed_lines}
use Rattle.model.specs.Run.{zero_lines}
use Rattle.model.specs.Image.{image, image_as, read_code, book_in}
use Rattle.model.specs.Ledger.{empty, latest_taken, resent, called_taken, time_of, latest, revise, without, posted, note}
use Rattle.model.specs.Ledger.{note_arrival, is_open, sum_of, earliest, marks_by}
use Rattle.model.specs.Demand3.{advance, after, starting, figures, filled_from, predict_by, predict, predicted}
use Rattle.model.proofs.Examples.Afternoon.{asset, limits, entry, event, granted, run}
use Rattle.model.proofs.Examples.AnswerCodes.{player, running}
use Rattle.model.proofs.Examples.Cases.{book}
use Rattle.model.proofs.Examples.Report.{tracked, line}
use Rattle.model.proofs.Examples.Thresholds.{pack}
use Rattle.model.proofs.Examples.Computes.{events_run, legal_run, image_run}

-- a begin of asset 1 for play, and operation 4. In `book` asset 1 inherits from the parent 9.
abbrev plays : ℕ → ℕ → ℕ → Decoded
plays player number time = event player number (Begin Play 1) time

abbrev cancels : ℕ → ℕ → ℕ → Decoded
cancels player number time = event player number Cancel time

-- entries for an asset and a kind: a count of 9, an interval of 100
abbrev counted : ℕ → ℕ → Entry
counted asset kind = entry asset kind 1 9 0 0 0 0 0 0

abbrev spanned : ℕ → ℕ → Entry
spanned asset kind = entry asset kind 16 0 0 0 0 0 100 0

-- the book after these events
abbrev left : Book → List Decoded → Book
left b ds = final b (handed b (zero_lines b) ds)

-- ## What is given back

-- a count, a timed count with timer 10, an interval of 1,000 and 300 seconds
abbrev film : Book
film = book (entry 9 1 51 5 5 10 0 0 1000 300 ∷ []) 1

-- the first begin is taken back after 20 seconds; the second runs as long and is stopped; the third is taken back
abbrev day : List Decoded
day = plays 0 1 10 ∷ cancels 0 2 30 ∷ plays 0 3 40 ∷ event 0 4 Stop 60 ∷ plays 0 5 70 ∷ cancels 0 6 75 ∷ []

-- "The answer is 0, the entry and the use's begin."
pub day-answers : run film day ≡ granted 0 70 ∷ granted 0 10 ∷ granted 0 100 ∷ granted 0 60 ∷ granted 0 130 ∷ granted 0 70 ∷ []
unfolding events_run
day-answers = refl

abbrev used : ℕ → ℕ → ℕ → ℕ → ℕ → ℕ → Meters
used count timed first seconds started marks = record {
  count = count;
  timed = timed;
  first = first;
  seconds = seconds;
  started = started;
  marks = marks;
}

-- after each event: "that begin's rises in count, timed count and seconds are taken off", the timed count past the timer too, and the
-- interval is unstarted by the first cancel and not by the second, since the begin at 40 started it
pub day-meters :
    map (λ (k : ℕ). meters_at (left film (take k day)).entries 0) (1 ∷ 2 ∷ 3 ∷ 4 ∷ 5 ∷ 6 ∷ [])
    ≡ used 1 1 10 60 1 1
    ∷ no_meters
    ∷ used 1 1 40 60 1 1
    ∷ used 1 1 40 20 1 0
    ∷ used 2 2 40 80 1 1
    ∷ used 1 1 40 20 1 0
    ∷ []
unfolding events_run final
day-meters = refl

-- the request and the answer are stored, and the use is closed
pub stored-cancel :
    player_at (left film day).players 0
    ≡ player 6 4 0 0 (granted 0 70) closed
unfolding events_run final
stored-cancel = refl

-- "The ledger drops the use.": one use is left of three
pub day-uses :
    (after (starting film) (handed film (zero_lines film) day)).account.uses
    ≡ record { entry = 0; player = 0; begin = 40; until = 60; stopped = true; content = 1 } ∷ []
unfolding events_run latest_taken resent called_taken revise without posted note note_arrival advance after
day-uses = refl

-- the answers from the ledger alone are the same
pub by-ledger : predicted film empty (handed film (zero_lines film) day) ≡ run film day
unfolding events_run latest_taken resent called_taken time_of latest revise without posted note note_arrival is_open sum_of earliest marks_by
    figures filled_from predict_by predict predicted
by-ledger = refl

-- count 1: the begin taken back leaves the pack as it was, any other end does not
pub last-showing :
    map (run (book (entry 9 1 1 1 0 0 0 0 0 0 ∷ []) 1))
    ((plays 0 1 10 ∷ cancels 0 2 69 ∷ plays 1 1 69 ∷ [])
    ∷ (plays 0 1 10 ∷ event 0 2 Stop 10 ∷ plays 1 1 69 ∷ [])
    ∷ (plays 0 1 10 ∷ plays 1 1 70 ∷ [])
    ∷ [])
    ≡ (granted 0 70 ∷ granted 0 10 ∷ granted 0 129 ∷ [])
    ∷ (granted 0 70 ∷ granted 0 10 ∷ refusal 13 ∷ [])
    ∷ (granted 0 70 ∷ refusal 13 ∷ [])
    ∷ []
unfolding events_run
last-showing = refl

-- ## "the interval is unstarted if that begin started it"

abbrev spans : List Decoded → List Answer
spans ds = run (book (spanned 9 1 ∷ []) 1) ds

-- it did: the next begin starts it anew, past the first interval's end
pub unstarted :
    spans (plays 0 1 100 ∷ cancels 0 2 150 ∷ plays 0 3 250 ∷ event 0 4 Continue 300 ∷ [])
    ≡ granted 0 160 ∷ granted 0 100 ∷ granted 0 310 ∷ granted 0 350 ∷ []
unfolding events_run
unstarted = refl

-- Two begins in one second: only the first started it. The second player's cancel leaves it, so the first player's use goes on up to 200;
-- the first player's own cancel gets 44, and goes on likewise.
pub two-in-a-second :
    spans (plays 0 1 100 ∷ plays 1 1 100 ∷ cancels 1 2 110 ∷ event 0 2 Continue 150 ∷ [])
    ∷ spans (plays 0 1 100 ∷ plays 1 1 100 ∷ cancels 0 2 110 ∷ event 0 3 Continue 150 ∷ [])
    ∷ []
    ≡ (granted 0 160 ∷ granted 0 160 ∷ granted 0 100 ∷ granted 0 200 ∷ [])
    ∷ (granted 0 160 ∷ granted 0 160 ∷ refusal 44 ∷ granted 0 200 ∷ [])
    ∷ []
unfolding events_run
two-in-a-second = refl

-- an earlier begin did: it still ends at 200
pub started-before :
    spans (plays 0 1 100 ∷ event 0 2 Stop 110 ∷ plays 0 3 120 ∷ cancels 0 4 130 ∷ plays 0 5 199 ∷ plays 1 1 200 ∷ [])
    ≡ granted 0 160 ∷ granted 0 110 ∷ granted 0 180 ∷ granted 0 120 ∷ granted 0 200 ∷ refusal 13 ∷ []
unfolding events_run
started-before = refl

-- ## 44, and what does not lead to it

abbrev shelf : Book
shelf = book (counted 9 1 ∷ counted 9 2 ∷ []) 2

-- "if another event was taken since": another player's grant, another player's refusal, the own continue, the own begin that is refused,
-- a first cancel that got 44; each time the use stays open
pub since :
    map (run shelf)
    ((plays 0 1 10 ∷ event 1 1 (Begin Display 1) 11 ∷ cancels 0 2 12 ∷ event 0 3 Stop 13 ∷ [])
    ∷ (plays 0 1 10 ∷ event 1 1 Stop 11 ∷ cancels 0 2 12 ∷ event 0 3 Stop 13 ∷ [])
    ∷ (plays 0 1 10 ∷ event 0 2 Continue 11 ∷ cancels 0 3 12 ∷ event 0 4 Stop 13 ∷ [])
    ∷ (plays 0 1 10 ∷ plays 0 2 11 ∷ cancels 0 3 12 ∷ cancels 0 4 12 ∷ event 0 5 Stop 13 ∷ [])
    ∷ [])
    ≡ (granted 0 70 ∷ granted 1 71 ∷ refusal 44 ∷ granted 0 13 ∷ [])
    ∷ (granted 0 70 ∷ refusal 14 ∷ refusal 44 ∷ granted 0 13 ∷ [])
    ∷ (granted 0 70 ∷ granted 0 71 ∷ refusal 44 ∷ granted 0 13 ∷ [])
    ∷ (granted 0 70 ∷ refusal 11 ∷ refusal 44 ∷ refusal 44 ∷ granted 0 13 ∷ [])
    ∷ []
unfolding events_run
since = refl

-- what is not taken changes nothing: resends of the begin and of another player's stop, and each of 1 to 6
pub not-since :
    run shelf
    (event 5 1 Stop 9 ∷ plays 3 1 10
    ∷ plays 3 1 11 ∷ event 5 1 Stop 11 ∷ Invalid 1 ∷ Invalid 2 ∷ event 5 3 Stop 11 ∷ plays 5 1 11 ∷ event 5 2 Stop 9 ∷ Invalid 6
    ∷ cancels 3 2 12 ∷ [])
    ≡ (refusal 14 ∷ granted 0 70
    ∷ granted 0 70 ∷ refusal 14 ∷ refusal 1 ∷ refusal 2 ∷ refusal 3 ∷ refusal 4 ∷ refusal 5 ∷ refusal 6
    ∷ granted 0 10 ∷ [])
unfolding events_run
not-since = refl

-- nor does 30, for an event that would be taken
pub bad-list-between :
    answers shelf
    (record { event = plays 0 1 10; lines = zero_lines shelf }
    ∷ record { event = plays 1 1 11; lines = [] }
    ∷ record { event = cancels 0 2 12; lines = zero_lines shelf }
    ∷ [])
    ≡ granted 0 70 ∷ refusal 30 ∷ granted 0 10 ∷ []
unfolding events_run
bad-list-between = refl

-- ## "14 if nothing is open"

-- before any begin; twice; after a stop; the second the use ends, and one before it
pub nothing-open :
    map (run shelf)
    ((cancels 0 1 10 ∷ [])
    ∷ (plays 0 1 10 ∷ cancels 0 2 12 ∷ cancels 0 3 12 ∷ [])
    ∷ (plays 0 1 10 ∷ event 0 2 Stop 12 ∷ cancels 0 3 12 ∷ [])
    ∷ (plays 0 1 10 ∷ cancels 0 2 70 ∷ [])
    ∷ (plays 0 1 10 ∷ cancels 0 2 69 ∷ [])
    ∷ [])
    ≡ (refusal 14 ∷ [])
    ∷ (granted 0 70 ∷ granted 0 10 ∷ refusal 14 ∷ [])
    ∷ (granted 0 70 ∷ granted 0 12 ∷ refusal 14 ∷ [])
    ∷ (granted 0 70 ∷ refusal 14 ∷ [])
    ∷ (granted 0 70 ∷ granted 0 10 ∷ [])
    ∷ []
unfolding events_run
nothing-open = refl

-- a print opens nothing, so it is not taken back: its count and its interval stay
pub after-print :
    run (book (entry 9 4 17 2 0 0 0 0 100 0 ∷ []) 1)
    (event 0 1 (Begin Print 1) 10 ∷ cancels 0 2 10 ∷ event 0 3 (Begin Print 1) 109 ∷ event 0 4 (Begin Print 1) 109 ∷ [])
    ≡ granted 0 10 ∷ refusal 14 ∷ granted 0 109 ∷ refusal 13 ∷ []
unfolding events_run
after-print = refl

-- ## A cancel resent

-- a granted one and one that got 44 get their stored answers; the begin is not the last request any more
abbrev resending : List Decoded
resending =
    plays 0 1 10 ∷ cancels 0 2 12 ∷ cancels 0 2 13 ∷ plays 0 1 13
    ∷ plays 0 3 14 ∷ event 1 1 Stop 14 ∷ cancels 0 4 15 ∷ cancels 0 4 16 ∷ []

pub resent-cancel :
    run shelf resending
    ≡ granted 0 70 ∷ granted 0 10 ∷ granted 0 10 ∷ refusal 3 ∷ granted 0 74 ∷ refusal 14 ∷ refusal 44 ∷ refusal 44 ∷ []
unfolding events_run
resent-cancel = refl

-- and change nothing of what is stored
pub resent-leaves :
    map (λ (k : ℕ). player_at (left shelf (take k resending)).players 0) (2 ∷ 4 ∷ 7 ∷ 8 ∷ [])
    ≡ (replicate 2 (player 2 4 0 0 (granted 0 10) closed) ++ replicate 2 (player 4 4 0 0 (refusal 44) (running 14 74)))
unfolding events_run final
resent-leaves = refl

-- ## Beside orders 3 and 7

-- the mark is cleared, so a pack for one player at a time has room at once
pub room-again :
    run (book (pack 1 9 1 ∷ []) 1) (plays 0 1 10 ∷ plays 1 1 11 ∷ event 0 2 Stop 12 ∷ plays 0 3 12 ∷ cancels 0 4 13 ∷ plays 1 2 13 ∷ [])
    ≡ granted 0 70 ∷ refusal 13 ∷ granted 0 12 ∷ granted 0 72 ∷ granted 0 12 ∷ granted 0 73 ∷ []
unfolding events_run
room-again = refl

-- "the use closes unrecorded": the line of a tracked entry's content, after a begin, its cancel, and a use of 10 seconds
abbrev metered : Book
metered = record {
  time = 0;
  switch = 1;
  latest = no_latest;
  assetcount = 1;
  entrycount = 1;
  assets = asset 1 1 0 ∷ [];
  entries = tracked 1 1 9 0 0 ∷ [];
  players = replicate 16 no_player;
}

pub unrecorded :
    map (λ (k : ℕ). handed_lines metered (zero_lines metered)
    (take k (plays 0 1 10 ∷ cancels 0 2 30 ∷ plays 0 3 40 ∷ event 0 4 Stop 50 ∷ []))) (1 ∷ 2 ∷ 4 ∷ [])
    ≡ (line 1 0 0 ∷ []) ∷ (line 1 0 0 ∷ []) ∷ (line 1 1 10 ∷ []) ∷ []
unfolding events_run
unrecorded = refl

-- ## The header

-- play with an interval, display with a count, print with an interval
abbrev mixed : Book
mixed = book (spanned 9 1 ∷ counted 9 2 ∷ spanned 9 4 ∷ []) 3

-- the bytes after the book's time
abbrev header : List Decoded → List ℕ
header ds = take 12 (drop 11 (image (left mixed ds)))

-- switch, player plus 1, and whether an interval was started, 32 bits each
abbrev written : ℕ → ℕ → List ℕ
written player started = 0 ∷ 0 ∷ 0 ∷ 0 ∷ 0 ∷ 0 ∷ 0 ∷ player ∷ 0 ∷ 0 ∷ 0 ∷ started ∷ []

-- no event; a begin that starts an interval, then a resend and a refusal; a begin that finds it started; one without an interval; a print;
-- a cancel; a stop that is refused
pub headers :
    map header
    ([]
    ∷ (plays 3 1 10 ∷ [])
    ∷ (plays 3 1 10 ∷ plays 3 1 11 ∷ event 4 2 Stop 11 ∷ [])
    ∷ (plays 3 1 10 ∷ plays 2 1 10 ∷ [])
    ∷ (event 15 1 (Begin Display 1) 10 ∷ [])
    ∷ (event 3 1 (Begin Print 1) 10 ∷ [])
    ∷ (plays 3 1 10 ∷ cancels 3 2 11 ∷ [])
    ∷ (plays 3 1 10 ∷ event 0 1 Stop 11 ∷ [])
    ∷ [])
    ≡ written 0 0 ∷ written 4 1 ∷ written 4 1 ∷ written 3 0 ∷ written 16 0 ∷ written 4 0 ∷ written 4 0 ∷ written 1 0 ∷ []
unfolding events_run image_run final
headers = refl

-- ## 26 on reading

-- an entry with a count and an interval from this first second on, and one with a count alone; with these marks
abbrev lasting : ℕ → ℕ → Entry
lasting first marks = record { limits = limits 1 1 17 9 0 0 0 0 1000 0; meters = used 2 0 first 0 1 marks }

abbrev plain : ℕ → Entry
plain marks = record { limits = limits 1 1 1 9 0 0 0 0 0 0; meters = used 2 0 0 0 0 marks }

abbrev saved : ℕ → ℕ → Entry → List Player → Book
saved player started e players = record {
  time = 100;
  switch = 0;
  latest = record { player = player; started = started };
  assetcount = 1;
  entrycount = 1;
  assets = asset 1 1 0 ∷ [];
  entries = e ∷ [];
  players = players;
}

-- a player that has begun at 90, one whose use is closed, and one that has continued
abbrev begun : Player
begun = player 1 1 1 1 (granted 0 150) (running 90 150)

abbrev over : Player
over = player 1 1 1 1 (granted 0 150) closed

abbrev lengthened : Player
lengthened = player 1 2 0 0 (granted 0 150) (running 90 150)

-- what the reader says of the header's two numbers before this entry and these first players
abbrev read : ℕ → ℕ → Entry → List Player → ℕ
read player started e players = read_code (image (saved player started e players))

-- accepted: no player; that player with and without the mark, also the last one; the stored request is not asked to be a begin; without
-- the mark a closed use, no interval, another first, a second open use
pub header_read :
    read 0 0 (lasting 90 1) (begun ∷ [])
    ∷ read 1 1 (lasting 90 1) (begun ∷ [])
    ∷ read 1 0 (lasting 90 1) (begun ∷ [])
    ∷ read 16 1 (lasting 90 32768) (replicate 15 no_player ++ (begun ∷ []))
    ∷ read 1 1 (lasting 90 1) (lengthened ∷ [])
    ∷ read 1 0 (lasting 90 0) (over ∷ [])
    ∷ read 1 0 (plain 1) (begun ∷ [])
    ∷ read 1 0 (lasting 89 1) (begun ∷ [])
    ∷ read 1 0 (lasting 90 3) (begun ∷ begun ∷ [])
    ∷ []
    ≡ replicate 9 0
unfolding legal_run image_run
header_read = refl

-- refused: above 16; "that player's number is not 0"; a mark of 2; a mark and no player; "its use to be an interval entry's only open
-- one, begun at first": closed, no interval, another first, a second open use
pub header_refused :
    read 17 0 (lasting 90 1) (begun ∷ [])
    ∷ read 2 0 (lasting 90 1) (begun ∷ [])
    ∷ read 1 2 (lasting 90 1) (begun ∷ [])
    ∷ read 0 1 (lasting 90 1) (begun ∷ [])
    ∷ read 1 1 (lasting 90 0) (over ∷ [])
    ∷ read 1 1 (plain 1) (begun ∷ [])
    ∷ read 1 1 (lasting 89 1) (begun ∷ [])
    ∷ read 1 1 (lasting 90 3) (begun ∷ begun ∷ [])
    ∷ []
    ≡ replicate 8 26
unfolding legal_run image_run
header_refused = refl

-- a stored operation 4 "with asset and kind 0", and its 44; with an asset, with a kind; operation 5
pub stored-requests :
    map (λ (p : Player). read 1 0 (plain 0) (p ∷ []))
    (player 2 4 0 0 (granted 0 90) closed
    ∷ player 2 4 0 0 (refusal 44) closed
    ∷ player 2 4 1 0 (granted 0 90) closed
    ∷ player 2 4 0 1 (granted 0 90) closed
    ∷ player 2 5 0 0 (granted 0 90) closed
    ∷ [])
    ≡ 0 ∷ 0 ∷ 26 ∷ 26 ∷ 26 ∷ []
unfolding legal_run image_run
stored-requests = refl

-- what the day above leaves is read
pub day-read : map (λ (k : ℕ). read_code (image (left film (take k day)))) (1 ∷ 2 ∷ 3 ∷ 4 ∷ 5 ∷ 6 ∷ []) ≡ replicate 6 0
unfolding events_run legal_run image_run final
day-read = refl

-- ## How the begin is known

-- "known by the header's player and its stored request and answer (a begin, 0, the open use's entry and until)": all of these; no player in
-- the header; another one; a continue; a refused begin; another entry; another until
pub known_by :
    map (λ (b : Book). run b (cancels 0 2 101 ∷ []))
    (saved 1 1 (lasting 90 1) (begun ∷ [])
    ∷ saved 0 0 (lasting 90 1) (begun ∷ [])
    ∷ saved 2 0 (lasting 90 1) (begun ∷ over ∷ [])
    ∷ saved 1 1 (lasting 90 1) (lengthened ∷ [])
    ∷ saved 1 1 (lasting 90 1) (player 1 1 1 1 (refusal 13) (running 90 150) ∷ [])
    ∷ saved 1 1 (lasting 90 1) (player 1 1 1 1 (granted 1 150) (running 90 150) ∷ [])
    ∷ saved 1 1 (lasting 90 1) (player 1 1 1 1 (granted 0 149) (running 90 150) ∷ [])
    ∷ [])
    ≡ (granted 0 90 ∷ []) ∷ replicate 6 (refusal 44 ∷ [])
unfolding events_run
known_by = refl

-- the mark alone tells whether the interval is unstarted, though the begin is at first both times
pub mark-tells :
    map (λ (started : ℕ). meters_at (left (saved 1 started (lasting 90 1) (begun ∷ [])) (cancels 0 2 101 ∷ [])).entries 0) (1 ∷ 0 ∷ [])
    ≡ used 1 0 0 0 0 0 ∷ used 1 0 90 0 1 0 ∷ []
unfolding events_run final
mark-tells = refl

-- images of versions 1 to 4 have no event taken last
abbrev version : ℕ → Book
version v = book_in (image_as v (saved 1 1 (lasting 90 1) (begun ∷ [])))

pub older-versions :
    map (λ (v : ℕ). (version v).latest) (1 ∷ 2 ∷ 3 ∷ 4 ∷ 5 ∷ []) ≡ (replicate 4 no_latest ++ (record { player = 1; started = 1 } ∷ []))
unfolding image_as image_run
older-versions = refl

-- so there a cancel of the open use gets 44, and a begin after that is taken back as ever
pub after-older :
    map (λ (v : ℕ). run (version v) (cancels 0 2 101 ∷ event 0 3 Stop 102 ∷ plays 0 4 103 ∷ cancels 0 5 104 ∷ [])) (1 ∷ 2 ∷ 3 ∷ 4 ∷ [])
    ∷ (run (version 5) (cancels 0 2 101 ∷ event 0 3 Stop 102 ∷ plays 0 4 103 ∷ cancels 0 5 104 ∷ []) ∷ [])
    ∷ []
    ≡ replicate 4 (refusal 44 ∷ granted 0 102 ∷ granted 0 163 ∷ granted 0 103 ∷ [])
    ∷ ((granted 0 90 ∷ refusal 14 ∷ granted 0 163 ∷ granted 0 103 ∷ []) ∷ [])
    ∷ []
unfolding events_run image_as image_run
after-older = refl

-- "a begin, 0": the code alone tells too. A refusal with the use's entry and until is read from no image; the definitions speak of every
-- book value.
pub refused-begin :
    map (λ (code : ℕ). run (saved 1 1 (lasting 90 1)
    (player 1 1 1 1 (record { code = code; entry = 0; until = 150 }) (running 90 150) ∷ [])) (cancels 0 2 101 ∷ [])) (0 ∷ 11 ∷ 13 ∷ [])
    ≡ (granted 0 90 ∷ []) ∷ replicate 2 (refusal 44 ∷ [])
unfolding events_run
refused-begin = refl

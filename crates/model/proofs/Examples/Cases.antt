-- Small computed examples, each for a rule of document 01 that is easy to get wrong.
-- They also guard what the rules and the statement of demand 3 share. Quotations are that document's.
use mathlib.Core.Path.{◌≡◌, refl}
use Prim.Native.Nat.{ℕ}
use mathlib.Core.List.{List, [], ◌∷◌}
use lib.ListN.{take, replicate}
use Rattle.book.specs.declared.Book.{Book}
use Rattle.book.specs.declared.Entry.{Entry}
use Rattle.book.specs.declared.Event.{Event}
use Rattle.book.specs.declared.Last.{Last}
use Rattle.book.specs.declared.Kind.TheVariants.{Play, Display, Execute, Print, Export}
use Rattle.book.specs.declared.Request.{Request}
use Rattle.book.specs.declared.Request.TheVariants.{Begin, Continue, Stop, Cancel}
use Rattle.book.specs.Decoded.{Decoded, Invalid, Valid}
use Rattle.book.specs.Gate.{Gate, Refuse, Resend, Take}
use Rattle.book.specs.Blank.{no_answer, no_player, no_latest}
use Rattle.model.specs.Book.{request_legal}
use Rattle.model.specs.Record.{kind_of, request_of, event_in, decoded}
use Rattle.model.specs.Gate.{same_request, same_number, in_line, timely, gate}
use Rattle.model.specs.Step.{refusal}
use Rattle.model.specs.Demand1.{numbered}
use Rattle.model.proofs.Examples.Afternoon.{asset, entry, event, granted, run}
use Rattle.model.proofs.Examples.Computes.{events_run}

abbrev free : ℕ → ℕ → Entry
free asset kind = entry asset kind 0 0 0 0 0 0 0 0

abbrev counted : ℕ → ℕ → ℕ → Entry
counted asset kind count = entry asset kind 1 count 0 0 0 0 0 0

abbrev timed : ℕ → ℕ → ℕ → ℕ → Entry
timed asset kind count timer = entry asset kind 2 0 count timer 0 0 0 0

abbrev dated : ℕ → ℕ → ℕ → ℕ → Entry
dated asset kind start end = entry asset kind 12 0 0 0 start end 0 0

abbrev ending : ℕ → ℕ → ℕ → Entry
ending asset kind end = entry asset kind 8 0 0 0 0 end 0 0

abbrev spanned : ℕ → ℕ → ℕ → Entry
spanned asset kind interval = entry asset kind 16 0 0 0 0 0 interval 0

abbrev lasting : ℕ → ℕ → ℕ → Entry
lasting asset kind accumulated = entry asset kind 32 0 0 0 0 0 0 accumulated

-- assets 1 and 2 inherit from the parent 9; 3 from 7, which is illegal; 4 from 8, which has a key; 5 from 6, which is not in the book;
-- 7 and 8 themselves inherit from 9
abbrev pub book : List Entry → ℕ → Book
book entries count = record {
  time = 0;
  switch = 0;
  latest = no_latest;
  assetcount = 8;
  entrycount = count;
  assets = asset 1 1 9 ∷ asset 2 1 9 ∷ asset 3 1 7 ∷ asset 4 1 8 ∷ asset 5 1 6 ∷ asset 7 0 9 ∷ asset 8 1 9 ∷ asset 9 0 0 ∷ [];
  entries = entries;
  players = replicate 16 no_player;
}

-- "One level only; an inherit not in the book gives nothing.": every begin but the last finds no suitable entry
abbrev shelf : List Entry
shelf = counted 7 1 9 ∷ counted 8 2 9 ∷ counted 9 3 9 ∷ counted 6 4 9 ∷ counted 0 5 9 ∷ []

pub one-level :
    run (book shelf 5)
    (event 0 1 (Begin Play 3) 1
    ∷ event 0 2 (Begin Display 4) 2
    ∷ event 0 3 (Begin Execute 3) 3
    ∷ event 0 4 (Begin Execute 4) 4
    ∷ event 0 5 (Begin Print 5) 5
    ∷ event 0 6 (Begin Export 9) 6
    ∷ event 0 7 (Begin Execute 7) 7
    ∷ event 0 8 (Begin Export 1) 8
    ∷ event 0 9 (Begin Execute 1) 9
    ∷ [])
    ≡ (refusal 12
    ∷ refusal 12
    ∷ refusal 12
    ∷ refusal 12
    ∷ refusal 12
    ∷ refusal 10
    ∷ refusal 10
    ∷ refusal 12
    ∷ granted 2 69
    ∷ [])
unfolding events_run
one-level = refl

-- "first by: (i) no flags; ... (iv) own before inherited; (v) lower position", with order 6's "earlier last moment" after (i):
-- play by (i), display by its end, print of 2 starts an interval that print of 1 then finds, execute by (iv), export by (v)
abbrev ordered : List Entry
ordered =
    ending 1 1 50
    ∷ free 9 1
    ∷ counted 1 2 9
    ∷ ending 1 2 2000
    ∷ ending 9 2 1000
    ∷ spanned 1 4 100
    ∷ spanned 9 4 100
    ∷ spanned 9 3 100
    ∷ spanned 1 3 100
    ∷ counted 1 5 9
    ∷ counted 1 5 9
    ∷ []

pub in_order :
    run (book ordered 11)
    (event 0 1 (Begin Play 1) 10
    ∷ event 1 1 (Begin Display 1) 10
    ∷ event 2 1 (Begin Print 2) 10
    ∷ event 2 2 (Begin Print 1) 20
    ∷ event 3 1 (Begin Execute 1) 20
    ∷ event 4 1 (Begin Export 1) 20
    ∷ [])
    ≡ (granted 1 70 ∷ granted 4 70 ∷ granted 6 10 ∷ granted 6 20 ∷ granted 8 80 ∷ granted 9 20 ∷ [])
unfolding events_run
in_order = refl

-- "Momentary: until = t, nothing opens.": no 11 for the next begin, 14 for a stop; the count is used up. A timed count of a momentary
-- kind stays.
abbrev moments : List Entry
moments = counted 1 4 1 ∷ timed 1 5 1 0 ∷ counted 1 1 1 ∷ []

pub momentary-begins :
    run (book moments 3)
    (event 0 1 (Begin Print 1) 10
    ∷ event 0 2 Stop 10
    ∷ event 0 3 (Begin Export 1) 10
    ∷ event 0 4 (Begin Play 1) 10
    ∷ event 0 5 (Begin Play 1) 11
    ∷ event 1 1 (Begin Print 1) 10
    ∷ event 1 1 (Begin Print 1) 12
    ∷ event 1 2 (Begin Export 1) 12
    ∷ [])
    ≡ (granted 0 10 ∷ refusal 14 ∷ granted 1 10 ∷ granted 2 70 ∷ refusal 11 ∷ refusal 5 ∷ refusal 13 ∷ refusal 13 ∷ [])
unfolding events_run
momentary-begins = refl

-- "start ≤ t ≤ end": both included, so until is end + 1. "t < first + interval": excluded.
abbrev windows : List Entry
windows = dated 1 1 100 200 ∷ spanned 1 2 100 ∷ []

pub dates-and-interval :
    run (book windows 2)
    (event 0 1 (Begin Play 1) 99
    ∷ event 0 2 (Begin Play 1) 100
    ∷ event 1 1 (Begin Display 1) 101
    ∷ event 0 3 (Begin Play 1) 200
    ∷ event 2 1 (Begin Display 1) 200
    ∷ event 0 4 (Begin Play 1) 201
    ∷ event 2 2 (Begin Display 1) 201
    ∷ [])
    ≡ (refusal 13 ∷ granted 0 160 ∷ granted 1 161 ∷ granted 0 201 ∷ granted 1 201 ∷ refusal 13 ∷ refusal 13 ∷ [])
unfolding events_run
dates-and-interval = refl

-- "When a use ends, however it ends, with end − begin < timer, its timed count goes back. A count never does."; "until − t seconds go back"
abbrev given : List Entry
given = timed 1 1 1 30 ∷ counted 1 2 1 ∷ lasting 1 3 70 ∷ []

pub ends :
    run (book given 3)
    (event 0 1 (Begin Play 1) 10
    ∷ event 0 2 Stop 39
    ∷ event 0 3 (Begin Play 1) 40
    ∷ event 1 1 (Begin Play 1) 100
    ∷ event 2 1 (Begin Display 1) 100
    ∷ event 2 2 Stop 101
    ∷ event 2 3 (Begin Display 1) 102
    ∷ event 3 1 (Begin Execute 1) 110
    ∷ event 3 2 Continue 160
    ∷ event 3 3 Continue 170
    ∷ event 3 4 Stop 175
    ∷ event 3 5 (Begin Execute 1) 200
    ∷ event 3 6 (Begin Execute 1) 205
    ∷ [])
    ≡ (granted 0 70
    ∷ granted 0 39
    ∷ granted 0 100
    ∷ refusal 13
    ∷ granted 1 160
    ∷ granted 1 101
    ∷ refusal 13
    ∷ granted 2 170
    ∷ granted 2 180
    ∷ refusal 15
    ∷ granted 2 175
    ∷ granted 2 205
    ∷ refusal 13
    ∷ [])
unfolding events_run
ends = refl

-- "each open use of any player with until ≤ t ends at its until": a begin by one player finds the timed counts of the others given back
abbrev shared : List Entry
shared = timed 1 1 2 100 ∷ []

pub all_settled :
    run (book shared 1)
    (event 0 1 (Begin Play 1) 10
    ∷ event 1 1 (Begin Play 1) 20
    ∷ event 2 1 (Begin Play 1) 69
    ∷ event 2 2 (Begin Play 1) 70
    ∷ event 3 1 (Begin Play 1) 79
    ∷ event 3 2 (Begin Play 1) 80
    ∷ [])
    ≡ (granted 0 70 ∷ granted 0 80 ∷ refusal 13 ∷ granted 0 130 ∷ refusal 13 ∷ granted 0 140 ∷ [])
unfolding events_run
all_settled = refl

-- ## The gate

-- player 1's last event was its begin of asset 1, play, with that number
abbrev last : ℕ → Last
last number = record { number = number; operation = 1; asset = 1; kind = 1; answer = no_answer }

abbrev asks : ℕ → ℕ → Request → ℕ → Event
asks player number request time = record { player = player; number = number; request = request; time = time }

abbrev gates : List Gate
gates =
    gate 100 (last 5) (asks 16 5 (Begin Play 1) 100)
    ∷ gate 100 (last 5) (asks 1 5 (Begin Play 1) 0)
    ∷ gate 100 (last 5) (asks 1 5 (Begin Display 1) 100)
    ∷ gate 100 (last 5) (asks 1 5 (Begin Play 2) 100)
    ∷ gate 100 (last 5) (asks 1 5 Stop 100)
    ∷ gate 100 (last 5) (asks 1 7 Stop 99)
    ∷ gate 100 (last 18446744073709551615) (asks 1 18446744073709551616 Stop 100)
    ∷ gate 100 (last 0) (asks 1 0 (Begin Play 1) 100)
    ∷ gate 100 (last 5) (asks 1 6 Stop 99)
    ∷ gate 100 (last 5) (asks 1 6 Stop 4000000001)
    ∷ gate 100 (last 5) (asks 1 6 Stop 100)
    ∷ gate 100 (last 18446744073709551614) (asks 15 18446744073709551615 Stop 4000000000)
    ∷ []

-- "Order of checks: 2, 1, then the number. ... It gets the stored answer, t is not read"; order 4: "only the largest
-- 64-bit number has none after it"
pub gate-codes : gates ≡ (Refuse 2 ∷ Resend ∷ Refuse 4 ∷ Refuse 4 ∷ Refuse 4 ∷ Refuse 3 ∷ Refuse 3 ∷ Refuse 3 ∷ Refuse 5 ∷ Refuse 5 ∷
    Take ∷ Take ∷ [])
unfolding same_request same_number in_line timely gate
gate-codes = refl

-- ## Boot number and counter

-- what becomes of a number after the last one
abbrev after : ℕ → ℕ → Gate
after number next = gate 100 (last number) (asks 1 next Stop 100)

-- in line: the next counter; after the greatest counter, counter 0 of the next boot number; counter 1 of any greater boot number
pub boots-in-line :
    after (numbered 2 7) (numbered 2 8)
    ∷ after (numbered 2 7) (numbered 3 1)
    ∷ after (numbered 2 7) (numbered 4294967295 1)
    ∷ after (numbered 2 4294967295) (numbered 3 0)
    ∷ after (numbered 2 4294967295) (numbered 3 1)
    ∷ after 4294967295 4294967296
    ∷ after 0 1
    ∷ after 0 (numbered 5 1)
    ∷ []
    ≡ replicate 8 Take
unfolding same_request same_number in_line timely gate
boots-in-line = refl

-- out of line: a counter left out; counter 0 or 2 of a greater boot number; the same boot number again from 1; a smaller one; a first
-- number with counter 0 or 2; nothing comes after the largest number, nor round to 0 or 1
pub boots-out-of-line :
    after (numbered 2 7) (numbered 2 9)
    ∷ after (numbered 2 7) (numbered 3 0)
    ∷ after (numbered 2 7) (numbered 3 2)
    ∷ after (numbered 2 7) (numbered 2 1)
    ∷ after (numbered 2 7) (numbered 1 1)
    ∷ after (numbered 2 7) 8
    ∷ after (numbered 2 4294967295) (numbered 2 0)
    ∷ after 0 (numbered 5 0)
    ∷ after 0 (numbered 5 2)
    ∷ after 0 2
    ∷ after (numbered 4294967295 4294967295) (numbered 4294967296 0)
    ∷ after (numbered 4294967295 7) (numbered 4294967296 1)
    ∷ after (numbered 4294967295 4294967295) 0
    ∷ after (numbered 4294967295 4294967295) 1
    ∷ []
    ≡ replicate 14 (Refuse 3)
unfolding same_request same_number in_line timely gate
boots-out-of-line = refl

-- ## Records of bytes

-- player 1, boot number 1543, counter 258, an operation, asset 772, a kind, time 1029
abbrev bytes : ℕ → ℕ → ℕ → ℕ → ℕ → List ℕ
bytes player operation high low kind =
    player ∷ 0 ∷ 0 ∷ 6 ∷ 7 ∷ 0 ∷ 0 ∷ 1 ∷ 2 ∷ operation ∷ high ∷ low ∷ kind ∷ 0 ∷ 0 ∷ 4 ∷ 5 ∷ []

abbrev reads : List Decoded
reads =
    decoded (bytes 1 1 3 4 5)
    ∷ decoded (bytes 1 2 0 0 0)
    ∷ decoded (bytes 1 3 0 0 0)
    ∷ decoded (0 ∷ bytes 1 1 3 4 5)
    ∷ decoded (take 16 (bytes 1 1 3 4 5))
    ∷ decoded (take 13 (bytes 1 1 3 4 5))
    ∷ decoded []
    ∷ decoded (bytes 16 4 3 4 5)
    ∷ decoded (bytes 1 4 0 0 0)
    ∷ decoded (bytes 1 5 0 0 0)
    ∷ decoded (bytes 1 0 0 0 0)
    ∷ decoded (bytes 1 1 3 4 0)
    ∷ decoded (bytes 1 1 3 4 6)
    ∷ decoded (bytes 1 2 3 4 0)
    ∷ decoded (bytes 1 3 0 0 1)
    ∷ decoded (bytes 1 4 0 1 0)
    ∷ decoded (bytes 1 4 0 0 1)
    ∷ []

-- "6 | event record not 13 bytes", now 17: not 18, 16, 13 or 0; "Kind is 1 to 5 for begin; asset and kind are 0 otherwise.";
-- order 8: "Operation 4, with asset and kind 0"
pub records-read : reads ≡ (
    Valid (asks 1 (numbered 1543 258) (Begin Export 772) 1029)
    ∷ Valid (asks 1 (numbered 1543 258) Continue 1029)
    ∷ Valid (asks 1 (numbered 1543 258) Stop 1029)
    ∷ Invalid 6
    ∷ Invalid 6
    ∷ Invalid 6
    ∷ Invalid 6
    ∷ Invalid 2
    ∷ Valid (asks 1 (numbered 1543 258) Cancel 1029)
    ∷ Invalid 1
    ∷ Invalid 1
    ∷ Invalid 1
    ∷ Invalid 1
    ∷ Invalid 1
    ∷ Invalid 1
    ∷ Invalid 1
    ∷ Invalid 1
    ∷ [])
unfolding request_legal kind_of request_of event_in decoded
records-read = refl

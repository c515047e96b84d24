-- Computed examples for order 7 of document 02, "at most that many players, 1 to 16 (0 for none), have the entry open together": runs with
-- a full pack and with one that has room, the marks that they leave, and images with thresholds and marks.
use mathlib.Core.Path.{◌≡◌, refl}
use Prim.Native.Nat.{ℕ}
use mathlib.Core.List.{List, [], ◌∷◌, ◌++◌, map}
use lib.ListN.{take, replicate}
use Rattle.numbers.specs.Count.{listed}
use Rattle.book.specs.declared.Answer.{Answer}
use Rattle.book.specs.declared.Book.{Book}
use Rattle.book.specs.declared.Limits.{Limits}
use Rattle.book.specs.declared.Entry.{Entry}
use Rattle.book.specs.declared.Player.{Player}
use Rattle.book.specs.Decoded.{Decoded}
use Rattle.book.specs.declared.Kind.TheVariants.{Play, Print, Export}
use Rattle.book.specs.declared.Request.TheVariants.{Begin, Continue, Stop}
use Rattle.book.specs.Blank.{no_player, no_latest}
use Rattle.model.specs.Book.{meters_at}
use Rattle.model.specs.Step.{refusal}
use Rattle.model.specs.History.{final, handed}
use Rattle.model.specs.Run.{zero_lines}
use Rattle.model.specs.Image.{image, image_as, read_code, book_in}
use Rattle.model.proofs.Examples.Afternoon.{asset, limits, group, entry, event, granted, run}
use Rattle.model.proofs.Examples.AnswerCodes.{player, running}
use Rattle.model.proofs.Examples.Cases.{book}
use Rattle.model.proofs.Examples.Report.{tracked}
use Rattle.model.proofs.Examples.Computes.{events_run, legal_run, image_run}

-- an entry with a threshold; one with count 99, for an asset and a kind. In `book` assets 1 and 2 inherit from the parent 9.
abbrev shared : ℕ → Entry → Entry
shared threshold e = record { limits = group threshold e.limits; meters = e.meters }

abbrev pub pack : ℕ → ℕ → ℕ → Entry
pack threshold asset kind = shared threshold (entry asset kind 1 99 0 0 0 0 0 0)

-- a begin of asset 1 for play
abbrev plays : ℕ → ℕ → ℕ → Decoded
plays player number time = event player number (Begin Play 1) time

-- the answers of a book with one pack, which assets 1 and 2 inherit
abbrev alone : ℕ → List Decoded → List Answer
alone threshold ds = run (book (pack threshold 9 1 ∷ []) 1) ds

-- ## Full, and room again

-- threshold 1, with count left: 13 while another player plays, whatever is resent; a stop makes room, but a resend gets its stored 13
pub one-together :
    alone 1
    (plays 0 1 10 ∷ plays 1 1 11 ∷ plays 1 1 12 ∷ plays 0 1 13 ∷ plays 1 2 14 ∷ event 0 2 Stop 20 ∷ plays 1 2 21 ∷ plays 1 3 22 ∷ [])
    ≡ (granted 0 70 ∷ refusal 13 ∷ refusal 13 ∷ granted 0 70 ∷ refusal 13 ∷ granted 0 20 ∷ refusal 13 ∷ granted 0 82 ∷ [])
unfolding events_run
one-together = refl

-- a use that reaches its until makes room for any player, to the second; a player with a use open gets 11, not 13
pub to-the-second :
    alone 1 (plays 15 1 10 ∷ plays 0 1 69 ∷ plays 0 2 70 ∷ plays 0 3 129 ∷ plays 0 4 130 ∷ [])
    ≡ (granted 0 70 ∷ refusal 13 ∷ granted 0 130 ∷ refusal 11 ∷ granted 0 190 ∷ [])
unfolding events_run
to-the-second = refl

-- threshold 2: the third player gets 13 until another stops, and the next one until a use reaches its until
pub two-together :
    alone 2 (plays 3 1 10 ∷ plays 4 1 20 ∷ plays 5 1 30 ∷ event 3 2 Stop 31 ∷ plays 5 2 31 ∷ plays 3 3 79 ∷ plays 3 4 80 ∷ [])
    ≡ (granted 0 70 ∷ granted 0 80 ∷ refusal 13 ∷ granted 0 31 ∷ granted 0 91 ∷ refusal 13 ∷ granted 0 140 ∷ [])
unfolding events_run
two-together = refl

-- all sixteen players begin: granted with threshold 16 and with none, and one that stops may begin again; with 15 the last gets 13
abbrev everyone : List Decoded
everyone = listed (λ p. plays p 1 10) 16

pub sixteen :
    alone 16 (everyone ++ (event 7 2 Stop 11 ∷ plays 7 3 12 ∷ [])) ∷ alone 0 everyone ∷ alone 15 everyone ∷ []
    ≡ (replicate 16 (granted 0 70) ++ (granted 0 11 ∷ granted 0 72 ∷ []))
    ∷ replicate 16 (granted 0 70)
    ∷ (replicate 15 (granted 0 70) ++ (refusal 13 ∷ []))
    ∷ []
unfolding events_run
sixteen = refl

-- a continue asks no threshold, and the pack stays full up to the new until
pub continued :
    alone 1 (plays 0 1 10 ∷ event 0 2 Continue 50 ∷ plays 1 1 70 ∷ plays 1 2 109 ∷ plays 1 3 110 ∷ [])
    ≡ (granted 0 70 ∷ granted 0 110 ∷ refusal 13 ∷ refusal 13 ∷ granted 0 170 ∷ [])
unfolding events_run
continued = refl

-- a print and an export open nothing, so they never fill a threshold
pub momentary :
    run (book (pack 1 9 4 ∷ pack 1 9 5 ∷ []) 2)
    (event 0 1 (Begin Print 1) 10 ∷ event 1 1 (Begin Print 2) 10 ∷ event 0 2 (Begin Export 1) 10 ∷ event 1 2 (Begin Export 2) 10 ∷ [])
    ≡ (granted 0 10 ∷ granted 0 10 ∷ granted 1 10 ∷ granted 1 10 ∷ [])
unfolding events_run
momentary = refl

-- ## More than one entry or asset

-- of two packs in reach the own one goes first; when it is full, the inherited one; then none, until the own one has room
pub next-in-reach :
    run (book (pack 1 9 1 ∷ pack 1 1 1 ∷ []) 2) (plays 0 1 10 ∷ plays 1 1 11 ∷ plays 2 1 12 ∷ event 0 2 Stop 13 ∷ plays 2 2 14 ∷ [])
    ≡ (granted 1 70 ∷ granted 0 71 ∷ refusal 13 ∷ granted 1 13 ∷ granted 1 74 ∷ [])
unfolding events_run
next-in-reach = refl

-- a threshold is no flag: an entry with nothing else goes first, while it has room
pub no_flag :
    run (book (pack 0 1 1 ∷ shared 1 (entry 9 1 0 0 0 0 0 0 0 0) ∷ []) 2) (plays 0 1 10 ∷ plays 1 1 11 ∷ [])
    ≡ (granted 1 70 ∷ granted 0 71 ∷ [])
unfolding events_run
no_flag = refl

-- a pack counts its own open uses only: player 1 has the pack of asset 2 open, and its stop makes no room in the other
pub own-uses :
    run (book (pack 2 1 1 ∷ pack 1 2 1 ∷ []) 2)
    (event 1 1 (Begin Play 2) 9 ∷ plays 0 1 10 ∷ plays 2 1 11 ∷ event 1 2 Stop 12 ∷ plays 3 1 13 ∷ [])
    ≡ (granted 1 69 ∷ granted 0 70 ∷ granted 0 71 ∷ granted 1 12 ∷ refusal 13 ∷ [])
unfolding events_run
own-uses = refl

-- assets 1 and 2 share the threshold of the pack that both inherit
pub inherited :
    alone 2 (plays 0 1 10 ∷ event 1 1 (Begin Play 2) 11 ∷ plays 2 1 12 ∷ event 3 1 (Begin Play 2) 13 ∷ [])
    ≡ (granted 0 70 ∷ granted 0 71 ∷ refusal 13 ∷ refusal 13 ∷ [])
unfolding events_run
inherited = refl

-- ## Marks

-- the marks of the entries after these events
abbrev marks : Book → List Decoded → List ℕ
marks b ds = map (λ (e : Entry). e.meters.marks) (final b (handed b (zero_lines b) ds)).entries

-- players 0, 9 and 15 play, 3 is refused, 9 resends its begin and stops, 0 continues; 15's use is over when 2 prints; then 2 plays
abbrev day : List Decoded
day =
    plays 0 1 10 ∷ plays 9 1 11 ∷ plays 15 1 12 ∷ plays 3 1 13 ∷ plays 9 1 14 ∷ event 9 2 Stop 20 ∷ event 0 2 Continue 60
    ∷ event 2 1 (Begin Print 1) 72 ∷ plays 2 2 73 ∷ []

-- bit p for player p: a begin that opens sets it and the end clears it; a refusal, a resend and a continue leave the marks
pub day-marks :
    map (λ (k : ℕ). marks (book (pack 3 9 1 ∷ pack 3 9 4 ∷ []) 2) (take k day)) (1 ∷ 2 ∷ 3 ∷ 5 ∷ 6 ∷ 7 ∷ 8 ∷ 9 ∷ [])
    ≡ map (λ (m : ℕ). m ∷ 0 ∷ []) (1 ∷ 513 ∷ 33281 ∷ 33281 ∷ 32769 ∷ 32769 ∷ 1 ∷ 5 ∷ [])
unfolding events_run final
day-marks = refl

-- an entry without a threshold keeps marks too
pub all-marked : marks (book (pack 0 9 1 ∷ []) 1) everyone ≡ 65535 ∷ []
unfolding events_run final
all-marked = refl

-- ## Books with open uses, and their images

-- players 0, 9 and 15 have the entry open from 10 to 70, so the right marks are 33281
abbrev opened : Limits → ℕ → Book
opened l marks = record {
  time = 10;
  switch = 0;
  latest = no_latest;
  assetcount = 1;
  entrycount = 1;
  assets = asset 1 1 0 ∷ [];
  entries = record { limits = l; meters = record { count = 3; timed = 0; first = 0; seconds = 0; started = 0; marks = marks } } ∷ [];
  players =
      let playing : Player = player 1 1 1 1 (granted 0 70) (running 10 70) in
      playing ∷ (replicate 8 no_player ++ (playing ∷ (replicate 5 no_player ++ (playing ∷ []))));
}

-- tracked, and the switch off: 13 if full as well; 43 for the switch alone, with room or when the uses are over
pub full-and-switch :
    run (opened (group 3 (tracked 1 1 9 0 0).limits) 33281) (plays 1 1 69 ∷ plays 1 2 70 ∷ [])
    ∷ run (opened (group 4 (tracked 1 1 9 0 0).limits) 33281) (plays 1 1 69 ∷ [])
    ∷ []
    ≡ (refusal 13 ∷ refusal 43 ∷ []) ∷ (refusal 43 ∷ []) ∷ []
unfolding events_run
full-and-switch = refl

abbrev saved : ℕ → ℕ → Book
saved threshold marks = opened (group threshold (limits 1 1 1 9 0 0 0 0 0 0)) marks

-- versions 1 to 3 say nothing of the marks, which are set from the open uses; later ones are read as they stand
pub set-on-reading :
    map (λ (v : ℕ). (meters_at (book_in (image_as v (saved 2 7))).entries 0).marks) (1 ∷ 2 ∷ 3 ∷ 4 ∷ 5 ∷ [])
    ≡ 33281 ∷ 33281 ∷ 33281 ∷ 7 ∷ 7 ∷ []
unfolding image_as image_run
set-on-reading = refl

-- 0 with room, exactly full, without a threshold, and for version 3; 27 for one more open than the threshold, a mark too many, too few,
-- another player's, and bit 16; 25 for threshold 17
pub read-codes :
    map read_code
    (image (saved 16 33281) ∷ image (saved 3 33281) ∷ image (saved 0 33281) ∷ image_as 3 (saved 2 7)
    ∷ image (saved 2 33281) ∷ image (saved 4 33283) ∷ image (saved 4 33280) ∷ image (saved 4 33282) ∷ image (saved 4 98817)
    ∷ image (saved 17 33281) ∷ [])
    ≡ (replicate 4 0 ++ (replicate 5 27 ++ (25 ∷ [])))
unfolding image_as legal_run image_run
read-codes = refl

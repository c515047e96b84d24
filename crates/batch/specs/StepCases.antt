-- The cases of a record, each as one law: what the loop over the records has stored is what the step leaves.
use Rattle.std.specs.Prelude.{ℕ, suc, ◌+◌, ◌-◌, ◌%◌, ◌<◌, ◌≤◌, min, ◌≡◌, Bool, not, ◌&&◌, cond, length, set, take, leb, ltb, eqb}
use Rattle.std.specs.Prelude.{Result, Ok, Err, MatchResult, Option, Some, is_some}
use Rattle.std.proofs.Math.Path.{refl, sym, ap}
use Rattle.std.specs.Option.{unwrap_or}
use Rattle.std.proofs.Common.{length-take-le, length-take, ap₂, subst, ◌∙◌, arith, ltb-true, ltb-false}
use Rattle.std.proofs.Math.Bool.{true, false}
use mathlib.Core.List.{List, map}
use Rattle.std.proofs.lemmas.List.{set-get_or}
use Rattle.book.specs.declared.Answer.{Answer}
use Rattle.book.specs.declared.Asset.{Asset}
use Rattle.book.specs.declared.Limits.{Limits}
use Rattle.book.specs.declared.Meters.{Meters}
use Rattle.book.specs.declared.Entry.{Entry}
use Rattle.book.specs.declared.Last.{Last}
use Rattle.book.specs.declared.Latest.{Latest}
use Rattle.book.specs.declared.Open.{Open}
use Rattle.book.specs.declared.Player.{Player}
use Rattle.book.specs.declared.Book.{Book}
use Rattle.book.specs.declared.Ask.{Ask}
use Rattle.book.specs.declared.Recent.{Recent}
use Rattle.book.specs.declared.Event.{Event}
use Rattle.book.specs.declared.Request.{Request}
use Rattle.book.specs.declared.Request.TheVariants.{Begin, Continue, Stop, Cancel}
use Rattle.book.specs.Gate.{Gate, Refuse, Resend, Take}
use Rattle.book.specs.declared.Kind.{Kind}
use Rattle.book.specs.Decoded.{Decoded, Invalid, Valid}
use Rattle.book.specs.declared.Line.{Line}
use Rattle.book.specs.declared.Outcome.{Outcome}
use Rattle.book.specs.declared.Reported.{Reported}
use Rattle.book.specs.Blank.{no_player}
use Rattle.book.specs.Changed.{changed}
use Rattle.model.specs.Book.{limits_at, meters_at, player_at, latest_time, entries_in, request_legal}
use Rattle.model.specs.Choice.{asks, Catalog, catalog_of, usable, parent_of, suits, any_of, grantable, fails_for_switch}
use Rattle.model.specs.Step.{Done, unchanged, refusal, noted, step_by, step, arrive, done, do_begin, do_continue, do_stop, last_at}
use Rattle.model.specs.Step.{open_at, latest_by, do_cancel}
use Rattle.model.specs.Record.{record_widths, record_field, kind_number, event_in, decoded}
use Rattle.model.specs.Gate.{gate}
use Rattle.model.specs.Meters.{is_on, expired, shut, released, amend, ended}
use Rattle.model.specs.Report.{line_at, raised, overdue, recorded_all, ended_by, lines_by, lines_read}
use Rattle.model.proofs.Ledger.Concrete.{settled-limits}
use Rattle.numbers.proofs.Tests.{on_test, clash}
use Rattle.numbers.specs.Fields.{size}
use Rattle.rules.specs.declared.Wire.{Wire}
use Rattle.rules.specs.Rules.{wire_of}
use Rattle.model.proofs.Legal.Step.{gate-passed}
use Rattle.choice.specs.declared.Reach.{Reach}
use Rattle.choice.specs.Reach.{reach_in, table_of, reach-in-book, reach-used, table-of-list}
use Rattle.choice.specs.Best.{Best, best_after}
use Rattle.rules.specs.Codes.{begin_code}
use Rattle.choice.specs.Choice.{best-suits, best-switched}
use Rattle.choice.specs.declared.Row.{Row}
use Rattle.choice.specs.Row.{row_of}
use Rattle.index.specs.Rows.{row_of_entry, rows-set}
use Rattle.index.specs.Places.{places_of, parents_of, reach_at}
use Rattle.index.proofs.Places.{reach-usable, reach-parent}
use Rattle.uses.specs.declared.Effect.{Effect}
use Rattle.uses.specs.Uses.{kept, placed, stored, begun_on, begin_on, continue_on, stop_on, cancel_on, continue-placed, stop-placed}
use Rattle.uses.specs.Uses.{cancel-placed}
use Rattle.step.specs.Settle.{settled_book, settled_to, player-next, released-out}
use Rattle.metering.specs.Good.{good_lines}
use Rattle.metering.specs.Recording.{line_for, line_in, line-as, line-below, line-within, request_in, request-as, request-below, request-within, due-still, due-out, due-raised, due-kept, request_line, request_seconds, request_entry}
use Rattle.metering.specs.Recording.{request-onward, request-still}
use Rattle.step.specs.Lines.{lines_taken, lines_with, lines-own, reported_on}
use Rattle.step.specs.Step.{stored_book, taken_from, recent_on, taken_is, found_at, some-found, begin-refused, begin-granted}
use Rattle.book.specs.Codes.{event_code}
use Rattle.book.specs.declared.EventError.{EventError}

-- ## A record with its lines

-- a list that is not good counts as bytes that hold no event
abbrev pub admit : Bool → Decoded → Decoded
admit w d = cond w d (Invalid 30)

module _ (b : Book) (d : Decoded) (ls : List Line) (count : ℕ) (w : Bool) (h : w ≡ good_lines b.assets b.assetcount ls count) where
  abbrev as_admitted : Decoded → Reported
  as_admitted x = record { answer = (arrive b x).answer; book = (arrive b x).book; lines = lines_read b x ls }

  by-good : (v : Bool) → cond v (as_admitted d) (record { answer = refusal 30; book = b; lines = ls }) ≡ as_admitted (admit v d)
  unfolding arrive lines_read
  by-good true = refl
  by-good false = refl

  pub reported-as : (a : Answer) (n : Book) (ms : List Line) → arrive b (admit w d) ≡ record { answer = a; book = n }
      → lines_read b (admit w d) ls ≡ ms → reported_on b d ls count ≡ record { answer = a; book = n; lines = ms }
  unfolding reported_on
  reported-as a n ms p q =
      rw (← h) (by-good w)
      ∙ ap (λ (o : Outcome). record { answer = o.answer; book = o.book; lines = lines_read b (admit w d) ls }) p
      ∙ ap (λ (l : List Line). record { answer = a; book = n; lines = l }) q

admitted-valid : (w : Bool) (d : Decoded) (e : Event) → admit w d ≡ Valid e → d ≡ Valid e
admitted-valid true d e h = h
admitted-valid false d e h = absurd (let z : ◌≡◌ {A = ℕ} 0 1 = cc in omega arith)

-- ## Before the book is touched

pub case-invalid : (b : Book) (d : Decoded) (ls : List Line) (code : ℕ) → d ≡ Invalid code
    → (arrive b d ≡ record { answer = refusal code; book = b }) × (lines_read b d ls ≡ ls)
unfolding arrive lines_read
case-invalid b d ls code h = (ap (arrive b) h, ap (λ (x : Decoded). lines_read b x ls) h)

-- an event that a record holds is of one of the sixteen players
pub decoded-few : (s : List ℕ) (e : Event) → decoded s ≡ Valid e → e.player ≤ 15
unfolding decoded event_in
decoded-few s e h =
    on_test (eqb (length s) (size record_widths))
    (λ w. on_test (ltb 15 (record_field 0 s))
    (λ p. absurd (no-event 2 (rw (w, p) at h)))
    (λ p. on_test (request_legal (record_field 2 s) (record_field 3 s) (record_field 4 s))
    (λ q.
    let v : Valid (event_in s) ≡ Valid e = rw (w, p, q) at h in
    let same : event_in s ≡ e = cc in
    let few : record_field 0 s ≤ 15 = omega (arith, ltb-false 15 (record_field 0 s) p) in
    subst (λ (x : Event). x.player ≤ 15) same few)
    (λ q. absurd (no-event 1 (rw (w, p, q) at h)))))
    (λ w. absurd (no-event 6 (rw w at h)))
  where
    no-event : (code : ℕ) → Invalid code ≡ Valid e → ⊥
    no-event code x = let z : ◌≡◌ {A = ℕ} 0 1 = cc in omega arith

pub admitted-few : (w : Bool) (s : List ℕ) (e : Event) → admit w (decoded s) ≡ Valid e → e.player ≤ 15
admitted-few w s e h = decoded-few s e (admitted-valid w (decoded s) e h)

-- the event e is taken by the book b
pub record Admitted (b : Book) (d : Decoded) (e : Event) : Type 0 where
  pub valid : d ≡ Valid e
  pub takes : gate b.time (last_at b.players e.player) e ≡ Take
  pub few-players : e.player ≤ 15
  pub early : e.time ≤ latest_time

-- the loop reads the player's record at a remainder, which equals the player
module _ (b : Book) (d : Decoded) (ls : List Line) (e : Event) (v : d ≡ Valid e) (few : e.player ≤ 15) where
  abbrev asked : Last
  asked = last_at b.players (e.player % 16)

  is-player : e.player % 16 ≡ e.player
  is-player = omega (arith, few)

  by-gate : (g : Gate) → g ≡ gate b.time asked e → (arrive b d ≡ step_by g b e) × (lines_read b d ls ≡ lines_by g b e ls)
  unfolding arrive step lines_read
  by-gate g h =
      let same : gate b.time (last_at b.players e.player) e ≡ g = ap (λ (x : ℕ). gate b.time (last_at b.players x) e)
      (sym is-player) ∙ sym h in (
        ap (arrive b) v ∙ ap (λ (x : Gate). step_by x b e) same,
        ap (λ (x : Decoded). lines_read b x ls) v ∙ ap (λ (x : Gate). lines_by x b e ls) same,
      )

  pub case-refused : (g : Gate) (code : ℕ) → g ≡ gate b.time asked e → g ≡ Refuse code
      → (arrive b d ≡ record { answer = refusal code; book = b }) × (lines_read b d ls ≡ ls)
  unfolding step_by lines_by
  case-refused g code h r =
      let z = by-gate g h in
      (z.0 ∙ ap (λ (x : Gate). step_by x b e) r, z.1 ∙ ap (λ (x : Gate). lines_by x b e ls) r)

  pub case-resent : (g : Gate) → g ≡ gate b.time asked e → g ≡ Resend
      → (arrive b d ≡ record { answer = asked.answer; book = b }) × (lines_read b d ls ≡ ls)
  unfolding step_by lines_by
  case-resent g h r =
      let z = by-gate g h in (
        z.0
            ∙ ap (λ (x : Gate). step_by x b e) r
            ∙ ap (λ (x : ℕ). record { answer = (last_at b.players x).answer; book = b }) (sym is-player),
        z.1 ∙ ap (λ (x : Gate). lines_by x b e ls) r,
      )

  pub admitted : (g : Gate) → g ≡ gate b.time asked e → g ≡ Take → Admitted b d e
  admitted g h r =
      let takes : gate b.time (last_at b.players e.player) e ≡ Take = ap (λ (x : ℕ). gate b.time (last_at b.players x) e)
      (sym is-player) ∙ sym h ∙ r in
      record { valid = v; takes = takes; few-players = few; early = (gate-passed b e takes).early }

-- the lines of a taken event, answered with a
pub case-lines : (b : Book) (d : Decoded) (e : Event) (ls : List Line) (a : Answer) → Admitted b d e → (arrive b d).answer ≡ a
    → lines_read b d ls ≡ lines_taken a b e ls
unfolding arrive lines_with
case-lines b d e ls a c h =
    let same : (step b e).answer ≡ a = ap (λ (x : Decoded). (arrive b x).answer) (sym c.valid) ∙ h in
    ap (λ (x : Decoded). lines_read b x ls) c.valid
    ∙ sym (lines-own b e ls)
    ∙ ap (λ (g : Gate). lines_with (step b e).answer g b e ls) c.takes
    ∙ ap (λ (x : Answer). lines_taken x b e ls) same

-- ## A taken event

-- the book n with those entries, the player's record, the time and the event taken last stored
abbrev pub closing : Book → List Entry → ℕ → ℕ → Latest → Last → Open → Book
closing n es j t latest last current = changed n t latest es (set n.players j (record { last = last; current = current }))

-- what is stored of an event, with its answer put in
abbrev pub answered_by : Last → Answer → Last
answered_by l a = record { number = l.number; operation = l.operation; asset = l.asset; kind = l.kind; answer = a }

pub noted-answer : (e : Event) (a b : Answer) (l : Last) → l ≡ noted e a → answered_by l b ≡ noted e b
noted-answer e a b l h = ap (λ (x : Last). answered_by x b) h

abbrev pub done_on : Book → Event → Done
done_on n e = done e.request (catalog_of n) n.entries (open_at n.players e.player) (asks n e) (recent_on n e)

pub case-taken :
    (b : Book) (r : Decoded) (e : Event) (n : Book) (d : Done) (j : ℕ) (latest : Latest) (last : Last) →
    Admitted b r e →
    n ≡ settled_book e.time b →
    d ≡ done_on n e →
    j ≡ e.player →
    latest ≡ latest_by e d.started →
    last ≡ noted e d.answer →
    arrive b r ≡ record { answer = d.answer; book = closing n d.entries j e.time latest last d.current }
unfolding arrive step step_by stored_book
case-taken b r e n d j latest last c hn hd hj hx hl =
    ap (arrive b) c.valid
    ∙ ap (λ (x : Gate). step_by x b e) c.takes
    ∙ sym (taken_is b e)
    ∙ ap (λ (x : Book). taken_from x e (done_on x e)) (sym hn)
    ∙ ap (taken_from n e) (sym hd)
    ∙ ap (λ (x : Latest). closed-by e.player x (noted e d.answer)) (sym hx)
    ∙ ap₂ (λ (x : ℕ) (y : Last). closed-by x latest y) (sym hj) (sym hl)
  where
    closed-by : ℕ → Latest → Last → Outcome
    closed-by x y z = record { answer = d.answer; book = closing n d.entries x e.time y z d.current }

-- the operation of a request, on the entry at a position
abbrev pub act_on : Request → ℕ → Ask → Recent → Limits → Meters → Open → Effect
act_on (Begin kind asset) i ask r l m o = begin_on i asset ask l m o
act_on Continue i ask r l m o = continue_on ask.time l m o
act_on Stop i ask r l m o = stop_on ask.player ask.time l m o
act_on Cancel i ask r l m o = cancel_on ask.player r l m o

-- what a taken event is about to do: refused, or done at entry k
pub record Planned (n : Book) (e : Event) (o : Open) (found : Result ℕ EventError) : Type 0 where
  pub refuses : (x : EventError) → found ≡ Err x → unchanged (event_code x) n.entries o ≡ done_on n e
  pub acts :
      (k : ℕ) → found ≡ Ok k → (part : Effect) →
      part ≡ act_on e.request (k % 256) (asks n e) (recent_on n e) (limits_at n.entries k) (meters_at n.entries k) o →
      placed k part n.entries ≡ done_on n e
  -- the entry that a granted request names is the one at k
  pub names :
      (k : ℕ) → found ≡ Ok k → (part : Effect) →
      part ≡ act_on e.request (k % 256) (asks n e) (recent_on n e) (limits_at n.entries k) (meters_at n.entries k) o →
      eqb part.answer.code 0 ≡ true →
      request_entry e.request o part.answer ≡ k

module _ (n : Book) (e : Event) (o : Open) (ho : o ≡ open_at n.players e.player) where
  done-as : (q : Request) → e.request ≡ q → done q (catalog_of n) n.entries o (asks n e) (recent_on n e) ≡ done_on n e
  done-as q hq =
      ap (λ (x : Request). done x (catalog_of n) n.entries o (asks n e) (recent_on n e)) (sym hq)
      ∙ ap (λ (x : Open). done e.request (catalog_of n) n.entries x (asks n e) (recent_on n e)) ho

  module _ (found : Result ℕ EventError)
      (h : MatchResult found (λ k. (is_on o ≡ true) × (k ≡ o.entry)) (λ x. (is_on o ≡ false) × (x ≡ EventError.NotOpen))) where
    on-entry : (k : ℕ) → found ≡ Ok k → k ≡ o.entry
    on-entry k q =
        (subst (λ (r : Result ℕ EventError). MatchResult r (λ j. (is_on o ≡ true) × (j ≡ o.entry))
        (λ x. (is_on o ≡ false) × (x ≡ EventError.NotOpen))) q h).1

    not-open : (x : EventError) → found ≡ Err x → (is_on o ≡ false) × (x ≡ EventError.NotOpen)
    not-open x q =
        subst (λ (r : Result ℕ EventError). MatchResult r (λ j. (is_on o ≡ true) × (j ≡ o.entry))
        (λ y. (is_on o ≡ false) × (y ≡ EventError.NotOpen))) q h

    -- a continue, a stop or a cancel, with what it does to its entry
    further :
        (q : Request) (d : Done) →
        e.request ≡ q →
        d ≡ done_on n e →
        (is_on o ≡ false → unchanged 14 n.entries o ≡ d) →
        placed o.entry
        (act_on q (o.entry % 256) (asks n e) (recent_on n e) (limits_at n.entries o.entry) (meters_at n.entries o.entry) o)
        n.entries ≡ d →
        ((a : Answer) → request_entry q o a ≡ o.entry) →
        Planned n e o found
    further q d hq hd off-is on-is own = record {
      refuses = λ x is-err.
          let f = not-open x is-err in
          ap (λ (y : EventError). unchanged (event_code y) n.entries o) f.1 ∙ off-is f.0 ∙ hd;
      acts = λ k is-ok part hp.
          let hk = on-entry k is-ok in
          ap (λ (x : ℕ). placed x part n.entries) hk
          ∙ ap (λ (x : Effect). placed o.entry x n.entries) (hp ∙ rw (hk, hq) refl)
          ∙ on-is
          ∙ hd;
      names = λ k is-ok part hp granted.
          ap (λ (x : Request). request_entry x o part.answer) hq ∙ own part.answer ∙ sym (on-entry k is-ok);
    }

    pub planned-continue : e.time ≤ latest_time → e.request ≡ Continue → Planned n e o found
    unfolding done do_continue request_entry
    planned-continue ht hq =
        further Continue (do_continue n.entries o e.time) hq (done-as Continue hq) (λ off. rw off refl)
        (continue-placed e.time n.entries o ht) (λ a. refl)

    pub planned-stop : e.request ≡ Stop → Planned n e o found
    unfolding done do_stop request_entry
    planned-stop hq =
        further Stop (do_stop n.entries o (asks n e)) hq (done-as Stop hq) (λ off. rw off refl) (stop-placed (asks n e) n.entries o)
        (λ a. refl)

    pub planned-cancel : e.request ≡ Cancel → Planned n e o found
    unfolding done do_cancel request_entry
    planned-cancel hq =
        further Cancel (do_cancel n.entries o e.player (recent_on n e)) hq (done-as Cancel hq) (λ off. rw off refl)
        (cancel-placed e.player (recent_on n e) n.entries o) (λ a. refl)

-- ## A begin

-- how many entries are looked at
abbrev pub looked : Bool → Bool → ℕ → ℕ
looked on usable n = cond on 0 (cond usable n 0)

pub looked-most : (on usable : Bool) (n : ℕ) → looked on usable n ≤ n
looked-most true usable n = omega arith
looked-most false true n = omega arith
looked-most false false n = omega arith

-- a begin that is granted names its entry
begun-names : (sort : Kind) (asset i : ℕ) (ask : Ask) (l : Limits) (m : Meters) (o : Open) (part : Effect)
    → part ≡ begin_on i asset ask l m o
    → eqb part.answer.code 0 ≡ true → request_entry (Begin sort asset) o part.answer ≡ i
unfolding begin_on request_entry
begun-names sort asset i ask l m o part h g =
    on_test (grantable ask l m && leb ask.time latest_time)
    (λ w. let p : part ≡ begun_on i asset ask l m o = h ∙ rw w refl in ap (λ (x : Effect). x.answer.entry) p)
    (λ w. let p : part ≡ kept 13 m o = h ∙ rw w refl in clash g (ap (λ (x : Effect). eqb x.answer.code 0) p))

few-entries : (b : Book) → (catalog_of b).entry_count ≤ 64
unfolding catalog_of entries_in
few-entries b = omega arith

module _ (n : Book) (e : Event) (o : Open) (sort : Kind) (asset kind m : ℕ) (r : Reach) (best : Best)
    (ho : o ≡ open_at n.players e.player)
    (hq : e.request ≡ Begin sort asset)
    (hk : kind ≡ kind_number sort)
    (hu : r.usable ≡ usable (catalog_of n) asset)
    (hp : usable (catalog_of n) asset ≡ true → r.parent ≡ parent_of (catalog_of n) asset)
    (hm : m ≡ looked (is_on o) r.usable (min n.entrycount 64))
    (hb : best ≡ best_after n.entries asset r.parent kind (asks n e) m) where
  abbrev c : Catalog
  c = catalog_of n

  abbrev es : List Entry
  es = n.entries

  begin-on : do_begin c es o (asks n e) asset kind ≡ done_on n e
  unfolding done
  begin-on = ap (do_begin c es o (asks n e) asset) hk ∙ done-as n e o ho (Begin sort asset) hq

  module _ (off : is_on o ≡ false) (u : usable c asset ≡ true) where
    all-looked : m ≡ c.entry_count
    unfolding catalog_of entries_in
    all-looked = hm ∙ rw (off, hu ∙ u) refl

    whole : best ≡ best_after es asset (parent_of c asset) kind (asks n e) c.entry_count
    whole = hb ∙ ap (best_after es asset r.parent kind (asks n e)) all-looked ∙ ap
        (λ (p : ℕ). best_after es asset p kind (asks n e) c.entry_count) (hp u)

    suits-is : best.suits ≡ any_of (suits c es asset kind) c.entry_count
    suits-is = ap (λ (x : Best). x.suits) whole ∙ best-suits c es (asks n e) asset kind

    switched-is : best.switched ≡ any_of (fails_for_switch c es (asks n e) asset kind) c.entry_count
    switched-is = ap (λ (x : Best). x.switched) whole ∙ best-switched c es (asks n e) asset kind

    at-is : found_at best ≡ found_at (best_after es asset (parent_of c asset) kind (asks n e) c.entry_count)
    at-is = ap found_at whole

  pub planned-begin : e.time ≤ latest_time → (at : Option ℕ) → at ≡ found_at best → (found : Result ℕ EventError)
      → MatchResult found (λ k. (at ≡ Some k) × (begin_code (is_on o) r.usable best.suits true best.switched ≡ 0))
      (λ x. event_code x ≡ begin_code (is_on o) r.usable best.suits (is_some at) best.switched)
      → Planned n e o found
  planned-begin ht at hat found h =
      let at-found : is_on o ≡ false → usable c asset ≡ true
      → at ≡ found_at (best_after es asset (parent_of c asset) kind (asks n e) c.entry_count) = λ off u. hat ∙ at-is off u in
      let told : (r' : Result ℕ EventError) → found ≡ r'
      → MatchResult r' (λ k. (at ≡ Some k) × (begin_code (is_on o) r.usable best.suits true best.switched ≡ 0))
      (λ x. event_code x ≡ begin_code (is_on o) r.usable best.suits (is_some at) best.switched) = λ r' q.
      subst (λ (y : Result ℕ EventError). MatchResult y
      (λ k. (at ≡ Some k) × (begin_code (is_on o) r.usable best.suits true best.switched ≡ 0))
      (λ x. event_code x ≡ begin_code (is_on o) r.usable best.suits (is_some at) best.switched)) q h in record {
        refuses = λ x is-err. begin-refused c es o (asks n e) asset kind r.usable best.suits best.switched at hu suits-is
            at-found switched-is (few-entries n) x (told (Err x) is-err) ∙ begin-on;
        acts = λ k is-ok part part-is.
            let f = told (Ok k) is-ok in
            begin-granted c es o (asks n e) asset kind r.usable best.suits best.switched at hu suits-is at-found switched-is
            k f.0 f.1 ht part (part-is ∙ rw hq refl)
            ∙ begin-on;
        names = λ k is-ok part part-is granted.
            let below = some-found best k (sym hat ∙ (told (Ok k) is-ok).0) in
            let small : k % 256 ≡ k = omega (arith, below.0, below.1) in
            ap (λ (x : Request). request_entry x o part.answer) hq
            ∙ begun-names sort asset (k % 256) (asks n e) (limits_at es k) (meters_at es k) o part (part-is ∙ rw hq refl) granted
            ∙ small;
      }

-- ## Settling

module _ (t p : ℕ) (o : Open) (es : List Entry) where
  pub released-due :
      expired t o ≡ true →
      set es o.entry (record {
        limits = limits_at es o.entry;
        meters = ended p o.begin o.until o.until
            (limits_at es o.entry) (meters_at es o.entry);
      }) ≡ released t p o es
  unfolding released amend
  released-due d = rw d

  pub released-far : length es ≤ o.entry → es ≡ released t p o es
  released-far h = sym (released-out t p o es h)

  pub released-still : expired t o ≡ false → es ≡ released t p o es
  unfolding released
  released-still d = rw d

pub shut-not : (t i : ℕ) (ps : List Player) → expired t (open_at ps i) ≡ false → ps ≡ set ps i (shut t (player_at ps i))
unfolding shut
shut-not t i ps h = rw h (sym (set-get_or ps i no_player))

-- ## The tables beside the book

-- an entry and its row stored at the same position
pub rows_next :
    (es : List Entry) (rows : List Row) (k : ℕ) (y : Entry) (row : Row) →
    rows ≡ map row_of_entry es →
    row ≡ row_of y.limits y.meters →
    set rows k row ≡ map row_of_entry (set es k y)
rows_next es rows k y row h e = ap (λ (x : List Row). set x k row) h ∙ ap (set (map row_of_entry es) k) e ∙ sym (rows-set es k y)

module _ (n : Book) (ats : List Asset) (count asset : ℕ) (r : Reach)
    (ha : n.assets ≡ ats)
    (hc : n.assetcount ≡ count)
    (small : asset ≤ 65535)
    (room : min count 64 ≤ length ats)
    (hr : r ≡ reach_at (places_of (take (min count 64) ats) (length (take (min count 64) ats)))
    (parents_of (take (min count 64) ats) (length (take (min count 64) ats))) asset) where
  abbrev used : List Asset
  used = take (min count 64) ats

  -- the used slots as a list
  in-list : reach_in (table_of used (length used)) asset ≡ reach_in (table_of ats count) asset
  in-list =
      ap (λ (x : _). reach_in x asset) (table-of-list used (omega (arith, length-take-le (min count 64) ats room)))
      ∙ reach-used ats count asset room

  in-book : reach_in (table_of ats count) asset ≡ reach_in (table_of n.assets n.assetcount) asset
  in-book = ap (λ (x : List Asset). reach_in (table_of x count) asset) (sym ha) ∙ ap (λ (x : ℕ). reach_in (table_of n.assets x) asset)
      (sym hc)

  pub usable-is : r.usable ≡ usable (catalog_of n) asset
  unfolding reach_in
  usable-is = ap (λ (x : Reach). x.usable) hr ∙ reach-usable used (length used) asset small ∙ ap (λ (x : Reach). x.usable)
      (in-list ∙ in-book ∙ reach-in-book n asset)

  pub parent_is : usable (catalog_of n) asset ≡ true → r.parent ≡ parent_of (catalog_of n) asset
  unfolding reach_in
  parent_is u =
      ap (λ (x : Reach). x.parent) hr
      ∙ reach-parent used (length used) asset small (ap (λ (x : Reach). x.usable) (in-list ∙ in-book ∙ reach-in-book n asset) ∙ u)
      ∙ ap (λ (x : Reach). x.parent) (in-list ∙ in-book ∙ reach-in-book n asset)

-- ## The lines

-- the line that was found in the used slots
module _ (ats : List Asset) (size n count : ℕ) (room : length ats ≡ 64) (hn : n ≡ min size 64) (hc : count ≡ size) (switch : ℕ) (l : Limits) where
  holds-used : min size 64 ≤ length ats
  holds-used = omega arith

  pub slots-line : (content : ℕ) (r : Option ℕ) → r ≡ line_in switch l (take n ats) content
      → unwrap_or r 64 ≡ line_for switch l ats count content
  slots-line content r h =
      ap (λ (x : Option ℕ). unwrap_or x 64) (h ∙ ap (λ (j : ℕ). line_in switch l (take j ats) content) hn)
      ∙ line-as switch l ats size content holds-used ∙ ap (λ (j : ℕ). line_for switch l ats j content) (sym hc)

  pub slots-line-below : (content k : ℕ) → Some k ≡ line_in switch l (take n ats) content → k < 64
  slots-line-below content k h =
      line-below switch l ats size content holds-used k (sym (h ∙ ap (λ (j : ℕ). line_in switch l (take j ats) content) hn))

  pub slots-request : (q : Request) (a : Answer) (o : Open) (r : Option ℕ) → r ≡ request_in q a o switch l (take n ats)
      → unwrap_or r 64 ≡ request_line q a o switch l ats count
  slots-request q a o r h =
      ap (λ (x : Option ℕ). unwrap_or x 64) (h ∙ ap (λ (j : ℕ). request_in q a o switch l (take j ats)) hn)
      ∙ request-as a o switch l ats size holds-used q ∙ ap (λ (j : ℕ). request_line q a o switch l ats j) (sym hc)

  pub slots-request-below : (q : Request) (a : Answer) (o : Open) (k : ℕ) → Some k ≡ request_in q a o switch l (take n ats) → k < 64
  slots-request-below q a o k h =
      request-below a o switch l ats size holds-used q k (sym (h ∙ ap (λ (j : ℕ). request_in q a o switch l (take j ats)) hn))

pub few-line : (n size switch : ℕ) (l : Limits) (ats : List Asset) (content k : ℕ) → n ≡ min size 64
    → Some k ≡ line_in switch l (take n ats) content → k < 64
few-line n size switch l ats content k hn h =
    let w = line-within switch l (take n ats) content k (sym h) in omega (arith, length-take n ats)

pub few-request : (n size switch : ℕ) (l : Limits) (ats : List Asset) (q : Request) (a : Answer) (o : Open) (k : ℕ) → n ≡ min size 64
    → Some k ≡ request_in q a o switch l (take n ats) → k < 64
few-request n size switch l ats q a o k hn h =
    let w = request-within q a o switch l (take n ats) k (sym h) in omega (arith, length-take n ats)

-- settling player i: A are the lines so far, n is the book so far
module _ (b : Book) (ls : List Line) (t i : ℕ) (h : i < length b.players) (n : Book) (hn : n ≡ settled_to t i b) (A : List Line)
    (so_far : A ≡ recorded_all b ls (overdue t (take i b.players))) (ats : List Asset) (ha : ats ≡ b.assets) where
  abbrev held : Open
  held = open_at n.players i

  abbrev was : Open
  was = open_at b.players i

  abbrev onto : List Line
  onto = recorded_all b ls (overdue t (take (i + 1) b.players))

  same-use : held ≡ was
  unfolding settled_to
  same-use = ap (λ (m : Book). open_at m.players i) hn ∙ ap (λ (p : Player). p.current) (player-next t i b.players h)

  same-limits : limits_at n.entries held.entry ≡ limits_at b.entries was.entry
  unfolding settled_to
  same-limits =
      ap (λ (m : Book). limits_at m.entries held.entry) hn
      ∙ settled-limits t (take i b.players) b.entries held.entry
      ∙ ap (λ (o : Open). limits_at b.entries o.entry) same-use

  pub lines-still : expired t held ≡ false → A ≡ onto
  lines-still q = due-still b ls t i h A so_far (ap (expired t) (sym same-use) ∙ q)

  module _ (q : expired t held ≡ true) where
    due : expired t was ≡ true
    due = ap (expired t) (sym same-use) ∙ q

    pub lines-out : length b.entries ≤ held.entry → A ≡ onto
    lines-out out = due-out b ls t i h A so_far due (omega (arith, out, ap (λ (o : Open). o.entry) same-use))

    module _ (k : ℕ) (hk : k ≡ line_for n.switch (limits_at n.entries held.entry) ats n.assetcount held.content) where
      line-is : k ≡ line_for b.switch (limits_at n.entries held.entry) b.assets b.assetcount was.content
      unfolding settled_to
      line-is =
          let l = limits_at n.entries held.entry in
          hk
          ∙ ap (λ (o : Open). line_for n.switch l ats n.assetcount o.content) same-use
          ∙ ap (λ (m : Book). line_for m.switch l ats m.assetcount was.content) hn
          ∙ ap (λ (x : List Asset). line_for b.switch l x b.assetcount was.content) ha

      pub lines-raised : (s : ℕ) → s ≡ held.until - held.begin → k < 64
          → set A k (raised (limits_at n.entries held.entry) s (line_at A k)) ≡ onto
      lines-raised s hs small =
          due-raised b ls t i h A so_far due (limits_at n.entries held.entry) k same-limits line-is s
          (hs ∙ ap (λ (o : Open). o.until - o.begin) same-use) small

      pub lines-kept : 64 ≤ k → A ≡ onto
      lines-kept big = due-kept b ls t i h A so_far due (limits_at n.entries held.entry) k same-limits line-is big

-- what the request records on the settled book n, with the limits of its entry k
module _ (b n : Book) (t : ℕ) (hn : n ≡ settled_book t b) (A : List Line) (ats : List Asset) (ha : ats ≡ b.assets) (o : Open) (a : Answer)
    (q : Request) (k : ℕ) (hk : eqb a.code 0 ≡ true → request_entry q o a ≡ k) (w : ℕ)
    (hw : w ≡ request_line q a o n.switch (limits_at n.entries k) ats n.assetcount) where
  abbrev l : Limits
  l = limits_at n.entries k

  abbrev after : List Line
  after = recorded_all b A (ended_by q t o a)

  entry-limits : eqb a.code 0 ≡ true → l ≡ limits_at b.entries (request_entry q o a)
  unfolding settled_book
  entry-limits g =
      ap (λ (m : Book). limits_at m.entries k) hn
      ∙ settled-limits t b.players b.entries k
      ∙ ap (limits_at b.entries) (sym (hk g))

  request-is : w ≡ request_line q a o b.switch l b.assets b.assetcount
  unfolding settled_book
  request-is =
      hw
      ∙ ap (λ (m : Book). request_line q a o m.switch l ats m.assetcount) hn
      ∙ ap (λ (x : List Asset). request_line q a o b.switch l x b.assetcount) ha

  pub acted-raised : (s : ℕ) → s ≡ request_seconds q t o → w < 64 → set A w (raised l s (line_at A w)) ≡ after
  acted-raised s hs small = request-onward b A t o a q l w entry-limits request-is s hs small

  pub acted-kept : 64 ≤ w → A ≡ after
  acted-kept big = request-still b A t o a q l w entry-limits request-is big

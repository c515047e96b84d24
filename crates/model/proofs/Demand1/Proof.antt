-- Demand 1 holds, for every book, every list of lines and every record.
use mathlib.Core.Path.{◌≡◌, refl, sym, ap, ◌∙◌, subst}
use mathlib.Core.Logic.{◌↔◌, ◌⊎◌, inl, inr}
use Prim.Native.Nat.{ℕ, ◌+◌, ◌≤◌, ◌<◌}
use mathlib.Core.Bool.{Bool, true, false, not, ◌&&◌, ◌||◌, cond, or-false, and-false}
use mathlib.Core.List.{List, map}
use lib.ListN.{length, get_or, length-map}
use lib.Seq.{get_or-set_same, get_or-set_other}
use lib.Dec.{leb, ltb, eqb}
use native.Mathlib.Omega.{arith}
use borrow.Author.Tests.{eqb-true, ltb-true, ltb-false, leb-true, leb-false, not-true, not-false, eq-eqb, ne_eqb, lt-ltb, le-ltb, le-leb}
use Rattle.numbers.specs.Count.{one}
use Rattle.numbers.specs.Fields.{size}
use Rattle.book.specs.declared.Answer.{Answer}
use Rattle.book.specs.declared.Last.{Last}
use Rattle.book.specs.declared.Entry.{Entry}
use Rattle.book.specs.declared.Open.{Open}
use Rattle.book.specs.declared.Player.{Player}
use Rattle.book.specs.declared.Line.{Line}
use Rattle.book.specs.declared.Book.{Book}
use Rattle.book.specs.declared.Event.{Event}
use Rattle.book.specs.declared.Ask.{Ask}
use Rattle.book.specs.declared.Outcome.{Outcome}
use Rattle.book.specs.declared.Recent.{Recent}
use Rattle.book.specs.declared.Request.{Request}
use Rattle.book.specs.declared.Request.TheVariants.{Begin, Continue, Stop, Cancel}
use Rattle.book.specs.Decoded.{Decoded, Invalid, Valid}
use Rattle.book.specs.Gate.{Gate, Refuse, Resend, Take}
use Rattle.book.specs.Blank.{no_entry, no_player, no_book, closed}
use Rattle.model.specs.Book.{limits_at, meters_at, player_at, latest_time, momentary, between, assets_legal, entries_legal, request_legal}
use Rattle.model.specs.Book.{taken_code, answer_legal, switch_legal, players_legal, latest_passes, meters_legal, rule_broken, Legal}
use Rattle.model.specs.Book.{flagged, interval_flag}
use Rattle.model.specs.Image.{header_start, newest, image_length, Bytes, mark_in, version_in, asset_count_in, entry_count_in, time_in}
use Rattle.model.specs.Image.{header_broken, read_code, read_book, book_in}
use Rattle.model.specs.Record.{kind_number, operation_number, request_asset, request_kind, kind_of, request_of, event_in, decoded}
use Rattle.model.specs.Gate.{same_request, same_number, in_line, gate}
use Rattle.model.specs.Meters.{amend, is_started, is_on, expired, shut, settled}
use Rattle.model.specs.Choice.{Catalog, catalog_of, usable, parent_of, own, suitable, grantable, suits, allowed, goes_before, any_of}
use Rattle.model.specs.Choice.{choose, Choice, nobody, chosen, asks, fails_for_switch, none_grantable}
use Rattle.model.specs.Step.{Done, unchanged, starts_interval, granted, do_begin, more, do_continue, do_stop, do_cancel, done, last_at}
use Rattle.model.specs.Step.{open_at, recent_of, noted, taken_step, step_by, step, arrive}
use Rattle.model.specs.Report.{line_at, good, recorded_all, endings, lines_by, lines_read, admitted, receive, lines_left}
use Rattle.model.specs.Demand1.{asked_player, asked_number, asked_operation, asked_asset, asked_kind, asked_time, LegalRequest, begin}
use Rattle.model.specs.Demand1.{continue, stop, cancel, IsEvent, asker, SameNumber, SameRequest, InLine, InTime, Against, bad-list}
use Rattle.model.specs.Demand1.{cut, no-player, GoodList, received, left}
use Rattle.model.specs.Demand1.{no-request, unlike, out-of-line, out-of-time, IsResend, IsTaken, Verdict, turned-away, resend, taken}
use Rattle.model.specs.Demand1.{refused, TakenCode, Settles, settled_entries, LeavesSettled, Opens, StartedInterval, Stored}
use Rattle.model.specs.Demand1.{AddedCode, TableCode, Answered}
use Rattle.model.specs.Demand1.{ImageCode, IsImage, Demand1}
use Rattle.model.proofs.Ledger.Facts.{on_test, on_same, clash, and_left, and_right, and_both, one-le}
use Rattle.model.proofs.Ledger.Concrete.{Sure, choose-sound, shut_at, settled-limits}
use Rattle.model.proofs.Ledger.WellFormed.{Static, step-static}
use Rattle.model.proofs.Demand3.Checks.{gate-again, gate-4, gate-3, gate-5, gate-0, same_number_lem, other-number, follows-line}
use Rattle.model.proofs.Demand3.Checks.{next-follows, none_after, line-follows, line-is, follows-not, in-time, not-in-time}
use Rattle.model.proofs.Demand3.Lines.{good-list, list-good, bad-list as not_good, all-size, all-further, all-content, all-off}
use Rattle.model.proofs.Legal.Rules.{stages-from, used-from}
use Rattle.model.proofs.Image.Header.{header-passed, accepted-stages}
use Rattle.model.proofs.Image.RoundTrip.{demand2}

-- ## A legal request is its three numbers

legal-test : (operation asset kind : ℕ) → LegalRequest operation asset kind → request_legal operation asset kind ≡ true
unfolding request_legal
legal-test operation asset kind (begin o l h) = rw (o, le-leb 1 kind l, le-leb kind 5 h)
legal-test operation asset kind (continue o a k) = rw (o, a, k)
legal-test operation asset kind (stop o a k) = rw (o, a, k)
legal-test operation asset kind (cancel o a k) = rw (o, a, k)

other-request : (operation asset kind : ℕ) → (operation ≡ 1 → ⊥) → request_legal operation asset kind ≡ true → LegalRequest operation
    asset kind
unfolding request_legal
other-request operation asset kind n h =
    let w : (between 2 4 operation && eqb asset 0 && eqb kind 0) ≡ true = rw (ne_eqb operation 1 n) at h in
    let k : kind ≡ 0 = eqb-true kind 0 (and_right (between 2 4 operation && eqb asset 0) (eqb kind 0) w) in
    let v : (between 2 4 operation && eqb asset 0) ≡ true = and_left (between 2 4 operation && eqb asset 0) (eqb kind 0) w in
    let a : asset ≡ 0 = eqb-true asset 0 (and_right (between 2 4 operation) (eqb asset 0) v) in
    let u : between 2 4 operation ≡ true = and_left (between 2 4 operation) (eqb asset 0) v in
    let low : 2 ≤ operation = leb-true 2 operation (and_left (leb 2 operation) (leb operation 4) u) in
    let high : operation ≤ 4 = leb-true operation 4 (and_right (leb 2 operation) (leb operation 4) u) in
    on_same operation 2 (λ e. continue e a k) (λ x. on_same operation 3 (λ e. stop e a k) (λ y. cancel (omega arith) a k))

test-legal : (operation asset kind : ℕ) → request_legal operation asset kind ≡ true → LegalRequest operation asset kind
unfolding request_legal
test-legal operation asset kind h =
    on_same operation 1
    (λ e.
    let w : between 1 5 kind ≡ true = sym (or-false (between 1 5 kind)) ∙ (rw e at h) in
    begin e (leb-true 1 kind (and_left (leb 1 kind) (leb kind 5) w)) (leb-true kind 5 (and_right (leb 1 kind) (leb kind 5) w)))
    (λ n. other-request operation asset kind n h)

kind-number : (k : ℕ) → 1 ≤ k → k ≤ 5 → kind_number (kind_of k) ≡ k
unfolding kind_of
kind-number k low high =
    on_same k 1 (λ e. rw e) (λ n₁.
    on_same k 2 (λ e. rw e) (λ n₂.
    on_same k 3 (λ e. rw e) (λ n₃.
    on_same k 4 (λ e. rw e) (λ n₄. rw (ne_eqb k 1 n₁, ne_eqb k 2 n₂, ne_eqb k 3 n₃, ne_eqb k 4 n₄) (omega arith)))))

record Numbers (operation asset kind : ℕ) : Type 0 where
  same_operation : operation_number (request_of operation asset kind) ≡ operation
  same-asset : request_asset (request_of operation asset kind) ≡ asset
  same_kind : request_kind (request_of operation asset kind) ≡ kind

numbers : (operation asset kind : ℕ) → LegalRequest operation asset kind → Numbers operation asset kind
unfolding request_of
numbers operation asset kind (begin o l h) = rw o (record { same_operation = refl; same-asset = refl; same_kind = kind-number kind l h })
numbers operation asset kind (continue o a k) = rw o (record { same_operation = refl; same-asset = sym a; same_kind = sym k })
numbers operation asset kind (stop o a k) = rw o (record { same_operation = refl; same-asset = sym a; same_kind = sym k })
numbers operation asset kind (cancel o a k) = rw o (record { same_operation = refl; same-asset = sym a; same_kind = sym k })

-- ## What a taken event does, once all players are settled

-- a refusal that changes nothing, or a grant that changes no entry but its own
data Did (es : List Entry) (o : Open) (d : Done) : Type 0 where
  kept : (code : ℕ) → 0 < code → TakenCode code → d ≡ unchanged code es o → Did es o d
  gave : d.answer.code ≡ 0 → ((i : ℕ) → (i ≡ d.answer.entry → ⊥) → get_or d.entries i no_entry ≡ get_or es i no_entry) → Did es o d

-- one of 10 to 15
kept_at : {es : List Entry} {o : Open} (code : ℕ) → 10 ≤ code → code ≤ 15 → Did es o (unchanged code es o)
kept_at code low high = kept code (omega arith) (inr (inl (low, high))) refl

-- one of the added codes
kept-added : {es : List Entry} {o : Open} (code : ℕ) → AddedCode code → Did es o (unchanged code es o)
kept-added code c = kept code (omega (arith, c.0)) (inr (inr c)) refl

begin-did : (c : Catalog) (es : List Entry) (o : Open) (t : Ask) (asset kind : ℕ) → Did es o (do_begin c es o t asset kind)
unfolding do_begin amend none_grantable
begin-did c es o t asset kind =
    on_test (is_on o) (λ q. rw q (kept_at 11 (omega arith) (omega arith))) (λ q.
    on_test (not (usable c asset)) (λ r. rw (q, r) (kept_at 10 (omega arith) (omega arith))) (λ r.
    on_test (not (any_of (suits c es asset kind) c.entry_count)) (λ u. rw (q, r, u) (kept_at 12 (omega arith) (omega arith))) (λ u.
    rw (q, r, u) (go _ (choose c es t asset kind)))))
  where
    go : (o' : Open) (x : Choice) → Did es o' (granted (none_grantable c es t asset kind) t asset es o' x)
    go o' nobody =
        on_test (any_of (fails_for_switch c es t asset kind) c.entry_count)
        (λ q. rw q (kept-added 43 (omega arith, omega arith)))
        (λ q. rw q (kept_at 13 (omega arith) (omega arith)))
    go o' (chosen i) = gave refl (λ j n. get_or-set_other es i j _ no_entry n)

done-did : (q : Request) (c : Catalog) (es : List Entry) (o : Open) (t : Ask) (x : Recent) → Did es o (done q c es o t x)
unfolding done do_continue do_stop do_cancel amend
done-did (Begin kind asset) c es o t x = begin-did c es o t asset (kind_number kind)
done-did Continue c es o t x =
    on_test (not (is_on o)) (λ q. rw q (kept_at 14 (omega arith) (omega arith))) (λ q.
    on_test (leb (more es o t.time) o.until)
    (λ r. rw (q, r) (kept_at 15 (omega arith) (omega arith)))
    (λ r. rw (q, r) (gave refl (λ j n. get_or-set_other es o.entry j _ no_entry n))))
done-did Stop c es o t x =
    on_test (not (is_on o)) (λ q. rw q (kept_at 14 (omega arith) (omega arith))) (λ q.
    rw q (gave refl (λ j n. get_or-set_other es o.entry j _ no_entry n)))
done-did Cancel c es o t x =
    on_test (not (is_on o)) (λ q. rw q (kept_at 14 (omega arith) (omega arith))) (λ q.
    on_test (not x.begun)
    (λ r. rw (q, r) (kept-added 44 (omega arith, omega arith)))
    (λ r. rw (q, r) (gave refl (λ j n. get_or-set_other es o.entry j _ no_entry n))))

did-code : {es : List Entry} {o : Open} {d : Done} → Did es o d → TakenCode d.answer.code
did-code (kept code some c q) = subst TakenCode (sym (ap (λ (x : Done). x.answer.code) q)) c
did-code (gave z f) = inl z

did-grants : {es : List Entry} {o : Open} {d : Done} → Did es o d → d.answer.code ≡ 0
    → (i : ℕ) → (i ≡ d.answer.entry → ⊥) → get_or d.entries i no_entry ≡ get_or es i no_entry
did-grants (kept code some c q) z = absurd (omega (arith, z, some, ap (λ (x : Done). x.answer.code) q))
did-grants (gave z f) y = f

did-refuses : {es : List Entry} {o : Open} {d : Done} → Did es o d → (d.answer.code ≡ 0 → ⊥) → d ≡ unchanged d.answer.code es o
did-refuses {es} {o} {d} (kept code some c q) n = subst (λ (x : Done). x ≡ unchanged x.answer.code es o) (sym q) refl
did-refuses (gave z f) n = absurd (n z)

-- only a begin starts an interval
no_start : (q : Request) (c : Catalog) (es : List Entry) (o : Open) (t : Ask) (x : Recent) → (operation_number q ≡ 1 → ⊥)
    → (done q c es o t x).started ≡ false
unfolding done do_continue do_stop do_cancel
no_start (Begin kind asset) c es o t x n = absurd (n refl)
no_start Continue c es o t x n =
    on_test (not (is_on o)) (λ q. rw q) (λ q. on_test (leb (more es o t.time) o.until) (λ r. rw (q, r)) (λ r. rw (q, r)))
no_start Stop c es o t x n = on_test (not (is_on o)) (λ q. rw q) (λ q. rw q)
no_start Cancel c es o t x n =
    on_test (not (is_on o)) (λ q. rw q) (λ q. on_test (not x.begun) (λ r. rw (q, r)) (λ r. rw (q, r)))

-- ## What a grant opens

no_code : (n : ℕ) → 0 < n → n ≡ 0 → ⊥
no_code n h x = omega arith

kind-momentary : (k : ℕ) → 4 ≤ k → k ≤ 5 → momentary k ≡ true
unfolding momentary
kind-momentary k low high = and_both (le-leb 4 k low) (le-leb k 5 high)

kind-runs : (k : ℕ) → k ≤ 3 → momentary k ≡ false
unfolding momentary
kind-runs k h = on_test (leb 4 k) (λ q. absurd (omega (arith, leb-true 4 k q, h))) (λ q. rw q)

runs-kind : (k : ℕ) → k ≤ 5 → momentary k ≡ false → k ≤ 3
unfolding momentary
runs-kind k h q = on_test (leb 4 k) (λ r. clash (and_both r (le-leb k 5 h)) q) (λ r. omega (arith, leb-false 4 k r))

record Opened (es : List Entry) (o : Open) (t asset kind : ℕ) (d : Done) : Type 0 where
  runs : kind ≤ 3 → d.current ≡ record { on = 1; entry = d.answer.entry; begin = t; until = d.answer.until; content = asset }
  moment : 4 ≤ kind → kind ≤ 5 → d.current ≡ o
  starts : d.started ≡ (not (momentary kind) && flagged interval_flag (limits_at es d.answer.entry)
      && not (is_started (meters_at es d.answer.entry)))

begin-opens : (c : Catalog) (es : List Entry) (o : Open) (t : Ask) (asset kind : ℕ) → (do_begin c es o t asset kind).answer.code ≡ 0
    → Opened es o t.time asset kind (do_begin c es o t asset kind)
unfolding do_begin choose suitable none_grantable starts_interval
begin-opens c es o t asset kind z =
    on_test (is_on o) (λ q. absurd (no_code 11 (omega arith) (rw q at z))) (λ q.
    on_test (not (usable c asset)) (λ r. absurd (no_code 10 (omega arith) (rw (q, r) at z))) (λ r.
    on_test (not (any_of (suits c es asset kind) c.entry_count)) (λ u. absurd (no_code 12 (omega arith) (rw (q, r, u) at z))) (λ u.
    rw (q, r, u) (go _ (choose c es t asset kind) refl (rw (q, r, u) at z)))))
  where
    none : (w : ℕ) → (w ≡ 13) ⊎ (w ≡ 43) → w ≡ 0 → ⊥
    none w (inl z) y = omega arith
    none w (inr z) y = omega arith

    code : (none_grantable c es t asset kind ≡ 13) ⊎ (none_grantable c es t asset kind ≡ 43)
    code = on_test (any_of (fails_for_switch c es t asset kind) c.entry_count) (λ q. inr (rw q)) (λ q. inl (rw q))

    go : (o' : Open) (x : Choice) → choose c es t asset kind ≡ x
        → (granted (none_grantable c es t asset kind) t asset es o' x).answer.code ≡ 0
        → Opened es o' t.time asset kind (granted (none_grantable c es t asset kind) t asset es o' x)
    go o' nobody e y = absurd (none (none_grantable c es t asset kind) code y)
    go o' (chosen i) e y =
        let s : Sure (allowed c es t asset kind) c.entry_count i = choose-sound _ (goes_before es asset) c.entry_count i e in
        let a : suits c es asset kind i ≡ true = and_left (suits c es asset kind i) (grantable t (limits_at es i) (meters_at es i))
        s.passes in
        let k : (limits_at es i).kind ≡ kind = eqb-true _ kind (and_left (eqb (limits_at es i).kind kind)
        (own asset (limits_at es i) || (not (eqb (parent_of c asset) 0) && eqb (limits_at es i).asset (parent_of c asset))) a) in
        record {
          runs = λ h. rw (ap momentary k ∙ kind-runs kind h);
          moment = λ low high. rw (ap momentary k ∙ kind-momentary kind low high);
          starts = ap (λ (m : Bool). not m && flagged interval_flag (limits_at es i) && not (is_started (meters_at es i))) (ap momentary k);
        }

continue-opens : (es : List Entry) (o : Open) (t : ℕ) → (do_continue es o t).answer.code ≡ 0
    → (is_on o ≡ true) × ((do_continue es o t).current ≡ record {
      on = 1;
      entry = (do_continue es o t).answer.entry;
      begin = o.begin;
      until = (do_continue es o t).answer.until;
      content = o.content;
    })
unfolding do_continue
continue-opens es o t z =
    on_test (not (is_on o)) (λ q. absurd (no_code 14 (omega arith) (rw q at z))) (λ q.
    on_test (leb (more es o t) o.until) (λ r. absurd (no_code 15 (omega arith) (rw (q, r) at z))) (λ r.
    (not-false (is_on o) q, rw (q, r))))

stop-opens : (es : List Entry) (o : Open) (t : Ask) → (do_stop es o t).answer.code ≡ 0 → (do_stop es o t).current ≡ closed
unfolding do_stop
stop-opens es o t z =
    on_test (not (is_on o)) (λ q. absurd (no_code 14 (omega arith) (rw q at z))) (λ q. rw q)

cancel-opens : (es : List Entry) (o : Open) (p : ℕ) (x : Recent) → (do_cancel es o p x).answer.code ≡ 0 → (do_cancel es o p x).current ≡ closed
unfolding do_cancel
cancel-opens es o p x z =
    on_test (not (is_on o)) (λ q. absurd (no_code 14 (omega arith) (rw q at z))) (λ q.
    on_test (not x.begun) (λ r. absurd (no_code 44 (omega arith) (rw (q, r) at z))) (λ r. rw (q, r)))

-- ## A player settled, in words

shut-settles : (t : ℕ) (p : Player) → Settles t p.current (shut t p).current
unfolding shut expired
shut-settles t p = record {
  ends = λ on over. rw (eq-eqb p.current.on 1 on, le-leb p.current.until t over);
  stays = λ runs.
      on_same p.current.on 1
      (λ on. rw (le-leb-not p.current.until t (runs on), eq-eqb p.current.on 1 on))
      (λ off. rw (ne_eqb p.current.on 1 off));
}
  where
    le-leb-not : (u v : ℕ) → v < u → leb u v ≡ false
    le-leb-not u v h = on_test (leb u v) (λ q. absurd (omega (arith, leb-true u v q, h))) (λ q. q)

shut-on : (t : ℕ) (p : Player) → is_on (shut t p).current ≡ true → (shut t p).current ≡ p.current
unfolding shut
shut-on t p h = on_test (expired t p.current) (λ q. let w : false ≡ true = rw q at h in clash refl (sym w)) (λ q. rw q)

-- a code by its test
test-code : (c : ℕ) → taken_code c ≡ true → TakenCode c
unfolding taken_code
test-code c h =
    on_same c 0
    (λ z. inl z)
    (λ z.
    on_test (between 10 15 c)
    (λ w. inr (inl (leb-true 10 c (and_left (leb 10 c) (leb c 15) w), leb-true c 15 (and_right (leb 10 c) (leb c 15) w))))
    (λ w.
    let added : between 43 44 c ≡ true = rw (ne_eqb c 0 z, w) at h in
    inr (inr (leb-true 43 c (and_left (leb 43 c) (leb c 44) added), leb-true c 44 (and_right (leb 43 c) (leb c 44) added)))))

-- a mark of 1
one-true : (w : Bool) → one w ≡ 1 → w ≡ true
one-true true e = refl
one-true false e = absurd (omega arith)

-- a stage of the reader
stage : (t : Bool) (c x : ℕ) → 20 ≤ c → c ≤ 27 → ImageCode x → ImageCode (cond t c x)
stage true c x low high h = inr (low, high)
stage false c x low high h = h

-- ## A record

module _ (b : Book) (ls : List Line) (s : List ℕ) where
  abbrev e : Event
  e = event_in s

  abbrev l : Last
  l = (asker b s).last

  -- without the list's check: the answer is a, book and lines stay
  abbrev Untouched : Answer → Type 0
  Untouched a = (arrive b (decoded s) ≡ record { answer = a; book = b }) × (lines_read b (decoded s) ls ≡ ls)

  -- the answer to a list of numbers that is no event
  invalid : (code : ℕ) → decoded s ≡ Invalid code → Untouched (refused code)
  unfolding arrive lines_read
  invalid code q = (ap (arrive b) q, ap (λ (d : Decoded). lines_read b d ls) q)

  cut-away : (length s ≡ 17 → ⊥) → Untouched (refused 6)
  unfolding decoded
  cut-away n = invalid 6 (rw (ne_eqb (length s) 17 n))

  player-away : length s ≡ 17 → 15 < asked_player s → Untouched (refused 2)
  unfolding decoded
  player-away w p = invalid 2 (rw (eq-eqb (length s) 17 w, lt-ltb 15 (asked_player s) p))

  request-away : length s ≡ 17 → asked_player s ≤ 15 → (LegalRequest (asked_operation s) (asked_asset s) (asked_kind s) → ⊥)
      → Untouched (refused 1)
  unfolding decoded
  request-away w p n =
      let q : request_legal (asked_operation s) (asked_asset s) (asked_kind s) ≡ false =
      on_test (request_legal (asked_operation s) (asked_asset s) (asked_kind s))
      (λ r. absurd (n (test-legal (asked_operation s) (asked_asset s) (asked_kind s) r))) (λ r. r) in
      invalid 1 (rw (eq-eqb (length s) 17 w, le-ltb 15 (asked_player s) p, q))

  -- a list that is an event takes the step
  event-is : IsEvent s → decoded s ≡ Valid e
  unfolding decoded
  event-is v = rw (
    eq-eqb (length s) 17 v.whole,
    le-ltb 15 (asked_player s) v.player,
    legal-test (asked_operation s) (asked_asset s)
        (asked_kind s) v.request,
  )

  gated : IsEvent s → (g : Gate) → gate b.time l e ≡ g
      → (arrive b (decoded s) ≡ step_by g b e) × (lines_read b (decoded s) ls ≡ lines_by g b e ls)
  unfolding arrive lines_read step event_in
  gated v g q = (
    ap (arrive b) (event-is v) ∙ ap (λ (x : Gate). step_by x b e) q,
    ap (λ (d : Decoded). lines_read b d ls) (event-is v) ∙ ap (λ (x : Gate). lines_by x b e ls) q,
  )

  -- with a good list nothing else happens, with any other 30
  module _ (g : GoodList b ls) where
    goes : received b ls s ≡ arrive b (decoded s)
    unfolding receive admitted
    goes = rw (list-good b ls g)

    goes_lines : left b ls s ≡ lines_read b (decoded s) ls
    unfolding lines_left admitted
    goes_lines = rw (list-good b ls g)

    untouched : (a : Answer) → Untouched a → (received b ls s ≡ record { answer = a; book = b }) × (left b ls s ≡ ls)
    untouched a u = (goes ∙ u.0, goes_lines ∙ u.1)

  bad-away : (GoodList b ls → ⊥) → (received b ls s ≡ record { answer = refused 30; book = b }) × (left b ls s ≡ ls)
  unfolding receive lines_left admitted arrive lines_read
  bad-away n = let q = not_good b ls n in (rw q, rw q)

  -- ## The checks in words

  same_test : IsEvent s → same_request l e.request ≡ (eqb (asked_operation s) l.operation && eqb (asked_asset s) l.asset && eqb
      (asked_kind s) l.kind)
  unfolding same_request event_in
  same_test v =
      let n = numbers (asked_operation s) (asked_asset s) (asked_kind s) v.request in
      rw (n.same_operation, n.same-asset, n.same_kind)

  same-request : IsEvent s → SameRequest b s → same_request l e.request ≡ true
  same-request v r =
      same_test v ∙ and_both (and_both (eq-eqb (asked_operation s) l.operation r.operation)
      (eq-eqb (asked_asset s) l.asset r.asset)) (eq-eqb (asked_kind s) l.kind r.kind)

  request-same : IsEvent s → same_request l e.request ≡ true → SameRequest b s
  request-same v q =
      let w : (eqb (asked_operation s) l.operation && eqb (asked_asset s) l.asset && eqb (asked_kind s) l.kind) ≡ true = sym
      (same_test v) ∙ q in
      let u : (eqb (asked_operation s) l.operation && eqb (asked_asset s) l.asset) ≡ true = and_left
      (eqb (asked_operation s) l.operation && eqb (asked_asset s) l.asset) (eqb (asked_kind s) l.kind) w in
      record {
        operation = eqb-true _ _ (and_left (eqb (asked_operation s) l.operation) (eqb (asked_asset s) l.asset) u);
        asset = eqb-true _ _ (and_right (eqb (asked_operation s) l.operation) (eqb (asked_asset s) l.asset) u);
        kind = eqb-true _ _ (and_right (eqb (asked_operation s) l.operation && eqb (asked_asset s) l.asset)
            (eqb (asked_kind s) l.kind) w);
      }

  other-line : InLine b s → same_number l (asked_number s) ≡ false
  other-line i = other-number l (asked_number s) (λ p q. follows-not l (asked_number s) i q)

  unlike-away : IsEvent s → SameNumber b s → (SameRequest b s → ⊥) → Untouched (refused 4)
  unfolding step_by lines_by event_in
  unlike-away v n d =
      let r : same_request l e.request ≡ false = on_test (same_request l e.request) (λ q. absurd (d (request-same v q))) (λ q. q) in
      gated v (Refuse 4) (gate-4 b.time l e v.player (same_number_lem l (asked_number s) n.not_none n.number)
      (rw r (and-false (same_number l (asked_number s)))))

  line-away : IsEvent s → (SameNumber b s → ⊥) → (InLine b s → ⊥) → Untouched (refused 3)
  unfolding step_by lines_by event_in
  line-away v n d =
      gated v (Refuse 3)
      (gate-3 b.time l e v.player
      (other-number l (asked_number s) (λ p q. n (record { not_none = p; number = q })))
      (line-follows l (asked_number s) d))

  time-away : IsEvent s → InLine b s → (InTime b s → ⊥) → Untouched (refused 5)
  unfolding step_by lines_by event_in
  time-away v i d =
      gated v (Refuse 5)
      (gate-5 b.time l e v.player (other-line i) (follows-line l (asked_number s) i)
      (not-in-time b.time (asked_time s) (λ p q. d (record { not_back = p; not_late = q }))))

  away : (code : ℕ) → Against b ls s code → (received b ls s ≡ record { answer = refused code; book = b }) × (left b ls s ≡ ls)
  away code (bad-list c n) = rw c (bad-away n)
  away code (cut c g n) = rw c (untouched g (refused 6) (cut-away n))
  away code (no-player c g w p) = rw c (untouched g (refused 2) (player-away w p))
  away code (no-request c g w p n) = rw c (untouched g (refused 1) (request-away w p n))
  away code (unlike c g v n d) = rw c (untouched g (refused 4) (unlike-away v n d))
  away code (out-of-line c g v n d) = rw c (untouched g (refused 3) (line-away v n d))
  away code (out-of-time c g v i d) = rw c (untouched g (refused 5) (time-away v i d))

  resent : IsResend b ls s → (received b ls s ≡ record { answer = l.answer; book = b }) × (left b ls s ≡ ls)
  unfolding step_by lines_by event_in
  resent r =
      untouched r.list l.answer
      (gated r.event Resend
      (gate-again b.time l e r.event.player (and_both (same_number_lem l (asked_number s) r.number.not_none r.number.number)
      (same-request r.event r.request))))

  takes : IsTaken b ls s → gate b.time l e ≡ Take
  unfolding event_in
  takes t =
      gate-0 b.time l e t.event.player (other-line t.line) (follows-line l (asked_number s) t.line)
      (in-time b.time (asked_time s) t.time.not_back t.time.not_late)

  -- ## One of the three

  number-or : SameNumber b s ⊎ (SameNumber b s → ⊥)
  number-or =
      on_same l.number 0
      (λ z. inr (λ n. omega (arith, n.not_none, z)))
      (λ z. on_same (asked_number s) l.number (λ q. inl (record { not_none = omega arith; number = q })) (λ q. inr (λ n. q n.number)))

  line-or : InLine b s ⊎ (InLine b s → ⊥)
  line-or =
      on_test (in_line l (asked_number s))
      (λ z. inl (line-is l (asked_number s) z))
      (λ z. inr (λ i. clash (follows-line l (asked_number s) i) z))

  time-or : InTime b s ⊎ (InTime b s → ⊥)
  time-or =
      on_test (leb b.time (asked_time s))
      (λ z. on_test (leb (asked_time s) 4000000000)
      (λ y. inl (record { not_back = leb-true b.time (asked_time s) z; not_late = leb-true (asked_time s) 4000000000 y }))
      (λ y. inr (λ i. omega (arith, i.not_late, leb-false (asked_time s) 4000000000 y))))
      (λ z. inr (λ i. omega (arith, i.not_back, leb-false b.time (asked_time s) z)))

  event-verdict : GoodList b ls → IsEvent s → Verdict b ls s
  event-verdict g v = numbered number-or
    where
      timed : InLine b s → InTime b s ⊎ (InTime b s → ⊥) → Verdict b ls s
      timed i (inl t) = taken (record { list = g; event = v; line = i; time = t })
      timed i (inr n) = turned-away 5 (out-of-time refl g v i n)

      lined : (SameNumber b s → ⊥) → InLine b s ⊎ (InLine b s → ⊥) → Verdict b ls s
      lined n (inl i) = timed i time-or
      lined n (inr d) = turned-away 3 (out-of-line refl g v n d)

      numbered : SameNumber b s ⊎ (SameNumber b s → ⊥) → Verdict b ls s
      numbered (inl n) =
          on_test (same_request l e.request)
          (λ q. resend (record { list = g; event = v; number = n; request = request-same v q }))
          (λ q. turned-away 4 (unlike refl g v n (λ r. clash (same-request v r) q)))
      numbered (inr n) = lined n line-or

  verdict : Verdict b ls s
  verdict = on_test (good b ls) (λ q. judged (good-list b ls q)) (λ q. turned-away 30 (bad-list refl (λ g. clash (list-good b ls g) q)))
    where
      judged : GoodList b ls → Verdict b ls s
      judged g =
          on_same (length s) 17
          (λ w. on_test (ltb 15 (asked_player s))
          (λ p. turned-away 2 (no-player refl g w (ltb-true 15 (asked_player s) p)))
          (λ p. on_test (request_legal (asked_operation s) (asked_asset s) (asked_kind s))
          (λ r. event-verdict g (record {
            whole = w;
            player = ltb-false 15 (asked_player s) p;
            request = test-legal (asked_operation s) (asked_asset s) (asked_kind s) r;
          }))
          (λ r. turned-away 1 (no-request refl g w (ltb-false 15 (asked_player s) p)
          (λ y. clash (legal-test (asked_operation s) (asked_asset s) (asked_kind s) y) r)))))
          (λ n. turned-away 6 (cut refl g n))

  -- ## What is stored

  module _ (t : IsTaken b ls s) where
    abbrev ps : List Player
    ps = map (shut (asked_time s)) b.players

    abbrev es : List Entry
    es = settled_entries b s

    abbrev o : Open
    o = open_at ps (asked_player s)

    abbrev recent : Recent
    recent = recent_of b.latest (asked_player s) (last_at b.players (asked_player s)) o

    abbrev d : Done
    d = done e.request (catalog_of b) es o (asks b e) recent

    abbrev new : Outcome
    new = taken_step b e

    new_is : received b ls s ≡ new
    unfolding step_by
    new_is = goes t.list ∙ (gated t.event Take (takes t)).0

    static : Static b new.book
    unfolding step step_by event_in
    static = subst (λ (g : Gate). Static b (step_by g b e).book) (takes t) (step-static b e)

    own-record : length b.players ≡ 16 → asker new.book s ≡ record { last = noted e d.answer; current = d.current }
    unfolding taken_step event_in
    own-record n =
        get_or-set_same ps (asked_player s) (record { last = noted e d.answer; current = d.current }) no_player
        (omega (arith, length-map b.players (shut (asked_time s)), n, t.event.player))

    other-record : (p : ℕ) → (p ≡ asked_player s → ⊥) → player_at new.book.players p ≡ shut (asked_time s) (player_at b.players p)
    unfolding taken_step event_in
    other-record p n = get_or-set_other ps (asked_player s) p (record { last = noted e d.answer; current = d.current }) no_player n ∙
        shut_at (asked_time s) b.players p

    own-settles : Settles (asked_time s) (asker b s).current o
    own-settles = subst (λ (p : Player). Settles (asked_time s) (asker b s).current p.current)
        (sym (shut_at (asked_time s) b.players (asked_player s))) (shut-settles (asked_time s) (asker b s))

    last_stored : (a : Answer) → noted e a ≡ record {
      number = asked_number s;
      operation = asked_operation s;
      asset = asked_asset s;
      kind =
          asked_kind s;
      answer = a;
    }
    unfolding event_in
    last_stored a =
        let n = numbers (asked_operation s) (asked_asset s) (asked_kind s) t.event.request in
        λ i. record { number = asked_number s; operation = n.same_operation i; asset = n.same-asset i; kind = n.same_kind i; answer = a }

    did : Did es o d
    did = done-did e.request (catalog_of b) es o (asks b e) recent

    leaves : (d.answer.code ≡ 0 → ⊥) → LeavesSettled b s new
    unfolding taken_step event_in
    leaves n =
        let q = did-refuses did n in
        record {
          answer = ap (λ (x : Done). x.answer) q;
          entries = ap (λ (x : Done). x.entries) q;
          current = λ k.
              subst (Settles (asked_time s) (asker b s).current)
              (sym (ap (λ (x : Player). x.current) (own-record k) ∙ ap (λ (x : Done). x.current) q))
              own-settles;
        }

    -- the operation by its number
    done-as : (q : Request) → e.request ≡ q → d ≡ done q (catalog_of b) es o (asks b e) recent
    done-as q x = ap (λ (y : Request). done y (catalog_of b) es o (asks b e) recent) x

    begin-kind : asked_operation s ≡ 1 → (1 ≤ asked_kind s) × (asked_kind s ≤ 5)
    begin-kind h = go t.event.request
      where
        go : LegalRequest (asked_operation s) (asked_asset s) (asked_kind s) → (1 ≤ asked_kind s) × (asked_kind s ≤ 5)
        go (begin x low high) = (low, high)
        go (continue x a k) = absurd (omega (arith, h, x))
        go (stop x a k) = absurd (omega (arith, h, x))
        go (cancel x a k) = absurd (omega (arith, h, x))

    opened : asked_operation s ≡ 1 → d.answer.code ≡ 0 → Opened es o (asked_time s) (asked_asset s) (asked_kind s) d
    unfolding event_in request_of done
    opened h z =
        let k : kind_number (kind_of (asked_kind s)) ≡ asked_kind s = kind-number (asked_kind s) (begin-kind h).0 (begin-kind h).1 in
        let q : d ≡ do_begin (catalog_of b) es o (asks b e) (asked_asset s) (asked_kind s) = done-as
        (Begin (kind_of (asked_kind s)) (asked_asset s)) (rw h) ∙ rw k in
        subst (Opened es o (asked_time s) (asked_asset s) (asked_kind s)) (sym q)
        (begin-opens (catalog_of b) es o (asks b e) (asked_asset s) (asked_kind s) (sym (ap (λ (x : Done). x.answer.code) q) ∙ z))

    lengthened : asked_operation s ≡ 2 → d.answer.code ≡ 0
        → d.current ≡ record {
          on = 1;
          entry = d.answer.entry;
          begin = (asker b s).current.begin;
          until = d.answer.until;
          content = (asker b s).current.content;
        }
    unfolding event_in request_of done
    lengthened h z =
        let q : d ≡ do_continue es o (asked_time s) = done-as Continue (rw h) in
        let y = continue-opens es o (asked_time s) (sym (ap (λ (x : Done). x.answer.code) q) ∙ z) in
        let was : o ≡ (asker b s).current =
        ap (λ (x : Player). x.current) (shut_at (asked_time s) b.players (asked_player s)) ∙
        shut-on (asked_time s) (asker b s) (ap (λ (x : Player). is_on x.current)
        (sym (shut_at (asked_time s) b.players (asked_player s))) ∙ y.0) in
        subst (λ (x : Done). x.current ≡ record {
          on = 1;
          entry = x.answer.entry;
          begin = (asker b s).current.begin;
          until = x.answer.until;
          content = (asker b s).current.content;
        }) (sym q)
        (y.1 ∙ ap (λ (w : Open). record {
          on = 1;
          entry = (do_continue es o (asked_time s)).answer.entry;
          begin = w.begin;
          until = (do_continue es o (asked_time s)).answer.until;
          content = w.content;
        }) was)

    halted : asked_operation s ≡ 3 → d.answer.code ≡ 0 → d.current ≡ closed
    unfolding event_in request_of done
    halted h z =
        let q : d ≡ do_stop es o (asks b e) = done-as Stop (rw h) in
        ap (λ (x : Done). x.current) q ∙ stop-opens es o (asks b e) (sym (ap (λ (x : Done). x.answer.code) q) ∙ z)

    given_back : asked_operation s ≡ 4 → d.answer.code ≡ 0 → d.current ≡ closed
    unfolding event_in request_of done
    given_back h z =
        let q : d ≡ do_cancel es o (asked_player s) recent = done-as Cancel (rw h) in
        ap (λ (x : Done). x.current) q
        ∙ cancel-opens es o (asked_player s) recent (sym (ap (λ (x : Done). x.answer.code) q) ∙ z)

    opens : d.answer.code ≡ 0 → length b.players ≡ 16 → Opens b s new
    unfolding taken_step event_in
    opens z k =
        let own-current : (asker new.book s).current ≡ d.current = ap (λ (x : Player). x.current) (own-record k) in
        record {
          begun = λ h low. own-current ∙ (opened h z).runs low;
          momentary = λ h high. subst (Settles (asked_time s) (asker b s).current)
              (sym (own-current ∙ (opened h z).moment high (begin-kind h).1)) own-settles;
          continued = λ h. own-current ∙ lengthened h z;
          stopped = λ h. own-current ∙ halted h z;
          cancelled = λ h. own-current ∙ given_back h z;
        }

    -- ## Whether an interval is started

    -- the limits of an entry, before and after settling
    limits-kept : (i : ℕ) → limits_at es i ≡ limits_at b.entries i
    limits-kept i = settled-limits (asked_time s) b.players b.entries i

    starts-begin : d.started ≡ true → asked_operation s ≡ 1
    unfolding event_in
    starts-begin w =
        let n = numbers (asked_operation s) (asked_asset s) (asked_kind s) t.event.request in
        on_same (asked_operation s) 1 (λ h. h)
        (λ h. clash w (no_start e.request (catalog_of b) es o (asks b e) recent (λ z. h (sym n.same_operation ∙ z))))

    starts-granted : d.started ≡ true → d.answer.code ≡ 0
    starts-granted w =
        on_same d.answer.code 0 (λ z. z) (λ z. clash w (ap (λ (x : Done). x.started) (did-refuses did z)))

    starts_from_lem : d.started ≡ true → StartedInterval b s d.answer
    starts_from_lem w =
        let h = starts-begin w in
        let z = starts-granted w in
        let row = sym (opened h z).starts ∙ w in
        let two = and_left (not (momentary (asked_kind s)) && flagged interval_flag (limits_at es d.answer.entry)) _ row in
        record {
          begin = h;
          granted = z;
          opening = runs-kind (asked_kind s) (begin-kind h).1 (not-true _ (and_left (not (momentary (asked_kind s))) _ two));
          interval = ap (flagged interval_flag) (sym (limits-kept d.answer.entry)) ∙ and_right (not (momentary (asked_kind s))) _ two;
          new = λ x. clash (eq-eqb _ 1 x)
              (not-true _ (and_right (not (momentary (asked_kind s)) && flagged interval_flag (limits_at es d.answer.entry)) _ row));
        }

    starts-to : StartedInterval b s d.answer → d.started ≡ true
    starts-to i =
        (opened i.begin i.granted).starts
        ∙ and_both (and_both
        (ap not (kind-runs (asked_kind s) i.opening))
        (ap (flagged interval_flag) (limits-kept d.answer.entry) ∙ i.interval))
        (ap not (ne_eqb _ 1 i.new))

    stores : Stored b s new
    unfolding taken_step event_in shut
    stores = record {
      last = λ n. ap (λ (x : Player). x.last) (own-record n) ∙ last_stored d.answer;
      time = refl;
      player = refl;
      started = (λ x. starts_from_lem (one-true d.started x), λ i. ap one (starts-to i));
      mark = one-le d.started;
      lasts = λ p n. ap (λ (x : Player). x.last) (other-record p n);
      currents = λ p n.
          subst (λ (x : Player). Settles (asked_time s) (player_at b.players p).current x.current) (sym (other-record p n))
          (shut-settles (asked_time s) (player_at b.players p));
      switch = static.switch;
      assets = static.assets;
      assetcount = static.assetcount;
      entrycount = static.entrycount;
      limits = static.limits;
      entry_slots = static.entries;
      player_slots = static.players;
      code = did-code did;
      grants = did-grants did;
      opens = opens;
      refuses = leaves;
    }

  -- ## The whole

  -- the codes that a record can be turned away with
  abbrev AwayCode : ℕ → Type 0
  AwayCode code = ((1 ≤ code) × (code ≤ 6)) ⊎ (code ≡ 30)

  against-range : (code : ℕ) → Against b ls s code → AwayCode code
  against-range code (bad-list c n) = inr c
  against-range code (cut c g n) = inl (omega arith, omega arith)
  against-range code (no-player c g w p) = inl (omega arith, omega arith)
  against-range code (no-request c g w p n) = inl (omega arith, omega arith)
  against-range code (unlike c g v n r) = inl (omega arith, omega arith)
  against-range code (out-of-line c g v n i) = inl (omega arith, omega arith)
  against-range code (out-of-time c g v i n) = inl (omega arith, omega arith)

  not-both : (code : ℕ) → AwayCode code → TakenCode code → ⊥
  not-both code (inl a) (inl z) = omega (arith, a.0, z)
  not-both code (inl a) (inr (inl z)) = omega (arith, a.1, z.0)
  not-both code (inl a) (inr (inr z)) = omega (arith, a.1, z.0)
  not-both code (inr a) (inl z) = omega (arith, a, z)
  not-both code (inr a) (inr (inl z)) = omega (arith, a, z.1)
  not-both code (inr a) (inr (inr z)) = omega (arith, a, z.0)

  only : (code : ℕ) → AwayCode code → (received b ls s).answer.code ≡ code → (IsResend b ls s → ⊥) → Against b ls s code
  only code range x n = go verdict
    where
      go : Verdict b ls s → Against b ls s code
      go (turned-away c y) = subst (Against b ls s) (sym (ap (λ (o : Outcome). o.answer.code) (away c y).0) ∙ x) y
      go (resend r) = absurd (n r)
      go (taken t) = absurd (not-both code range (subst TakenCode (sym (ap (λ (o : Outcome). o.answer.code) (new_is t))
          ∙ x) (stores t).code))

  stored-code : Legal b → IsResend b ls s → TakenCode l.answer.code
  unfolding answer_legal
  stored-code g r =
      let w =
      used-from b (asker b s) (ne_eqb l.number 0 (λ z. omega (arith, z, r.number.not_none)))
      ((stages-from b g.rules).players (asked_player s) (omega (arith, r.event.player))) in
      test-code l.answer.code (and_left (taken_code l.answer.code) _ w.1.0)

  code-range : (IsResend b ls s → Legal b) → TableCode (received b ls s).answer.code
  code-range g = go verdict
    where
      in_table : (o : Outcome) → TakenCode o.answer.code → TableCode o.answer.code
      in_table o (inl z) = inl (omega (arith, z))
      in_table o (inr (inl z)) = inr (inl z)
      in_table o (inr (inr z)) = inr (inr (inr z))

      away-table : (code : ℕ) → AwayCode code → TableCode code
      away-table code (inl z) = inl z.1
      away-table code (inr z) = inr (inr (inl z))

      go : Verdict b ls s → TableCode (received b ls s).answer.code
      go (turned-away c y) = rw (away c y).0 (away-table c (against-range c y))
      go (resend r) = rw (resent r).0 (in_table (record { answer = l.answer; book = b }) (stored-code (g r) r))
      go (taken t) = rw (new_is t) (in_table (new t) (stores t).code)

  -- ## The list after it

  -- the lines are as lent, or what the uses that ended made of them
  lines_are : (P : List Line → Type 0) → P ls → (t : IsTaken b ls s → P (recorded_all b ls (endings b e))) → P (left b ls s)
  unfolding lines_by
  lines_are P same made = go verdict
    where
      go : Verdict b ls s → P (left b ls s)
      go (turned-away c y) = subst P (sym (away c y).1) same
      go (resend r) = subst P (sym (resent r).1) same
      go (taken t) = subst P (sym (goes_lines t.list ∙ (gated t.event Take (takes t)).1)) (made t)

  answered : Answered b ls s
  answered = record {
    verdict = verdict;
    turned-away = away;
    only = only;
    again = resent;
    stored-code = stored-code;
    taken = λ t. subst (Stored b s) (sym (new_is t)) (stores t);
    further = λ k h. lines_are (λ x. line_at x k ≡ line_at ls k) refl (λ t. all-further b (endings b e) ls k h);
    contents = λ k. lines_are (λ x. (line_at x k).content ≡ (line_at ls k).content) refl (λ t. all-content b (endings b e) ls k);
    size = lines_are (λ x. length x ≡ length ls) refl (λ t. all-size b (endings b e) ls);
    off = λ z. lines_are (λ x. x ≡ ls) refl (λ t. all-off b (ne_eqb b.switch 1 (λ w. omega arith)) (endings b e) ls);
    code = code-range;
  }

-- ## Images

header-code : (s : List ℕ) → ImageCode (header_broken s)
unfolding header_broken
header-code s =
    stage (ltb (length s) (size header_start)) 20 _ (omega arith) (omega arith)
    (stage (not (mark_in s)) 21 _ (omega arith) (omega arith)
    (stage (not (between 1 newest (version_in s))) 22 _ (omega arith) (omega arith)
    (stage (ltb 64 (asset_count_in s) || ltb 64 (entry_count_in s) || ltb latest_time (time_in s)) 23 _ (omega arith) (omega arith)
    (stage (not (eqb (length s) (image_length (version_in s) (asset_count_in s) (entry_count_in s)))) 20 _ (omega arith) (omega arith)
    (inl refl)))))

rule-code : (b : Book) → ImageCode (rule_broken b)
unfolding rule_broken
rule-code b =
    stage (not (assets_legal b)) 24 _ (omega arith) (omega arith)
    (stage (not (entries_legal b)) 25 _ (omega arith) (omega arith)
    (stage (not (switch_legal b && players_legal b && latest_passes b)) 26 _ (omega arith) (omega arith)
    (stage (not (meters_legal b)) 27 _ (omega arith) (omega arith)
    (inl refl))))

image_code : (s : List ℕ) → ImageCode (read_code s)
unfolding read_code
image_code s = on_test (eqb (header_broken s) 0) (λ q. rw q (rule-code (book_in s))) (λ q. rw q (header-code s))

versions : (s : List ℕ) → read_code s ≡ 0 → (1 ≤ version_in s) × (version_in s ≤ newest)
versions s z = let p = header-passed s (accepted-stages s z).0 in (p.oldest, p.known)

accepted : (s : List ℕ) → Bytes s → read_code s ≡ 0 ↔ IsImage s
accepted s h = (
  λ z. record {
    book = read_book no_book s;
    version = version_in s;
    oldest = (versions s z).0;
    known = (versions s z).1;
    legal = (demand2.accepted_legal no_book s h z).0;
    said = demand2.said no_book s h z;
    bytes = demand2.laid_again no_book s h z;
  },
  λ i. sym (ap read_code i.bytes) ∙ (demand2.reads_as no_book i.book i.version i.oldest i.known i.legal i.said).0,
)

-- ## Demand 1

pub demand1 : Demand1
demand1 = record {
  records = answered;
  followed = λ n h. next-follows n (n + 1) (omega arith) refl;
  none_after = none_after;
  images = image_code;
  versions = versions;
  accepted = accepted;
}

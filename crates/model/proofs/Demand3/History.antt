-- What holds of every list of events: the invariant after it, hence the limits, and the answers from the ledger alone.
-- Resends struck out leave the other answers and the book as they were.
use mathlib.Core.Path.{◌≡◌, refl, sym, ap, ◌∙◌}
use Prim.Native.Nat.{ℕ, zero, suc, ◌+◌, ◌≤◌, zero-le, ◌<◌}
use mathlib.Core.Bool.{Bool, true, false, not, ◌&&◌, and-false}
use mathlib.Core.List.{List, [], ◌∷◌, map}
use mathlib.Core.Option.{Option, none, some, none-ne-some}
use lib.ListN.{length, get_or-eq_default}
use lib.Seq.{ext_get_or}
use lib.Dec.{eqb}
use native.Mathlib.Omega.{arith}
use native.Mathlib.Nat.{add-zero, zero-add}
use borrow.Author.Tests.{eq-eqb, ne_eqb}
use Rattle.numbers.specs.Count.{one}
use Rattle.book.specs.declared.Limits.{Limits}
use Rattle.book.specs.declared.Meters.{Meters}
use Rattle.book.specs.declared.Entry.{Entry}
use Rattle.book.specs.declared.Answer.{Answer}
use Rattle.book.specs.declared.Last.{Last}
use Rattle.book.specs.declared.Latest.{Latest}
use Rattle.book.specs.declared.Ask.{Ask}
use Rattle.book.specs.declared.Recent.{Recent}
use Rattle.book.specs.declared.Request.{Request}
use Rattle.book.specs.declared.Request.TheVariants.{Begin, Continue, Stop, Cancel}
use Rattle.book.specs.declared.Open.{Open}
use Rattle.book.specs.declared.Player.{Player}
use Rattle.book.specs.declared.Line.{Line}
use Rattle.book.specs.declared.Book.{Book}
use Rattle.book.specs.declared.Event.{Event}
use Rattle.book.specs.Decoded.{Decoded, Invalid, Valid}
use Rattle.book.specs.Gate.{Gate, Refuse, Resend, Take}
use Rattle.book.specs.Blank.{no_limits, no_meters, no_entry}
use Rattle.model.specs.Book.{limits_at, meters_at, flagged, Fresh}
use Rattle.model.specs.Choice.{asks, Catalog, catalog_of}
use Rattle.model.specs.Meters.{where_flagged, is_on, settled}
use Rattle.model.specs.Step.{do_cancel, done, last_at, open_at, noted, just_begun, taken_step, step_by, step, arrive}
use Rattle.model.specs.Report.{Arrival, good, admitted, receive, lines_left, lent}
use Rattle.model.specs.Gate.{gate}
use Rattle.model.specs.Record.{operation_number, decoded}
use Rattle.model.specs.Ledger.{Use, Taken, Account, empty, latest_taken, resent, time_of, latest, sum_of, counts, counts_timed}
use Rattle.model.specs.Ledger.{counts_seconds, is_open}
use Rattle.model.specs.Ledger.{earliest, sooner, note_arrival, marks_by}
use Rattle.model.specs.Demand3.{State, advance, after, Every, start_or, is_some, figures, filled_from, filled, UseInside, Limited}
use Rattle.model.specs.Demand3.{read_resend, is_resend, struck, kept, held_in, last_by, last_of, granted_begin, begun_last, recent_by}
use Rattle.model.specs.Demand3.{predict_by, predict, predicted}
use Rattle.model.specs.History.{answers, final, handed, handed_lines, record_answers, record_final, record_lines}
use Rattle.model.specs.Agrees.{player_last}
use Rattle.model.proofs.Ledger.Facts.{on_test, on_same, clash, and_left, and_right, cond-on, eqb-self, flag-on, meters-path}
use Rattle.model.proofs.Ledger.Sums.{all_map, all_both}
use Rattle.model.proofs.Ledger.Marks.{no-marks, marks-together}
use Rattle.model.proofs.Ledger.Invariant.{Invariant, Sound, Spanned, Dated, held_as, held-cases, all-earliest}
use Rattle.model.proofs.Ledger.Concrete.{settled-held, settled-limits, settled-size}
use Rattle.model.proofs.Ledger.WellFormed.{WellFormed, Static, static-self, static-trans, catalog-static, admitted-static}
use Rattle.model.proofs.Ledger.WellFormed.{receive-static}
use Rattle.model.proofs.Ledger.Steps.{Inv, newest-open, opened, recently, gate-take, resent-is, note-skip}
use Rattle.model.proofs.Ledger.Steps.{receive-keeps}
use Rattle.numbers.specs.Bits.{ones}
use Rattle.numbers.proofs.BitLaws.{ones-zero}
use Rattle.numbers.proofs.TableLaws.{below_or_not}

-- ## The invariant holds after every list

flag-zero : (f : Bool) → 0 ≡ where_flagged f 0
flag-zero true = refl
flag-zero false = refl

figures-none : (at : ℕ → ℕ) (i : ℕ) (l : Limits) → no_meters ≡ figures at [] i l
unfolding figures sum_of earliest
figures-none at i l = meters-path (flag-zero (flagged 1 l)) (flag-zero (flagged 2 l)) (ap one (sym (and-false (flagged 16 l))))
    (flag-zero (flagged 16 l)) (flag-zero (flagged 32 l)) (sym (no-marks at [] 0 i tt (omega arith)))

pub fresh-inv : (b : Book) → WellFormed b → Fresh b → Inv b empty
unfolding time_of latest_taken latest
fresh-inv b g f = record {
  time = f.time;
  lasts = λ p. ap (λ (x : Player). x.last) (f.players p);
  numbered = λ p x e. absurd (none-ne-some x e);
  held = record {
    opens = λ p. ap (λ (x : Player). x.current) (f.players p);
    meters = λ i. f.meters i ∙ figures-none _ i _;
    tidy = tt;
    sound = tt;
    spans = tt;
    within = λ i. rw (f.meters i) (record {
      count = λ x. zero-le;
      timed = λ x. zero-le;
      seconds = λ x. zero-le;
      together = λ x. omega (arith, ones-zero);
    });
  };
  formed = g;
  player = ap (λ (x : Latest). x.player) f.latest;
  mark = omega (arith, ap (λ (x : Latest). x.started) f.latest);
  none = λ q. ap (λ (x : Latest). x.started) f.latest;
  taken-last = λ x xs e. let w : true ≡ false = cc in clash refl w;
}

pub advance-book : (s : State) (x : Arrival) → (advance s x).book ≡ (receive s.book x).book
unfolding advance
advance-book s x = refl

pub after-inv : (xs : List Arrival) (s : State) → Inv s.book s.account → Inv (after s xs).book (after s xs).account
unfolding after advance
after-inv [] s h = h
after-inv (x ∷ xs) s h = after-inv xs (advance s x) (receive-keeps s.book s.account x h)

pub advance-keeps : (s : State) (x : Arrival) → Inv s.book s.account → Inv (advance s x).book (advance s x).account
unfolding advance
advance-keeps s x h = receive-keeps s.book s.account x h

pub after-static : (xs : List Arrival) (s : State) → Static s.book (after s xs).book
unfolding after advance
after-static [] s = static-self s.book
after-static (x ∷ xs) s = static-trans (receive-static s.book x) (after-static xs (advance s x))

-- ## The limits

earliest-first : (us : List Use) → Every (λ u. start_or 0 (earliest u.entry us) ≤ u.begin) us
unfolding earliest
earliest-first [] = tt
earliest-first (v ∷ us) = (
  rw (eqb-self v.entry) (sooner-le v.begin (earliest v.entry us)),
  all_both (λ u h k. on_test (eqb v.entry u.entry) (λ q. rw q (sooner-some v.begin u.begin (earliest u.entry us) k h))
      (λ q. rw q h)) us (earliest-first us) (all-earliest us),
)
  where
    sooner-le : (b : ℕ) (s : Option ℕ) → sooner b s ≤ b
    sooner-le b none = omega arith
    sooner-le b (some c) = omega arith

    sooner-some : (b x : ℕ) (s : Option ℕ) → is_some s ≡ true → start_or 0 s ≤ x → sooner b s ≤ x
    sooner-some b x none k h = clash k refl
    sooner-some b x (some c) k h = omega arith

record UseFits (l : Limits) (s : Option ℕ) (u : Use) : Type 0 where
  dates : Dated l u
  span : Spanned s l u

use-inside : (l : Limits) (us : List Use) (u : Use) → UseFits l (earliest u.entry us) u → start_or 0 (earliest u.entry us) ≤ u.begin → UseInside l us u
use-inside l us u z p = record {
  begin = record { start = z.dates.from; end = z.dates.upto; from = λ f. p; until = z.span.from };
  seconds = λ x lo hi. record {
    start = λ f. omega (arith, z.dates.from f);
    end = λ f. omega (arith, z.dates.last f);
    from = λ f. omega arith;
    until = λ f. omega (arith, z.span.last f);
  };
}

pub limited : (T k n : ℕ) (es : List Entry) (met : ℕ → Meters) (opn : ℕ → Open) (us : List Use) → k ≤ 16
    → Invariant T k n (limits_at es) met opn us → Limited T us es
unfolding figures
limited T k n es met opn us few h = record {
  count = λ i f. omega (
    arith,
    ap (λ (m : Meters). m.count) (h.meters i),
    flag-on (flagged 1 (limits_at es i)) (sum_of (counts i) us) f,
    (h.within i).count f,
  );
  timed = λ i f. omega (
    arith,
    ap (λ (m : Meters). m.timed) (h.meters i),
    flag-on (flagged 2 (limits_at es i))
        (sum_of (counts_timed (λ p. T) (limits_at es i).timer i) us) f,
    (h.within i).timed f,
  );
  seconds = λ i f. omega (
    arith,
    ap (λ (m : Meters). m.seconds) (h.meters i),
    flag-on (flagged 32 (limits_at es i))
        (sum_of (counts_seconds i) us) f,
    (h.within i).seconds f,
  );
  together = λ i f. omega (
    arith,
    ap (λ (m : Meters). ones m.marks) (h.meters i),
    marks-together T i us h.tidy (all_map {P = Sound T k n (limits_at es)} (λ u w. omega (arith, w.player)) us h.sound),
    (h.within i).together f,
  );
  inside =
      all_both {P = λ u. UseFits (limits_at es u.entry) (earliest u.entry us) u}
      (λ u z p. use-inside (limits_at es u.entry) us u z p) us
      (all_both {P = Sound T k n (limits_at es)} (λ u x y. record { dates = x.dates; span = y }) us h.sound h.spans)
      (earliest-first us);
}

-- ## Resends

resent-stays : (b : Book) (a : Account) (e : Event) → Inv b a → resent a e ≡ true → (step b e).book ≡ b
unfolding step step_by
resent-stays b a e h r = go (gate b.time (last_at b.players e.player) e) refl
  where
    go : (g : Gate) → gate b.time (last_at b.players e.player) e ≡ g → (step_by g b e).book ≡ b
    go (Refuse c) q = refl
    go Resend q = refl
    go Take q = clash r (resent-is b a e h ∙ (gate-take _ _ e q).fresh)

resend-book : (s : State) (d : Decoded) → Inv s.book s.account → read_resend s.account d ≡ true → (arrive s.book d).book ≡ s.book
unfolding arrive
resend-book s (Invalid code) h r = refl
resend-book s (Valid e) h r = resent-stays s.book s.account e h r

resend-account : (a : Account) (d : Decoded) (r : Answer) → read_resend a d ≡ true → note_arrival a d r ≡ a
unfolding note_arrival
resend-account a (Invalid code) r q = refl
resend-account a (Valid e) r q = note-skip a e r (rw q)

-- a resend has a good list, and leaves the book and the account
resend-same : (s : State) (x : Arrival) → Inv s.book s.account → is_resend s x ≡ true → advance s x ≡ s
unfolding advance receive admitted arrive
resend-same s x h r =
    let z = and_right (not (eqb (receive s.book x).answer.code 30)) (read_resend s.account x.event) r in
    on_test (good s.book x.lines)
    (λ q. rw q (λ i. record {
      book = resend-book s x.event h z i;
      account = resend-account s.account x.event (arrive s.book x.event).answer z i;
    }))
    (λ q. clash (and_left (not (eqb (receive s.book x).answer.code 30)) (read_resend s.account x.event) r) (rw q))

pub struck-answers : (xs : List Arrival) (s : State) → Inv s.book s.account → answers s.book (struck s xs) ≡ kept s xs
unfolding answers struck kept advance
struck-answers [] s h = refl
struck-answers (x ∷ xs) s h =
    on_test (is_resend s x)
    (λ r. rw (r, resend-same s x h r) (struck-answers xs s h))
    (λ r. rw r (ap (λ (as' : List Answer). (receive s.book x).answer ∷ as')
    (struck-answers xs (advance s x) (advance-keeps s x h))))

pub struck-book : (xs : List Arrival) (s : State) → Inv s.book s.account → final s.book (struck s xs) ≡ final s.book xs
unfolding final struck advance
struck-book [] s h = refl
struck-book (x ∷ xs) s h =
    on_test (is_resend s x)
    (λ r. rw (r, resend-same s x h r)
    (struck-book xs s h ∙ ap (λ (y : Book). final y xs) (sym (sym (advance-book s x) ∙ ap (λ (y : State). y.book) (resend-same s x h r)))))
    (λ r. rw r (struck-book xs (advance s x) (advance-keeps s x h)))

-- ## The entries with the ledger's figures

filled-size : (T : ℕ) (us : List Use) (q : ℕ) (es : List Entry) → length (filled_from T us q es) ≡ length es
unfolding filled_from
filled-size T us q [] = refl
filled-size T us q (x ∷ es) = ap suc (filled-size T us (suc q) es)

pub filled-limits : (T : ℕ) (us : List Use) (q : ℕ) (es : List Entry) (i : ℕ) → limits_at (filled_from T us q es) i ≡ limits_at es i
unfolding filled_from
filled-limits T us q [] i = refl
filled-limits T us q (x ∷ es) zero = refl
filled-limits T us q (x ∷ es) (suc i) = filled-limits T us (suc q) es i

filled-from : (T : ℕ) (us : List Use) (q : ℕ) (es : List Entry) (i : ℕ) → i < length es → meters_at (filled_from T us q es) i ≡ figures
    (λ p. T) us (q + i) (limits_at es i)
unfolding filled_from
filled-from T us q [] i h = absurd (omega arith)
filled-from T us q (x ∷ es) zero h = rw (add-zero q)
filled-from T us q (x ∷ es) (suc i) h =
    let y : q + suc i ≡ suc q + i = omega arith in
    let k : suc i < suc (length es) = h in
    rw y (filled-from T us (suc q) es i (omega arith))

filled-below : (T : ℕ) (us : List Use) (es : List Entry) (i : ℕ) → i < length es
    → meters_at (filled T us es) i ≡ figures (λ p. T) us i (limits_at es i)
filled-below T us es i h = filled-from T us 0 es i h ∙ ap (λ (k : ℕ). figures (λ p. T) us k (limits_at es i)) (zero-add i)

figures-blank : (at : ℕ → ℕ) (us : List Use) (i : ℕ) → marks_by at us i ≡ 0 → no_meters ≡ figures at us i no_limits
unfolding figures flagged
figures-blank at us i e = meters-path refl refl refl refl refl (sym e)

-- past the end too, if no use is of an entry there
pub filled-meters : (T : ℕ) (us : List Use) (es : List Entry) → Every (λ u. u.entry < length es) us → (i : ℕ)
    → meters_at (filled T us es) i ≡ figures (λ p. T) us i (limits_at es i)
filled-meters T us es k i =
    below_or_not i (length es) (filled-below T us es i)
    (λ h.
    ap (λ (x : Entry). x.meters) (get_or-eq_default (filled T us es) no_entry (omega (arith, filled-size T us 0 es)))
    ∙ figures-blank (λ p. T) us i (no-marks (λ p. T) us (length es) i k h)
    ∙ sym (ap (λ (x : Entry). figures (λ p. T) us i x.limits) (get_or-eq_default es no_entry h)))

entry-path : {x y : Entry} → x.limits ≡ y.limits → x.meters ≡ y.meters → x ≡ y
entry-path p q = λ i. record { limits = p i; meters = q i }

pub settled-filled : (S T : ℕ) (es : List Entry) (ps : List Player) (us : List Use) → S ≤ T
    → Invariant S (length ps) (length es) (limits_at es) (meters_at es) (open_at ps) us → settled T ps es ≡ filled T us es
settled-filled S T es ps us later h =
    let g = settled-held S T es ps us later h in
    ext_get_or no_entry (settled T ps es) (filled T us es) (settled-size T ps es ∙ sym (filled-size T us 0 es))
    (λ i x. entry-path
    (settled-limits T ps es i ∙ sym (filled-limits T us 0 es i))
    (g.meters i ∙ ap (figures (λ p. T) us i) (settled-limits T ps es i) ∙ sym
    (filled-below T us es i (omega (arith, settled-size T ps es)))))

-- ## The answers are those of the ledger

-- what is known of the event taken last decides only the answer to a cancel, and only if a use is open
recent-same : (q : Request) (c : Catalog) (es : List Entry) (o : Open) (t : Ask) (r r' : Recent) → (is_on o ≡ true → r.begun ≡ r'.begun)
    → (done q c es o t r).answer ≡ (done q c es o t r').answer
unfolding done do_cancel
recent-same (Begin kind asset) c es o t r r' x = refl
recent-same Continue c es o t r r' x = refl
recent-same Stop c es o t r r' x = refl
recent-same Cancel c es o t r r' x =
    on_test (is_on o) (λ on. rw (on, x on) (on_test r'.begun (λ m. rw m) (λ m. rw m))) (λ off. rw off)

-- the header's player and its stored request and answer tell what the ledger tells
module _ (b : Book) (a : Account) (e : Event) (h : Inv b a) where
  begun-own : (u : Use) → latest e.player a.uses ≡ some u → is_open e.time u ≡ true → b.time ≤ e.time
      → (x : Taken) (xs : List Taken) → a.taken ≡ x ∷ xs → x.event.player ≡ e.player
      → (true && eqb (operation_number x.event.request) 1 && eqb x.answer.code 0 && eqb x.answer.entry u.entry
      && eqb x.answer.until u.until) ≡ granted_begin x
  begun-own u s z later x xs y p =
      on_test (granted_begin x)
      (λ g.
      let v = (newest-open b a e h u s z later x xs y p g).1 in
      let k = and_left (eqb (operation_number x.event.request) 1) _ g in
      let m = and_right (eqb (operation_number x.event.request) 1) _ g in
      rw (
        k,
        m,
        eq-eqb x.answer.entry u.entry (sym v.entry),
        eq-eqb x.answer.until u.until (sym v.until),
      ))
      (λ g. rw g)

  begun-last : (o : Open) (u : Use) → latest e.player a.uses ≡ some u → is_open e.time u ≡ true → b.time ≤ e.time
      → o ≡ held_as u → (t : List Taken) → a.taken ≡ t
      → just_begun b.latest e.player (last_at b.players e.player) o ≡ begun_last e.player t
  unfolding just_begun latest_taken
  begun-last o u s z later c [] y = rw (ne_eqb b.latest.player (e.player + 1) (λ q. omega (arith, h.player ∙ ap player_last y)))
  begun-last o u s z later c (x ∷ xs) y =
      on_same x.event.player e.player
      (λ p.
      let k : last_at b.players e.player ≡ noted x.event x.answer =
      h.lasts e.player ∙ ap (last_of e.player) y
      ∙ ap last_by (cond-on (eqb x.event.player e.player) _ _ (eq-eqb x.event.player e.player p)) in
      rw (
        k,
        c,
        eq-eqb b.latest.player (e.player + 1) (omega (arith, h.player ∙ ap player_last y)),
        eq-eqb x.event.player e.player p,
      ) (begun-own u s z later x xs y p))
      (λ p. rw (
        ne_eqb b.latest.player (e.player + 1) (λ q. p (omega (arith, h.player ∙ ap player_last y))),
        ne_eqb x.event.player e.player p,
      ))

  recent-is : b.time ≤ e.time → (o : Open) → o ≡ held_in e.time e.player a.uses → is_on o ≡ true
      → just_begun b.latest e.player (last_at b.players e.player) o ≡ begun_last e.player a.taken
  recent-is later o w on =
      held-cases e.time e.player a.uses o w
      (λ c g. clash on (ap (λ (z : Open). is_on z) c))
      (λ u s z c. begun-last o u s z later c a.taken refl)

-- a taken event is judged on the ledger's figures
pub judged : (b : Book) (a : Account) (e : Event) → Inv b a → gate b.time (last_at b.players e.player) e ≡ Take
    → (taken_step b e).answer ≡ (done e.request (catalog_of b) (filled e.time a.uses b.entries)
    (held_in e.time e.player a.uses) (asks b e) (recent_by e.player a.taken)).answer
unfolding taken_step
judged b a e h q =
    let k = gate-take _ _ e q in
    let now = (settled-held b.time e.time b.entries b.players a.uses k.later h.held).opens e.player in
    recent-same e.request (catalog_of b) (settled e.time b.players b.entries) (opened b e) (asks b e) (recently b e)
    (recent_by e.player a.taken) (recent-is b a e h k.later (opened b e) now)
    ∙ rw (settled-filled b.time e.time b.entries b.players a.uses k.later h.held, now)

arrive-predicted : (b : Book) (a : Account) (d : Decoded) → Inv b a → (arrive b d).answer ≡ predict b a d
unfolding arrive predict step step_by predict_by
arrive-predicted b a (Invalid code) h = refl
arrive-predicted b a (Valid e) h = rw (← h.lasts e.player, ← h.time) (go (gate b.time (last_at b.players e.player) e) refl)
  where
    go : (g : Gate) → gate b.time (last_at b.players e.player) e ≡ g → (step_by g b e).answer ≡ predict_by g b a e
    go (Refuse c) q = refl
    go Resend q = ap (λ (l : Last). l.answer) (h.lasts e.player)
    go Take q = judged b a e h q

filled-same : (T : ℕ) (us : List Use) (es fs : List Entry) → length fs ≡ length es → ((i : ℕ) → limits_at fs i ≡ limits_at es i) → filled
    T us fs ≡ filled T us es
filled-same T us es fs n l =
    ext_get_or no_entry (filled T us fs) (filled T us es) (filled-size T us 0 fs ∙ n ∙ sym (filled-size T us 0 es))
    (λ i x. entry-path
    (filled-limits T us 0 fs i ∙ l i ∙ sym (filled-limits T us 0 es i))
    (filled-below T us fs i (omega (arith, filled-size T us 0 fs)) ∙ ap (figures (λ p. T) us i) (l i) ∙ sym
    (filled-below T us es i (omega (arith, filled-size T us 0 fs)))))

predict-same : (b c : Book) (a : Account) (d : Decoded) → Static b c → predict c a d ≡ predict b a d
unfolding predict predict_by
predict-same b c a (Invalid code) s = refl
predict-same b c a (Valid e) s = go (gate (time_of a.taken) (last_of e.player a.taken) e)
  where
    go : (g : Gate) → predict_by g c a e ≡ predict_by g b a e
    go (Refuse x) = refl
    go Resend = refl
    go Take =
        ap (λ (x : Catalog). (done e.request x (filled e.time a.uses c.entries) (held_in e.time e.player a.uses)
        (asks c e) (recent_by e.player a.taken)).answer) (catalog-static s) ∙
        ap (λ (w : ℕ). (done e.request (catalog_of b) (filled e.time a.uses c.entries) (held_in e.time e.player a.uses)
        (record { player = e.player; time = e.time; switch = w }) (recent_by e.player a.taken)).answer) s.switch ∙
        ap (λ (y : List Entry). (done e.request (catalog_of b) y (held_in e.time e.player a.uses) (asks b e)
        (recent_by e.player a.taken)).answer)
        (filled-same e.time a.uses b.entries c.entries s.entries s.limits)

pub answers-predicted : (b : Book) (xs : List Arrival) (s : State) → Inv s.book s.account → Static b s.book → answers s.book
    xs ≡ predicted b s.account xs
unfolding answers predicted advance receive
answers-predicted b [] s h k = refl
answers-predicted b (x ∷ xs) s h k =
    let q : (arrive s.book (admitted s.book x)).answer ≡ predict b s.account (admitted b x) =
    arrive-predicted s.book s.account (admitted s.book x) h
    ∙ predict-same b s.book s.account (admitted s.book x) k
    ∙ ap (predict b s.account) (admitted-static k x) in
    rw (← q) (ap (λ (as' : List Answer). (arrive s.book (admitted s.book x)).answer ∷ as')
    (answers-predicted b xs (advance s x) (receive-keeps s.book s.account x h) (static-trans k (receive-static s.book x))))

-- ## Records of bytes

pub record-answers : (ls : List Line) (rs : List (List ℕ)) (b : Book) → record_answers b ls rs ≡ answers b (handed b ls (map decoded rs))
unfolding record_answers answers handed
record-answers ls [] b = refl
record-answers ls (r ∷ rs) b =
    ap (λ (x : List Answer). (receive b (lent ls r)).answer ∷ x) (record-answers (lines_left b (lent ls r)) rs (receive b (lent ls r)).book)

pub record-final : (ls : List Line) (rs : List (List ℕ)) (b : Book) → record_final b ls rs ≡ final b (handed b ls (map decoded rs))
unfolding record_final final handed
record-final ls [] b = refl
record-final ls (r ∷ rs) b = record-final (lines_left b (lent ls r)) rs (receive b (lent ls r)).book

pub record-lines : (ls : List Line) (rs : List (List ℕ)) (b : Book) → record_lines b ls rs ≡ handed_lines b ls (map decoded rs)
unfolding record_lines handed_lines
record-lines ls [] b = refl
record-lines ls (r ∷ rs) b = record-lines (lines_left b (lent ls r)) rs (receive b (lent ls r)).book

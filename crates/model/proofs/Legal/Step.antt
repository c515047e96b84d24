-- Every event on a legal book leaves a legal book, so saving and reading back between any two events changes nothing.
use mathlib.Core.Path.{◌≡◌, refl, sym, ap, ◌∙◌, subst, fun_ext}
use Prim.Native.Nat.{ℕ, ◌+◌, ◌-◌, ◌≤◌, ◌<◌}
use mathlib.Core.Bool.{Bool, true, false, not, cond}
use mathlib.Core.List.{List, [], ◌∷◌, map}
use mathlib.Core.Option.{Option, none, some}
use lib.ListN.{length, get_or, set, take, length-set, length-map}
use lib.Seq.{get_or-set_same, get_or-set_other}
use lib.Dec.{leb, ltb, eqb}
use native.Mathlib.Omega.{arith}
use borrow.Author.Tests.{eqb-true, eq-eqb, ne_eqb, ltb-true, ltb-false, lt-ltb, leb-true, le-leb}
use Rattle.numbers.specs.Count.{one}
use Rattle.numbers.specs.Fields.{bits16, size, Fit}
use Rattle.numbers.proofs.FieldLaws.{number_fits}
use Rattle.numbers.proofs.TableLaws.{below_or_not}
use Rattle.numbers.proofs.Tests.{row-passed, otherwise-at}
use Rattle.book.specs.declared.Limits.{Limits}
use Rattle.book.specs.declared.Meters.{Meters}
use Rattle.book.specs.declared.Entry.{Entry}
use Rattle.book.specs.declared.Answer.{Answer}
use Rattle.book.specs.declared.Last.{Last}
use Rattle.book.specs.declared.Open.{Open}
use Rattle.book.specs.declared.Player.{Player}
use Rattle.book.specs.declared.Book.{Book}
use Rattle.book.specs.declared.Recent.{Recent}
use Rattle.book.specs.declared.Event.{Event}
use Rattle.book.specs.declared.Kind.TheVariants.{Play, Display, Execute, Print, Export}
use Rattle.book.specs.declared.Request.{Request}
use Rattle.book.specs.declared.Request.TheVariants.{Begin, Continue, Stop, Cancel}
use Rattle.book.specs.Decoded.{Decoded, Invalid, Valid}
use Rattle.book.specs.Gate.{Gate, Refuse, Resend, Take}
use Rattle.book.specs.Blank.{no_entry, no_player, closed}
use Rattle.book.specs.Changed.{changed}
use Rattle.model.specs.Book.{limits_at, meters_at, player_at, assets_in, entries_in, latest_time, in_book, between, asset_legal, assets_legal}
use Rattle.model.specs.Book.{limits_legal, entries_legal, player_blank, request_legal, taken_code, answer_legal, open_uses, open_seconds}
use Rattle.model.specs.Book.{Legal, asset_position, content_legal, switch_legal, opens, marks_of, flagged, latest_player}
use Rattle.model.specs.Book.{started_legal, latest_legal, latest_passes}
use Rattle.model.specs.Image.{newest, header_tail, tail_values, entry_widths, entry_values, player_widths, player_values, Typed, Bytes}
use Rattle.model.specs.Record.{operation_number, request_asset, request_kind, record_widths, record_field, kind_of, request_of, event_in}
use Rattle.model.specs.Record.{decoded}
use Rattle.model.specs.Gate.{same_request, same_number, in_line, timely, gate}
use Rattle.model.specs.Meters.{is_on, expired, shut, settled}
use Rattle.model.specs.Choice.{catalog_of, asks, usable, holds}
use Rattle.model.specs.Step.{Done, done, last_at, open_at, just_begun, recent_of, noted, latest_by, taken_step, step_by, step, arrive}
use Rattle.model.specs.Report.{Arrival, good, admitted, receive, lent}
use Rattle.model.specs.History.{answers, final}
use Rattle.model.specs.Saved.{Survives, Fits, FitsRead, Turn, handed_on, event_of, saved_answers, saved_final, AllFit, Saved}
use Rattle.model.proofs.Image.RoundTrip.{demand2}
use Rattle.model.proofs.Ledger.Facts.{on_test, on_same, clash, and_left, and_right, and_both, cond-on, cond-off, upd, upd_same}
use Rattle.model.proofs.Ledger.Facts.{upd_other, one-le}
use Rattle.model.proofs.Ledger.Invariant.{shut_o, grant-most}
use Rattle.model.proofs.Ledger.Concrete.{store-open, shut_at, shut_open}
use Rattle.model.proofs.Ledger.WellFormed.{all-below}
use Rattle.model.proofs.Ledger.Steps.{in-line}
use Rattle.model.proofs.Legal.Facts.{all_of}
use Rattle.model.proofs.Legal.Rules.{open_passes, player_passes, lawful_in, Counted, MeterOk, OpenOk, Sound, Live, open-to}
use Rattle.model.proofs.Legal.Rules.{blank-current, unused-from, used-from, player-to, meter-to, Stages, stages-from, stages-to}
use Rattle.model.proofs.Legal.Rules.{entries-counted, no-player, sound-of, Named, player-named, started-tests, uses_of}
use Rattle.model.proofs.Demand3.Suitable.{in-book}
use Rattle.model.proofs.Legal.Meters.{Alone, only-alone}
use Rattle.model.proofs.Legal.Events.{Effect, stage, turn-part, settled-part, settled-live, AnswerOk, DoneOk, done_ok}
use Rattle.numbers.proofs.BitLaws.{mask_fits}

-- ## An event that is taken

-- the checks it has passed
pub record Passed (b : Book) (e : Event) : Type 0 where
  pub player : e.player < 16
  pub number : 0 < e.number
  pub fits : e.number < 18446744073709551616
  pub later : b.time ≤ e.time
  pub early : e.time ≤ latest_time

only-take : (p s r n t : Bool) → ◌≡◌ {A = Gate} (cond p (Refuse 2)
    (cond s (cond r Resend (Refuse 4)) (cond (not n) (Refuse 3) (cond (not t) (Refuse 5) Take)))) Take →
    (p ≡ false) × ((n ≡ true) × (t ≡ true))
only-take false false r true true e = (refl, (refl, refl))
only-take false false r true false e = let w : true ≡ false = cc in clash refl w
only-take false false r false t e = let w : true ≡ false = cc in clash refl w
only-take false true true n t e = let w : true ≡ false = cc in clash refl w
only-take false true false n t e = let w : true ≡ false = cc in clash refl w
only-take true s r n t e = let w : true ≡ false = cc in clash refl w

pub gate-passed : (b : Book) (e : Event) → gate b.time (last_at b.players e.player) e ≡ Take → Passed b e
unfolding gate timely
gate-passed b e g =
    let l : Last = last_at b.players e.player in
    let h = only-take (ltb 15 e.player) (same_number l e.number) (same_request l e.request) (in_line l e.number)
    (timely b.time e.time) g in
    let n = in-line l e.number h.1.0 in
    let t = row-passed (leb b.time e.time) (leb e.time latest_time ∷ []) h.1.1 in
    record {
      player = omega (arith, ltb-false 15 e.player h.0);
      number = n.0;
      fits = omega (arith, n.1);
      later = leb-true _ _ t.0;
      early = leb-true _ _ t.1.0;
    }

request-legal : (r : Request) → request_legal (operation_number r) (request_asset r) (request_kind r) ≡ true
unfolding request_legal
request-legal (Begin Play asset) = refl
request-legal (Begin Display asset) = refl
request-legal (Begin Execute asset) = refl
request-legal (Begin Print asset) = refl
request-legal (Begin Export asset) = refl
request-legal Continue = refl
request-legal Stop = refl
request-legal Cancel = refl

-- ## Numbers that fit

counted-fits : {f : Bool} {z v k : ℕ} → Counted f z v k → z < 4294967296 → v < 4294967296
counted-fits {f} c h = on_test f (λ q. omega (arith, c.within q)) (λ q. omega (arith, c.unused q))

-- meters that obey the rules fit if the limits do
meters-fit : (T : ℕ) (l : Limits) (m m' : Meters) {k s x : ℕ} → T ≤ latest_time → x < 65536 → MeterOk T l m' k s x
    → Fit (entry_widths newest) (entry_values newest (record { limits = l; meters = m }))
    → Fit (entry_widths newest) (entry_values newest (record { limits = l; meters = m' }))
meters-fit T l m m' h z w fits =
    let f = fits.1.1.1.1 in
    omega (
      arith,
      fits,
      counted-fits w.count f.0,
      counted-fits w.timed f.1.0,
      counted-fits w.seconds
          f.1.1.1.1.1.1.0,
      w.past,
      w.mark,
      w.marks,
    )

code_fits : (c : ℕ) → taken_code c ≡ true → c < 256
unfolding taken_code
code_fits c e =
    on_test (eqb c 0)
    (λ q. omega (arith, eqb-true c 0 q))
    (λ q. on_test (between 10 15 c)
    (λ r. omega (arith, leb-true c 15 (and_right (leb 10 c) (leb c 15) r)))
    (λ r. omega (arith, leb-true c 44 (and_right (leb 43 c) (leb c 44) (rw (q, r) at e)))))

entry-fits : (T n : ℕ) (a : Answer) → n ≤ 64 → AnswerOk T n a → a.entry < 256
entry-fits T n a k h =
    on_test (eqb a.code 0)
    (λ q. omega (arith, h.grants q))
    (λ q. omega (arith, (h.refuses q).0))

operation-fits : (r : Request) → operation_number r < 256
operation-fits (Begin kind asset) = omega arith
operation-fits Continue = omega arith
operation-fits Stop = omega arith
operation-fits Cancel = omega arith

kind_fits : (r : Request) → request_kind r < 256
kind_fits (Begin Play asset) = omega arith
kind_fits (Begin Display asset) = omega arith
kind_fits (Begin Execute asset) = omega arith
kind_fits (Begin Print asset) = omega arith
kind_fits (Begin Export asset) = omega arith
kind_fits Continue = omega arith
kind_fits Stop = omega arith
kind_fits Cancel = omega arith

record OpenFits (o : Open) : Type 0 where
  on : o.on < 256
  entry : o.entry < 256
  begin : o.begin < 4294967296
  until : o.until < 4294967296
  content : o.content < 4294967296

record LastFits (l : Last) : Type 0 where
  number : l.number < 18446744073709551616
  operation : l.operation < 256
  asset : l.asset < 65536
  kind : l.kind < 256
  code : l.answer.code < 256
  entry : l.answer.entry < 256
  until : l.answer.until < 4294967296

last_fits : (x : Player) → Fit (player_widths newest) (player_values x) → LastFits x.last
last_fits x (number, (operation, (asset, (kind, (code, (entry, (until, rest))))))) = record {
  number = number;
  operation = operation;
  asset = asset;
  kind = kind;
  code = code;
  entry = entry;
  until = until;
}

player-fits : (x : Player) {l : Last} → l ≡ x.last → OpenFits x.current → LastFits l → Fit (player_widths newest) (player_values x)
player-fits x e o h =
    let l = subst LastFits e h in (
      l.number,
      (
        l.operation,
        (
          l.asset,
          (
            l.kind,
            (
              l.code,
              (
                l.entry,
                (
                  l.until,
                  (
                    o.on,
                    (
                      o.entry,
                      (
                        o.begin,
                        (
                          o.until,
                          (o.content, tt),
                        ),
                      ),
                    ),
                  ),
                ),
              ),
            ),
          ),
        ),
      ),
    )

open-fits : (T n : ℕ) (lim : ℕ → Limits) (met : ℕ → Meters) (o : Open) → n ≤ 64 → T ≤ latest_time → OpenOk T n lim met o
    → (is_on o ≡ true → o.content < 4294967296) → OpenFits o
open-fits T n lim met o k h w c =
    on_test (is_on o)
    (λ q.
    let u = w.runs q in
    record {
      on = omega (arith, eqb-true o.on 1 q);
      entry = omega (arith, u.entry);
      begin = omega (arith, u.begun);
      until = omega (arith, u.near, grant-most (lim o.entry).kind);
      content = c q;
    })
    (λ q. subst OpenFits (sym (w.shut q))
    (record { on = omega arith; entry = omega arith; begin = omega arith; until = omega arith; content = omega arith }))

-- a use that settling leaves open is unchanged
kept_on : (T : ℕ) (o : Open) → is_on (shut_o T o) ≡ true → shut_o T o ≡ o
unfolding expired
kept_on T o = on_test (expired T o) (λ x. rw x (λ on. clash on refl)) (λ x. rw x (λ on. refl))

module _ (b : Book) (e : Event) (h : Legal b) (t : Passed b e) where
  abbrev T : ℕ
  T = e.time

  abbrev ps : List Player
  ps = map (shut T) b.players

  abbrev es : List Entry
  es = settled T b.players b.entries

  -- what is known of the event taken last
  abbrev recent : Recent
  recent = recent_of b.latest e.player (last_at b.players e.player) (open_at ps e.player)

  abbrev did : Done
  did = done e.request (catalog_of b) es (open_at ps e.player) (asks b e) recent

  abbrev asker : Player
  asker = record { last = noted e did.answer; current = did.current }

  abbrev new : Book
  new = changed b T (latest_by e did.started) did.entries (set ps e.player asker)

  room : entries_in b ≤ 64
  unfolding entries_in
  room = omega arith

  -- when it is player p's turn to be settled
  pub turn-sound : (p : ℕ) → p ≤ 16 → Sound T (entries_in b) (limits_at (settled T (take p b.players) b.entries))
      (meters_at (settled T (take p b.players) b.entries)) (stage T (open_at b.players) p)
  turn-sound p k =
      let r = turn-part b.time T (entries_in b) b.entries b.players room t.later h.entry_slots h.player_slots
      (sound-of b h) p k in
      rw (fun_ext r.limits) r.sound

  before : Effect T (entries_in b) (limits_at b.entries) es (open_at ps)
  before =
      settled-part b.time T (entries_in b) b.entries b.players room t.later h.entry_slots h.player_slots (sound-of b h)
      (λ p k. ap (λ (x : Player). x.current) (no-player b h p k))

  pub settled-sound : Sound T (entries_in b) (limits_at es) (meters_at es) (open_at ps)
  settled-sound = rw (fun_ext before.limits) before.sound

  -- the contents of the open uses, before and after settling
  old-named : (p : ℕ) → Named (in_book b) (limits_at b.entries) (open_at b.players p)
  old-named p = below_or_not p 16
      (λ k. player-named b (player_at b.players p) ((stages-from b h.rules).players p k))
      (λ k on. clash on (ap (λ (x : Player). is_on x.current) (no-player b h p k)))

  settled-named : (p : ℕ) → Named (in_book b) (limits_at es) (open_at ps p)
  settled-named p = rw (shut_open T b.players p)
      (on_test (expired T (open_at b.players p))
      (λ x. rw x (λ on. clash on refl))
      (λ x. rw x (λ on. rw (before.limits (open_at b.players p).entry) (old-named p on))))

  still-on : (p : ℕ) → is_on (open_at ps p) ≡ true → open_at ps p ≡ open_at b.players p
  still-on p on =
      let x = shut_open T b.players p in
      x ∙ kept_on T (open_at b.players p) (ap is_on (sym x) ∙ on)

  -- rule 26 of the book before: the use that its header says to have started an interval is its entry's only open one
  only_then : recent.begun ≡ true → recent.started ≡ true →
      uses_of (open_at b.players) (open_at b.players e.player).entry ≡ 1
  unfolding just_begun latest_passes open_uses
  only_then m w =
      let k = eqb-true b.latest.player (e.player + 1)
      (row-passed (eqb b.latest.player (e.player + 1)) (_ ∷ _ ∷ _ ∷ _ ∷ []) m).0 in
      let z : b.latest.player - 1 ≡ e.player = omega (arith, k) in
      let u = started-tests b.latest _ _ (latest_player b) (stages-from b h.rules).latest w in
      eqb-true (uses_of (open_at b.players) (open_at b.players e.player).entry) 1
      (subst (λ (p : ℕ). eqb (uses_of (open_at b.players) (open_at b.players p).entry) 1 ≡ true) z u.1.1.1.0)

  -- and so it is after settling
  alone : is_on (open_at ps e.player) ≡ true → recent.begun ≡ true → recent.started ≡ true → Alone (open_at ps) e.player
  alone on m w q d oq same =
      let x = still-on e.player on in
      let y = still-on q oq in
      below_or_not q 16
      (λ ql. only-alone (open_at b.players) e.player t.player (ap is_on (sym x) ∙ on) (only_then m w) q ql d (ap is_on (sym y) ∙ oq)
      (ap (λ (o : Open). o.entry) (sym y) ∙ same ∙ ap (λ (o : Open). o.entry) x))
      (λ ql. clash (ap is_on (sym y) ∙ oq) (ap (λ (z : Player). is_on z.current) (no-player b h q ql)))

  did-ok : DoneOk (in_book b) T (entries_in b) e.player (limits_at es) (open_at ps) did
  unfolding catalog_of entries_legal usable holds in_book
  did-ok =
      done_ok (asks b e) room es before.slots
      settled-sound
      (settled-live T b.players) t.player
      (in_book b) settled-named
      (catalog_of b) refl (λ asset u. and_left (holds (catalog_of b) asset) _ u) e.request recent alone

  limits-kept : (i : ℕ) → limits_at new.entries i ≡ limits_at b.entries i
  limits-kept i = did-ok.part.limits i ∙ before.limits i

  slots : length ps ≡ 16
  slots = length-map b.players (shut T) ∙ h.player_slots

  own-slot : e.player < length ps
  own-slot = omega (arith, slots, t.player)

  opens_kept : (p : ℕ) → open_at new.players p ≡ upd e.player did.current (open_at ps) p
  opens_kept = store-open e.player asker ps own-slot

  own_open : open_at new.players e.player ≡ did.current
  own_open = opens_kept e.player ∙ upd_same e.player did.current (open_at ps)

  other-open : (p : ℕ) → (p ≡ e.player → ⊥) → open_at new.players p ≡ open_at ps p
  other-open p x = opens_kept p ∙ upd_other e.player did.current (open_at ps) p x

  new-sound : Sound T (entries_in b) (limits_at new.entries) (meters_at new.entries) (open_at new.players)
  new-sound = rw (fun_ext did-ok.part.limits, fun_ext opens_kept) did-ok.part.sound

  new-live : Live T (open_at new.players)
  new-live p =
      on_same p e.player
      (λ x. subst (λ (o : Open). is_on o ≡ true → T < o.until) (sym (ap (open_at new.players) x ∙ own_open)) did-ok.live)
      (λ x. subst (λ (o : Open). is_on o ≡ true → T < o.until) (sym (other-open p x)) (settled-live T b.players p))

  new-named : (p : ℕ) → Named (in_book b) (limits_at new.entries) (open_at new.players p)
  new-named p = rw (fun_ext did-ok.part.limits)
      (on_same p e.player
      (λ x. subst (Named (in_book b) (limits_at es)) (sym (ap (open_at new.players) x ∙ own_open)) did-ok.named)
      (λ x. subst (Named (in_book b) (limits_at es)) (sym (other-open p x)) (settled-named p)))

  new-open : (p : ℕ) → open_passes new (open_at new.players p) ≡ true
  unfolding entries_in in_book assets_in
  new-open p = open-to new (open_at new.players p) (new-sound.opens p) (new-live p) (new-named p)

  -- ## The players' records

  own-record : (p : ℕ) → p ≡ e.player → player_at new.players p ≡ asker
  own-record p x = ap (player_at new.players) x ∙ get_or-set_same ps e.player asker no_player own-slot

  other-record : (p : ℕ) → (p ≡ e.player → ⊥) → player_at new.players p ≡ shut T (player_at b.players p)
  other-record p x = get_or-set_other ps e.player p asker no_player x ∙ shut_at T b.players p

  answer-legal : answer_legal (entries_in new) did.answer ≡ true
  unfolding answer_legal entries_in
  answer-legal =
      let a = did-ok.answer in
      and_both a.code
      (on_test (eqb did.answer.code 0)
      (λ q. cond-on (eqb did.answer.code 0) _ _ q ∙ lt-ltb _ _ (a.grants q))
      (λ q. cond-off (eqb did.answer.code 0) _ _ q ∙ and_both (eq-eqb _ _ (a.refuses q).0) (eq-eqb _ _ (a.refuses q).1)))

  own-legal : player_passes new asker ≡ true
  own-legal =
      player-to new asker
      (λ q. absurd (omega (arith, eqb-true e.number 0 q, t.number)))
      (λ q. (request-legal e.request, answer-legal))
      (subst (λ (o : Open). open_passes new o ≡ true) own_open (new-open e.player))

  other-legal : (p : ℕ) → p < 16 → (p ≡ e.player → ⊥) → player_passes new (shut T (player_at b.players p)) ≡ true
  unfolding shut expired answer_legal entries_in
  other-legal p k x =
      let y : Player = player_at b.players p in
      let l = (stages-from b h.rules).players p k in
      player-to new (shut T y)
      (λ q. ap (λ (o : Open). player_blank (record { last = y.last; current = o })) (still y (blank-current y (unused-from b y q l))) ∙
      unused-from b y q l)
      (λ q. ((used-from b y q l).0, (used-from b y q l).1.0))
      (subst (λ (o : Open). open_passes new o ≡ true) (other-open p x ∙ shut_open T b.players p) (new-open p))
    where
      still : (y : Player) → y.current ≡ closed → shut_o T y.current ≡ y.current
      still y c = ap (shut_o T) c ∙ sym c

  players-legal : (p : ℕ) → p < 16 → player_passes new (player_at new.players p) ≡ true
  players-legal p k =
      on_same p e.player
      (λ x. subst (λ (y : Player). player_passes new y ≡ true) (sym (own-record p x)) own-legal)
      (λ x. subst (λ (y : Player). player_passes new y ≡ true) (sym (other-record p x)) (other-legal p k x))

  -- ## The event taken last

  latest-is : latest_player new ≡ asker
  latest-is = let z : e.player + 1 - 1 ≡ e.player = omega arith in own-record (e.player + 1 - 1) z

  -- what rule 26 asks of a use that started an interval
  started-legal : did.started ≡ true → started_legal (open_uses new.players did.current.entry) (get_or new.entries
      did.current.entry no_entry) did.current ≡ true
  unfolding started_legal open_uses
  started-legal q =
      let m = did-ok.starts q in
      and_both (and_both (and_both
      m.on
      (ap (flagged 16) (did-ok.part.limits did.current.entry) ∙ m.interval))
      (eq-eqb _ _ m.first))
      (eq-eqb _ _ (ap (λ (g : ℕ → Open). uses_of g did.current.entry) (fun_ext opens_kept) ∙ m.only))

  latest-legal : latest_passes new ≡ true
  unfolding latest_passes latest_legal
  latest-legal =
      let z : eqb (e.player + 1) 0 ≡ false = ne_eqb (e.player + 1) 0 (λ z. omega arith) in
      let n : eqb e.number 0 ≡ false = ne_eqb e.number 0 (λ z. omega (arith, t.number)) in
      rw latest-is
      (and_both (and_both (and_both
      (le-leb (e.player + 1) 16 (omega (arith, t.player)))
      (rw (z, n)))
      (le-leb (one did.started) 1 (one-le did.started)))
      (on_test did.started (λ q. rw (q, z) (started-legal q)) (λ q. rw q)))

  -- ## The stages

  new-stages : Stages new
  unfolding assets_legal asset_legal assets_in entries_legal limits_legal in_book entries_in open_uses open_seconds marks_of switch_legal
  new-stages =
      let s = stages-from b h.rules in
      record {
        assets = s.assets;
        switch = s.switch;
        entries = all_of (λ i. lawful_in new (limits_at new.entries i)) (entries_in new)
            (λ i k. subst (λ (l : Limits). lawful_in b l ≡ true) (sym (limits-kept i))
            (all-below (λ j. lawful_in b (limits_at b.entries j)) (entries_in b) s.entries i k));
        players = players-legal;
        latest = latest-legal;
        meters = λ i k. meter-to new i (new-sound.meters i k);
      }

  new-legal : Legal new
  new-legal = record {
    asset_slots = h.asset_slots;
    entry_slots = did-ok.part.slots;
    player_slots = length-set ps e.player _ ∙ slots;
    asset_count = h.asset_count;
    entry_count = h.entry_count;
    time = t.early;
    assets_blank = h.assets_blank;
    entries_blank = λ i k.
        let l : limits_at new.entries i ≡ no_entry.limits = limits-kept i ∙ ap (λ (x : Entry). x.limits) (h.entries_blank i k) in
        let m : meters_at new.entries i ≡ no_entry.meters = new-sound.blank i (omega (arith, entries-counted b h)) in
        λ j. record { limits = l j; meters = m j };
    rules = stages-to new new-stages;
  }

  module _ (y : Typed b) (f : Fits e) where
    entries-typed : (i : ℕ) → Fit (entry_widths newest) (entry_values newest (get_or new.entries i no_entry))
    unfolding entries_in
    entries-typed i =
        below_or_not i (entries_in b)
        (λ k.
        meters-fit T (limits_at new.entries i) (meters_at b.entries i) (meters_at new.entries i) t.early
        (mask_fits (λ p. opens i (open_at new.players p)) 16) (new-sound.meters i k)
        (subst (λ (x : Limits). Fit (entry_widths newest) (entry_values newest (record { limits = x; meters = meters_at b.entries i })))
        (sym (limits-kept i)) (y.entries i)))
        (λ k. subst (λ (x : Entry). Fit (entry_widths newest) (entry_values newest x))
        (sym (new-legal.entries_blank i (omega (arith, entries-counted b h)))) (omega arith))

    -- a content is an asset's number, or 0
    content-fits : (p : ℕ) → is_on (open_at new.players p) ≡ true → (open_at new.players p).content < 4294967296
    unfolding content_legal
    content-fits p on =
        let o = open_at new.players p in
        on_test (in_book b o.content)
        (λ q. let z = in-book b o.content q in
        omega (arith, z.1, (y.assets (asset_position b.assets (assets_in b) o.content)).0))
        (λ q. omega (arith, eqb-true o.content 0 (and_left (eqb o.content 0) _ (rw q at (new-named p on)))))

    players-typed : (p : ℕ) → Fit (player_widths newest) (player_values (player_at new.players p))
    unfolding shut
    players-typed p =
        let o = open-fits T (entries_in b) (limits_at new.entries) (meters_at new.entries) (open_at new.players p) room t.early
        (new-sound.opens p) (content-fits p) in
        on_same p e.player
        (λ x. player-fits (player_at new.players p) (sym (ap (λ (z : Player). z.last) (own-record p x))) o own-fits)
        (λ x. player-fits (player_at new.players p) (sym (ap (λ (z : Player). z.last) (other-record p x))) o
        (last_fits (player_at b.players p) (y.players p)))
      where
        own-fits : LastFits (noted e did.answer)
        own-fits = record {
          number = t.fits;
          operation = operation-fits e.request;
          asset = f;
          kind = kind_fits e.request;
          code = code_fits did.answer.code did-ok.answer.code;
          entry = entry-fits T (entries_in b) did.answer room did-ok.answer;
          until = omega (arith, did-ok.answer.near, t.early);
        }

    header-typed : Fit (header_tail newest) (tail_values new)
    header-typed = omega (arith, y.header.0, t.player, one-le did.started)

    new-typed : Typed new
    new-typed = record { header = header-typed; assets = y.assets; entries = entries-typed; players = players-typed }

-- ## The claims

-- the book after an event is the book before it, or the one that a taken event leaves
on_step : (P : Book → Type 0) (b : Book) (e : Event) → P b → (Passed b e → P (taken_step b e).book) → P (step b e).book
unfolding step step_by
on_step P b e same taken = go (gate b.time (last_at b.players e.player) e) refl
  where
    go : (g : Gate) → gate b.time (last_at b.players e.player) e ≡ g → P (step_by g b e).book
    go (Refuse code) q = same
    go Resend q = same
    go Take q = taken (gate-passed b e q)

pub step-legal : (b : Book) (e : Event) → Legal b → Legal (step b e).book
unfolding taken_step
step-legal b e h = on_step Legal b e h (λ t. new-legal b e h t)

pub step_typed_lem : (b : Book) (e : Event) → Legal b → Typed b → Fits e → Typed (step b e).book
unfolding taken_step
step_typed_lem b e h y f = on_step Typed b e y (λ t. new-typed b e h t y f)

pub arrive-legal : (b : Book) (d : Decoded) → Legal b → Legal (arrive b d).book
unfolding arrive
arrive-legal b (Invalid code) h = h
arrive-legal b (Valid e) h = step-legal b e h

pub arrive-typed : (b : Book) (d : Decoded) → Legal b → Typed b → FitsRead d → Typed (arrive b d).book
unfolding arrive
arrive-typed b (Invalid code) h y f = y
arrive-typed b (Valid e) h y f = step_typed_lem b e h y f

pub receive-legal : (b : Book) (x : Arrival) → Legal b → Legal (receive b x).book
unfolding receive
receive-legal b x h = arrive-legal b (admitted b x) h

pub receive-typed : (b : Book) (x : Arrival) → Legal b → Typed b → FitsRead x.event → Typed (receive b x).book
unfolding receive admitted
receive-typed b x h y f =
    arrive-typed b (admitted b x) h y (on_test (good b x.lines) (λ q. rw q f) (λ q. rw q tt))

final-legal : (b : Book) (xs : List Arrival) → Legal b → Legal (final b xs)
unfolding final
final-legal b [] h = h
final-legal b (x ∷ xs) h = final-legal (receive b x).book xs (receive-legal b x h)

-- what is read from bytes fits
decoded-fits : (s : List ℕ) → Bytes s → FitsRead (decoded s)
unfolding decoded event_in request_of
decoded-fits s b =
    on_test (eqb (length s) (size record_widths))
    (λ p. rw p
    (on_test (ltb 15 (record_field 0 s))
    (λ q. rw q tt)
    (λ q. rw q
    (on_test (request_legal (record_field 2 s) (record_field 3 s) (record_field 4 s))
    (λ r. rw r (asset-fits (eqb (record_field 2 s) 1) (eqb (record_field 2 s) 2) (eqb (record_field 2 s) 3)))
    (λ r. rw r tt)))))
    (λ p. rw p tt)
  where
    asset-fits : (x z w : Bool)
        → request_asset (cond x (Begin (kind_of (record_field 4 s)) (record_field 3 s)) (cond z Continue (cond w Stop Cancel))) < 65536
    asset-fits true z w = number_fits bits16 10 s b
    asset-fits false true w = omega arith
    asset-fits false false true = omega arith
    asset-fits false false false = omega arith

survives : (b : Book) → Legal b → Typed b → Survives b
survives b h y = record { accepted = (demand2.reads_back b b h y).0; same = λ held. (demand2.reads_back held b h y).1 }

handed-same : (r : Option Book) (b : Book) → Legal b → Typed b → handed_on r b ≡ b
unfolding handed_on
handed-same none b h y = refl
handed-same (some held) b h y = (survives b h y).same held

same-answers : (b : Book) (ts : List Turn) → Legal b → Typed b → AllFit ts → saved_answers b ts ≡ answers b (map event_of ts)
unfolding saved_answers answers
same-answers b [] h y f = refl
same-answers b (t ∷ ts) h y (f, fs) =
    let next : Book = (receive b t.event).book in
    let l : Legal next = receive-legal b t.event h in
    let w : Typed next = receive-typed b t.event h y f in
    ap (λ (rs : List Answer). (receive b t.event).answer ∷ rs)
    (ap (λ (x : Book). saved_answers x ts) (handed-same t.rereader next l w) ∙ same-answers next ts l w fs)

same-final : (b : Book) (ts : List Turn) → Legal b → Typed b → AllFit ts → saved_final b ts ≡ final b (map event_of ts)
unfolding saved_final final
same-final b [] h y f = refl
same-final b (t ∷ ts) h y (f, fs) =
    let next : Book = (receive b t.event).book in
    let l : Legal next = receive-legal b t.event h in
    let w : Typed next = receive-typed b t.event h y f in
    ap (λ (x : Book). saved_final x ts) (handed-same t.rereader next l w) ∙ same-final next ts l w fs

pub saved : Saved
saved = record {
  step_legal = step-legal;
  arrive_legal = arrive-legal;
  receive_legal = receive-legal;
  final_legal = final-legal;
  step_typed = step_typed_lem;
  decoded_fits = decoded-fits;
  step_survives = λ b e h y f. survives (step b e).book (step-legal b e h) (step_typed_lem b e h y f);
  record_survives = λ b ls s h y k. survives (receive b (lent ls s)).book (receive-legal b (lent ls s) h)
      (receive-typed b (lent ls s) h y (decoded-fits s k));
  same_answers = same-answers;
  same_final = same-final;
}

-- Begin, continue, stop and cancel on one entry and the asking player's use, and the laws that make them a step of the model.
-- They are total: what a 32-bit number cannot hold does not arise, since a time that no event has is refused here too.
use Rattle.std.specs.Prelude.{ℕ, ◌≤◌, ◌≡◌, refl, Bool, true, false, not, ◌&&◌, cond, List, set, leb}
use Rattle.std.proofs.Common.{ap, le-leb}
use Rattle.std.proofs.lemmas.List.{set-get_or}
use Rattle.book.specs.declared.Ask.{Ask}
use Rattle.book.specs.declared.Limits.{Limits}
use Rattle.book.specs.declared.Meters.{Meters}
use Rattle.book.specs.declared.Entry.{Entry}
use Rattle.book.specs.declared.Open.{Open}
use Rattle.book.specs.declared.Recent.{Recent}
use Rattle.book.specs.Blank.{no_entry, closed}
use Rattle.model.specs.Book.{limits_at, meters_at, latest_time, momentary}
use Rattle.model.specs.Step.{Done, refusal, unchanged, starts_interval, granted, do_continue, more, do_stop}
use Rattle.model.specs.Step.{taken_back, do_cancel}
use Rattle.model.specs.Choice.{chosen, grantable, grant_until, more_until}
use Rattle.model.specs.Meters.{is_on, begun, continued, ended, cancelled, amend, expired, released}
use Rattle.uses.specs.declared.Effect.{Effect}

-- a refusal that leaves both as they are
abbrev pub kept : ℕ → Meters → Open → Effect
kept code m o = record { answer = refusal code; meters = m; current = o; started = false }

-- what a begin for an asset leaves of entry i
abbrev pub begun_on : ℕ → ℕ → Ask → Limits → Meters → Open → Effect
begun_on i asset ask l m o = record {
  answer = record { code = 0; entry = i; until = grant_until ask.time l m };
  meters = begun ask.player ask.time (grant_until ask.time l m) l m;
  current = cond (momentary l.kind) o
      (record { on = 1; entry = i; begin = ask.time; until = grant_until ask.time l m; content = asset });
  started = starts_interval l m;
}

-- a begin on entry i
unfoldable pub begin_on : ℕ → ℕ → Ask → Limits → Meters → Open → Effect
begin_on i asset ask l m o = cond (grantable ask l m && leb ask.time latest_time) (begun_on i asset ask l m o) (kept 13 m o)

-- whether a continue at t gets more time
abbrev pub lengthens : ℕ → Limits → Meters → Open → Bool
lengthens t l m o = leb t latest_time && not (leb (more_until t o.until l m) o.until)

unfoldable pub continue_on : ℕ → Limits → Meters → Open → Effect
continue_on t l m o =
    cond (not (is_on o)) (kept 14 m o)
    (cond (not (lengthens t l m o)) (kept 15 m o)
    (record {
      answer = record { code = 0; entry = o.entry; until = more_until t o.until l m };
      meters = continued o.until (more_until t o.until l m) l m;
      current = record { on = 1; entry = o.entry; begin = o.begin; until = more_until t o.until l m; content = o.content };
      started = false;
    }))

unfoldable pub stop_on : ℕ → ℕ → Limits → Meters → Open → Effect
stop_on p t l m o =
    cond (not (is_on o)) (kept 14 m o)
    (record {
      answer = record { code = 0; entry = o.entry; until = t };
      meters = ended p o.begin o.until t l m;
      current = closed;
      started = false;
    })

-- a cancel, by what is known of the event taken last
unfoldable pub cancel_on : ℕ → Recent → Limits → Meters → Open → Effect
cancel_on p r l m o =
    cond (not (is_on o)) (kept 14 m o)
    (cond (not r.begun) (kept 44 m o)
    (record {
      answer = record { code = 0; entry = o.entry; until = o.begin };
      meters = cancelled p r o.begin o.until l m;
      current = closed;
      started = false;
    }))

-- the meters of the entry of player p's use, settled at t
unfoldable pub released_on : ℕ → ℕ → Limits → Meters → Open → Meters
released_on p t l m o = cond (expired t o) (ended p o.begin o.until o.until l m) m

-- ## Put back into the entries

-- the meters of entry i become m
unfoldable pub stored : ℕ → Meters → List Entry → List Entry
stored i m es = set es i (record { limits = limits_at es i; meters = m })

-- what an operation on entry i leaves
unfoldable pub placed : ℕ → Effect → List Entry → Done
placed i p es = record { answer = p.answer; entries = stored i p.meters es; current = p.current; started = p.started }

pub stored_same : (i : ℕ) (es : List Entry) → stored i (meters_at es i) es ≡ es
unfolding stored
stored_same i es = set-get_or es i no_entry

kept-placed : (i code : ℕ) (es : List Entry) (o : Open) → placed i (kept code (meters_at es i) o) es ≡ unchanged code es o
unfolding placed
kept-placed i code es o = ap (λ (x : List Entry). unchanged code x o) (stored_same i es)

-- a grantable entry, at a time that an event may have
pub begin-on-granted :
    (i asset : ℕ) (ask : Ask) (l : Limits) (m : Meters) (o : Open) →
    grantable ask l m ≡ true →
    ask.time ≤ latest_time →
    begin_on i asset ask l m o ≡ begun_on i asset ask l m o
unfolding begin_on
begin-on-granted i asset ask l m o g h = rw (g, le-leb ask.time latest_time h)

pub begin-placed :
    (i asset none : ℕ) (ask : Ask) (es : List Entry) (o : Open) →
    grantable ask (limits_at es i) (meters_at es i) ≡ true →
    ask.time ≤ latest_time →
    placed i (begin_on i asset ask (limits_at es i) (meters_at es i) o) es ≡ granted none ask asset es o (chosen i)
unfolding placed stored amend
begin-placed i asset none ask es o g h = rw (begin-on-granted i asset ask (limits_at es i) (meters_at es i) o g h)

continue-cases :
    (on some : Bool) (t : ℕ) (es : List Entry) (o : Open) →
    placed o.entry
    (cond (not on) (kept 14 (meters_at es o.entry) o)
    (cond (not (true && not some)) (kept 15 (meters_at es o.entry) o)
    (record {
      answer = record { code = 0; entry = o.entry; until = more es o t };
      meters = continued o.until (more es o t) (limits_at es o.entry) (meters_at es o.entry);
      current = record { on = 1; entry = o.entry; begin = o.begin; until = more es o t; content = o.content };
      started = false;
    })))
    es
    ≡ cond (not on) (unchanged 14 es o)
    (cond some (unchanged 15 es o)
    (record {
      answer = record { code = 0; entry = o.entry; until = more es o t };
      entries = amend o.entry (continued o.until (more es o t)) es;
      current = record { on = 1; entry = o.entry; begin = o.begin; until = more es o t; content = o.content };
      started = false;
    }))
unfolding placed stored amend
continue-cases false some t es o = kept-placed o.entry 14 es o
continue-cases true true t es o = kept-placed o.entry 15 es o
continue-cases true false t es o = refl

pub continue-placed :
    (t : ℕ) (es : List Entry) (o : Open) →
    t ≤ latest_time →
    placed o.entry (continue_on t (limits_at es o.entry) (meters_at es o.entry) o) es ≡ do_continue es o t
unfolding continue_on do_continue
continue-placed t es o h = rw (le-leb t latest_time h) (continue-cases (is_on o) (leb (more es o t) o.until) t es o)

stop-cases :
    (on : Bool) (ask : Ask) (es : List Entry) (o : Open) →
    placed o.entry
    (cond (not on) (kept 14 (meters_at es o.entry) o)
    (record {
      answer = record { code = 0; entry = o.entry; until = ask.time };
      meters = ended ask.player o.begin o.until ask.time (limits_at es o.entry) (meters_at es o.entry);
      current = closed;
      started = false;
    }))
    es
    ≡ cond (not on) (unchanged 14 es o)
    (record {
      answer = record { code = 0; entry = o.entry; until = ask.time };
      entries = amend o.entry (ended ask.player o.begin o.until ask.time) es;
      current = closed;
      started = false;
    })
unfolding placed stored amend
stop-cases false ask es o = ap (λ (x : List Entry). unchanged 14 x o) (stored_same o.entry es)
stop-cases true ask es o = refl

pub stop-placed :
    (ask : Ask) (es : List Entry) (o : Open) →
    placed o.entry (stop_on ask.player ask.time (limits_at es o.entry) (meters_at es o.entry) o) es ≡ do_stop es o ask
unfolding stop_on do_stop
stop-placed ask es o = stop-cases (is_on o) ask es o

cancel-cases :
    (on begun : Bool) (p : ℕ) (r : Recent) (es : List Entry) (o : Open) →
    placed o.entry
    (cond (not on) (kept 14 (meters_at es o.entry) o)
    (cond (not begun) (kept 44 (meters_at es o.entry) o)
    (record {
      answer = record { code = 0; entry = o.entry; until = o.begin };
      meters = cancelled p r o.begin o.until (limits_at es o.entry) (meters_at es o.entry);
      current = closed;
      started = false;
    })))
    es
    ≡ cond (not on) (unchanged 14 es o)
    (cond (not begun) (unchanged 44 es o)
    (taken_back p r es o))
unfolding placed stored amend
cancel-cases false begun p r es o = kept-placed o.entry 14 es o
cancel-cases true false p r es o = kept-placed o.entry 44 es o
cancel-cases true true p r es o = refl

pub cancel-placed :
    (p : ℕ) (r : Recent) (es : List Entry) (o : Open) →
    placed o.entry (cancel_on p r (limits_at es o.entry) (meters_at es o.entry) o) es ≡ do_cancel es o p r
unfolding cancel_on do_cancel
cancel-placed p r es o = cancel-cases (is_on o) r.begun p r es o

release-cases :
    (w : Bool) (p : ℕ) (es : List Entry) (o : Open) →
    stored o.entry (cond w (ended p o.begin o.until o.until (limits_at es o.entry) (meters_at es o.entry))
    (meters_at es o.entry)) es
    ≡ cond w (amend o.entry (ended p o.begin o.until o.until) es) es
unfolding stored amend
release-cases true p es o = refl
release-cases false p es o = set-get_or es o.entry no_entry

-- the settling of one use, by the meters of its entry
pub released-stored :
    (t p : ℕ) (es : List Entry) (o : Open) →
    stored o.entry (released_on p t (limits_at es o.entry) (meters_at es o.entry) o) es ≡ released t p o es
unfolding released_on released
released-stored t p es o = release-cases (expired t o) p es o

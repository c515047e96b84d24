-- The only ways in which an event changes an entry, and settling.
-- Document 01, section "Events". Quotations are that document's.
use Rattle.std.specs.Prelude.{ℕ, suc, ◌+◌, ◌-◌, Bool, true, false, ◌&&◌, cond, List, [], ◌∷◌, set, leb, ltb, eqb}
use Rattle.numbers.specs.Count.{one}
use Rattle.numbers.specs.Bits.{put_bit}
use Rattle.book.specs.declared.Limits.{Limits}
use Rattle.book.specs.declared.Meters.{Meters}
use Rattle.book.specs.declared.Entry.{Entry}
use Rattle.book.specs.declared.Open.{Open}
use Rattle.book.specs.declared.Recent.{Recent}
use Rattle.book.specs.declared.Player.{Player}
use Rattle.book.specs.Blank.{closed}
use Rattle.model.specs.Book.{limits_at, meters_at, flagged, momentary}
use Rattle.model.specs.Book.{count_flag, timed_flag, interval_flag, accumulated_flag}

-- ## The only ways in which an event changes an entry

-- the meters of entry i become g of its limits and meters
unfoldable pub amend : ℕ → (Limits → Meters → Meters) → List Entry → List Entry
amend i g es = set es i (record { limits = limits_at es i; meters = g (limits_at es i) (meters_at es i) })

-- v if the flag is set, otherwise 0: "A meter whose flag is missing stays 0."
abbrev pub where_flagged : Bool → ℕ → ℕ
where_flagged true v = v
where_flagged false v = 0

-- whether the interval has started
abbrev pub is_started : Meters → Bool
is_started m = eqb m.started 1

-- "first is t if not started"
abbrev pub interval_from : ℕ → Meters → ℕ
interval_from t m = cond (is_started m) m.first t

-- player p begins at t until u: "Used count and used timed rise by 1, used seconds by until − t, an interval starts."; order 7: "one mark
-- for each of the 16 players" who have it open, and of a momentary use "nothing opens"
unfoldable pub begun : ℕ → ℕ → ℕ → Limits → Meters → Meters
begun p t u l m = record {
  count = m.count + where_flagged (flagged count_flag l) 1;
  timed = m.timed + where_flagged (flagged timed_flag l) 1;
  first = where_flagged (flagged interval_flag l) (interval_from t m);
  seconds = m.seconds + where_flagged (flagged accumulated_flag l) (u - t);
  started = one (flagged interval_flag l);
  marks = cond (momentary l.kind) m.marks (put_bit p true m.marks);
}

-- continue from until u to v: "used seconds rise by the difference"
unfoldable pub continued : ℕ → ℕ → Limits → Meters → Meters
continued u v l m = record {
  count = m.count;
  timed = m.timed;
  first = m.first;
  seconds = m.seconds + where_flagged (flagged accumulated_flag l) (v - u);
  started = m.started;
  marks = m.marks;
}

-- order 7 of document 02: the mark goes with the use
abbrev pub unmarked : ℕ → Meters → ℕ
unmarked p m = put_bit p false m.marks

-- a use of player p that began at b, with its seconds counted until u, ends at e: "until − t seconds go back";
-- "When a use ends, however it ends, with end − begin < timer, its timed count goes back. A count never does."
unfoldable pub ended : ℕ → ℕ → ℕ → ℕ → Limits → Meters → Meters
ended p b u e l m = record {
  count = m.count;
  timed = m.timed - where_flagged (flagged timed_flag l && ltb (e - b) l.timer) 1;
  first = m.first;
  seconds = m.seconds - where_flagged (flagged accumulated_flag l) (u - e);
  started = m.started;
  marks = unmarked p m;
}

-- Player p's begin at b until u is taken back; r is what is known of it. Order 8 of document 02: "that begin's rises in count, timed count
-- and seconds are taken off, and the interval is unstarted if that begin started it"
unfoldable pub cancelled : ℕ → Recent → ℕ → ℕ → Limits → Meters → Meters
cancelled p r b u l m = record {
  count = m.count - where_flagged (flagged count_flag l) 1;
  timed = m.timed - where_flagged (flagged timed_flag l) 1;
  first = cond r.started 0 m.first;
  seconds = m.seconds - where_flagged (flagged accumulated_flag l) (u - b);
  started = cond r.started 0 m.started;
  marks = unmarked p m;
}

-- ## Settling

abbrev pub is_on : Open → Bool
is_on o = eqb o.on 1

-- "each open use of any player with until ≤ t ends at its until, players 0 to 15 in turn"
unfoldable pub expired : ℕ → Open → Bool
expired t o = is_on o && leb o.until t

-- "One player's record is settled on its own, the others untouched."
unfoldable pub shut : ℕ → Player → Player
shut t p = record { last = p.last; current = cond (expired t p.current) closed p.current }

-- the entries after player p's use is settled
unfoldable pub released : ℕ → ℕ → Open → List Entry → List Entry
released t p o es = cond (expired t o) (amend o.entry (ended p o.begin o.until o.until) es) es

-- the entries after the uses of the players from number p on are settled in turn
unfoldable pub settled_from : ℕ → ℕ → List Player → List Entry → List Entry
settled_from t p [] es = es
settled_from t p (x ∷ ps) es = settled_from t (suc p) ps (released t p x.current es)

-- the entries after all players' uses are settled
abbrev pub settled : ℕ → List Player → List Entry → List Entry
settled t ps es = settled_from t 0 ps es

-- An event with the list that it is lent: 30 for a list that is not good; with a good one, each line gains what the ledger's sums gain.
-- From zeros, with the lines handed on, the first lines are the ledger's sums.
use mathlib.Core.Path.{◌≡◌, refl, sym, ap, ap₂, ◌∙◌, fun_ext}
use Prim.Native.Nat.{ℕ, ◌+◌, ◌≤◌, ◌<◌, min}
use mathlib.Core.Bool.{Bool, true, false, not, ◌&&◌, or-true}
use mathlib.Core.List.{List, [], ◌∷◌}
use lib.ListN.{length}
use lib.Dec.{eqb}
use native.Mathlib.Omega.{arith}
use borrow.Author.Tests.{eq-eqb, ne_eqb}
use Rattle.book.specs.declared.Asset.{Asset}
use Rattle.book.specs.declared.Limits.{Limits}
use Rattle.book.specs.declared.Answer.{Answer}
use Rattle.book.specs.declared.Line.{Line}
use Rattle.book.specs.declared.Book.{Book}
use Rattle.book.specs.declared.Event.{Event}
use Rattle.book.specs.Decoded.{Decoded, Invalid, Valid}
use Rattle.book.specs.Gate.{Gate, Refuse, Resend, Take}
use Rattle.model.specs.Book.{asset_at, limits_at, assets_in, is_metered, latest_time}
use Rattle.model.specs.Gate.{gate}
use Rattle.model.specs.Step.{refusal, last_at, taken_step, step_by, step, arrive}
use Rattle.model.specs.Report.{line_at, good, sum64, raised, recorded_all, endings, lines_by, lines_read, Arrival, admitted, receive}
use Rattle.model.specs.Report.{lines_left}
use Rattle.model.specs.History.{handed, handed_lines}
use Rattle.model.specs.Ledger.{Account, resent, time_of, sum_of, note_arrival, note, report_times, report_seconds}
use Rattle.model.specs.Demand1.{GoodList}
use Rattle.model.specs.Demand3.{State, advance, after, starting, is_resend, Lent, times_by, seconds_by, content_of, Gains, FromZeros}
use Rattle.model.specs.Demand3.{Reported}
use Rattle.model.proofs.Ledger.Facts.{on_test, clash}
use Rattle.model.proofs.Ledger.Reports.{Value, times_of, seconds_of, weighs, total}
use Rattle.model.proofs.Ledger.WellFormed.{Static, static-self, static-trans, receive-static, formed-static}
use Rattle.model.proofs.Ledger.Steps.{Inv, gate-take, gate-refuse, gate-resend, resent-is, note-skip, bad-kept, receive-keeps}
use Rattle.model.proofs.Ledger.Steps.{taken-report}
use Rattle.model.proofs.Demand3.History.{advance-book, advance-keeps}
use Rattle.model.proofs.Demand3.Lines.{good-list, list-good, bad-list, all-size, all-further, all-content, all-off, all-at}
use Rattle.model.proofs.Demand3.Lines.{endings-brief, endings-few, total-times, total-seconds}

-- ## A list that is not good

state-path : {s t : State} → s.book ≡ t.book → s.account ≡ t.account → s ≡ t
state-path p q = λ i. record { book = p i; account = q i }

module _ (s : State) (x : Arrival) (bad : good s.book x.lines ≡ false) where
  pub bad-receive : receive s.book x ≡ record { answer = refusal 30; book = s.book }
  unfolding receive admitted arrive
  bad-receive = rw bad

  pub bad-lines : lines_left s.book x ≡ x.lines
  unfolding lines_left admitted lines_read
  bad-lines = rw bad

  bad-advance : advance s x ≡ s
  unfolding advance receive admitted arrive
  bad-advance = state-path (rw bad) (bad-kept s.book s.account x bad)

  bad-resend : is_resend s x ≡ false
  bad-resend = rw bad-receive

pub lent_of : (s : State) (x : Arrival) → Lent s x
unfolding receive admitted
lent_of s x = record {
  good = λ g. rw (list-good s.book x.lines g);
  bad = λ n. bad-receive s x (bad-list s.book x.lines n);
  noted = λ n. bad-advance s x (bad-list s.book x.lines n);
  lines = λ n. bad-lines s x (bad-list s.book x.lines n);
  resend = λ n. bad-resend s x (bad-list s.book x.lines n);
}

-- ## What an event does to its list

raised-times : (l : Limits) (seconds : ℕ) (x : Line) → (raised l seconds x).times ≡ sum64 x.times (times_of l seconds)
unfolding raised
raised-times l seconds x = refl

raised-seconds : (l : Limits) (seconds : ℕ) (x : Line) → (raised l seconds x).seconds ≡ sum64 x.seconds (seconds_of l seconds)
unfolding raised
raised-seconds l seconds x = refl

-- the list after it is `out`, and the state is `next`
record Made (s : State) (ls out : List Line) (next : State) : Type 0 where
  size : length out ≡ length ls
  contents : (k : ℕ) → (line_at out k).content ≡ (line_at ls k).content
  times : s.book.switch ≡ 1 → (k : ℕ) → k < assets_in s.book
      → (line_at out k).times + times_by s.book.entries s (content_of s.book k)
      ≡ (line_at ls k).times + times_by s.book.entries next (content_of s.book k)
  seconds : s.book.switch ≡ 1 → (k : ℕ) → k < assets_in s.book
      → (line_at out k).seconds + seconds_by s.book.entries s (content_of s.book k)
      ≡ (line_at ls k).seconds + seconds_by s.book.entries next (content_of s.book k)
  further : (k : ℕ) → assets_in s.book ≤ k → line_at out k ≡ line_at ls k
  off : s.book.switch ≡ 0 → out ≡ ls

made-gains : (s : State) (x : Arrival) → Made s x.lines (lines_left s.book x) (advance s x) → Gains s x
made-gains s x m = record {
  size = m.size;
  contents = m.contents;
  times = m.times;
  seconds = m.seconds;
  further = m.further;
  off = m.off;
}

-- nothing happens
made-same : (s : State) (ls : List Line) → Made s ls ls s
made-same s ls = record {
  size = refl;
  contents = λ k. refl;
  times = λ on k h. refl;
  seconds = λ on k h. refl;
  further = λ k h. refl;
  off = λ z. refl;
}

-- an event is taken
module _ (s : State) (h : Inv s.book s.account) (e : Event) (ls : List Line) (g : GoodList s.book ls)
    (q : gate s.book.time (last_at s.book.players e.player) e ≡ Take) where
  abbrev B : Book
  B = s.book

  abbrev next : State
  next = record { book = (taken_step B e).book; account = note s.account e (taken_step B e).answer }

  abbrev out : List Line
  out = recorded_all B ls (endings B e)

  few : length (endings B e) ≤ 17
  few = endings-few B e h.formed.players

  rises : (v : Value) (c : ℕ) → sum_of (weighs v (λ _. time_of next.account.taken) (limits_at B.entries) c)
      next.account.uses
      ≡ sum_of (weighs v (λ _. time_of s.account.taken) (limits_at B.entries) c) s.account.uses
      + total v (limits_at B.entries) c (endings B e)
  rises v c = taken-report B s.account e h (gate-take _ _ e q) v c

  made-taken : Made s ls out next
  made-taken = record {
    size = all-size B (endings B e) ls;
    contents = all-content B (endings B e) ls;
    times = λ on k kn.
        let c = content_of B k in
        omega (
          arith,
          all-at B h.formed (eq-eqb B.switch 1 on) (λ (x : Line). x.times) times_of raised-times k kn (endings B e) ls
              (omega (arith, g.enough)) (omega (arith, g.times k, few, total-times (limits_at B.entries) c (endings B e))),
          rises times_of c,
        );
    seconds = λ on k kn.
        let c = content_of B k in
        omega (
          arith,
          all-at B h.formed (eq-eqb B.switch 1 on) (λ (x : Line). x.seconds) seconds_of raised-seconds k kn (endings B e) ls
              (omega (arith, g.enough)) (omega (
                arith,
                g.seconds k,
                few,
                total-seconds (limits_at B.entries) c e.time (endings B e) (gate-take _ _ e q).early (endings-brief B e),
              )),
          rises seconds_of c,
        );
    further = all-further B (endings B e) ls;
    off = λ z. all-off B (ne_eqb B.switch 1 (λ w. omega arith)) (endings B e) ls;
  }

made-step : (s : State) → Inv s.book s.account → (d : Decoded) (ls : List Line) → GoodList s.book ls
    → Made s ls (lines_read s.book d ls) (record {
      book = (arrive s.book d).book;
      account = note_arrival s.account d (arrive
          s.book d).answer;
    })
unfolding lines_read lines_by arrive note_arrival step step_by
made-step s h (Invalid code) ls g = made-same s ls
made-step s h (Valid e) ls g = go (gate s.book.time (last_at s.book.players e.player) e) refl
  where
    go : (w : Gate) → gate s.book.time (last_at s.book.players e.player) e ≡ w
        → Made s ls (lines_by w s.book e ls)
        (record { book = (step_by w s.book e).book; account = note s.account e (step_by w s.book e).answer })
    go (Refuse code) q =
        rw (note-skip s.account e (refusal code) (rw (gate-refuse _ _ e code q) (or-true (resent s.account e)))) (made-same s ls)
    go Resend q =
        rw (note-skip s.account e (last_at s.book.players e.player).answer
        (rw (resent-is s.book s.account e h, gate-resend _ _ e q))) (made-same s ls)
    go Take q = made-taken s h e ls g q

pub gains-of : (s : State) (x : Arrival) → Inv s.book s.account → Gains s x
unfolding lines_left advance receive admitted
gains-of s x h =
    on_test (good s.book x.lines)
    (λ q. made-gains s x (rw q (made-step s h x.event x.lines (good-list s.book x.lines q))))
    (λ q. made-gains s x (rw (bad-lines s x q, bad-advance s x q) (made-same s x.lines)))

-- ## From zeros, the lines handed on

line-path : {x y : Line} → x.content ≡ y.content → x.times ≡ y.times → x.seconds ≡ y.seconds → x ≡ y
line-path p q r = λ i. record { content = p i; times = q i; seconds = r i }

assets-static : {b c : Book} → Static b c → assets_in c ≡ assets_in b
unfolding assets_in
assets-static s = ap (λ (n : ℕ). min n 64) s.assetcount

content-static : {b c : Book} → Static b c → (k : ℕ) → content_of c k ≡ content_of b k
content-static s k = ap (λ (l : List Asset). (asset_at l k).number) s.assets

-- what holds between two events: b is the fresh book, `zeros` its first list, ls the lines now
record Handed (b : Book) (zeros : List Line) (s : State) (ls : List Line) : Type 0 where
  static : Static b s.book
  inv : Inv s.book s.account
  first : b.switch ≡ 1 → (k : ℕ) → k < assets_in b
      → line_at ls k ≡ record {
        content = content_of b k;
        times = times_by b.entries s (content_of b k);
        seconds = seconds_by b.entries s (content_of b k);
      }
  further : (k : ℕ) → assets_in b ≤ k → line_at ls k ≡ line_at zeros k
  size : length ls ≡ length zeros
  off : b.switch ≡ 0 → ls ≡ zeros

handed-on : (b : Book) (zeros : List Line) (s : State) (x : Arrival) → Handed b zeros s x.lines
    → Handed b zeros (advance s x) (lines_left s.book x)
handed-on b zeros s x h =
    let st = h.static in
    let g : Gains s x = gains-of s x h.inv in
    record {
      static = rw (advance-book s x) (static-trans st (receive-static s.book x));
      inv = advance-keeps s x h.inv;
      first = λ on k kn.
          let now : s.book.switch ≡ 1 = st.switch ∙ on in
          let inside : k < assets_in s.book = omega (arith, assets-static st) in
          let was = h.first on k kn in
          let same : limits_at s.book.entries ≡ limits_at b.entries = fun_ext st.limits in
          let names : content_of s.book k ≡ content_of b k = content-static st k in
          line-path
          (g.contents k ∙ ap (λ (l : Line). l.content) was)
          (omega (
            arith,
            g.times now k inside,
            ap (λ (l : Line). l.times) was,
            ap₂ (λ f c. report_times (time_of s.account.taken) f c s.account.uses) same names,
            ap₂ (λ f c. report_times (time_of (advance s x).account.taken) f c (advance s x).account.uses) same names,
          ))
          (omega (
            arith,
            g.seconds now k inside,
            ap (λ (l : Line). l.seconds) was,
            ap₂ (λ f c. report_seconds (time_of s.account.taken) f c s.account.uses) same names,
            ap₂ (λ f c. report_seconds (time_of (advance s x).account.taken) f c (advance s x).account.uses) same names,
          ));
      further = λ k kn. g.further k (omega (arith, assets-static st)) ∙ h.further k kn;
      size = g.size ∙ h.size;
      off = λ z. g.off (st.switch ∙ z) ∙ h.off z;
    }

-- after all events
handed-all : (b : Book) (zeros : List Line) (ds : List Decoded) (s : State) (ls : List Line) → Handed b zeros s ls
    → Handed b zeros (after s (handed s.book ls ds)) (handed_lines s.book ls ds)
unfolding handed handed_lines after advance
handed-all b zeros [] s ls h = h
handed-all b zeros (d ∷ ds) s ls h =
    let x : Arrival = record { event = d; lines = ls } in
    handed-all b zeros ds (advance s x) (lines_left s.book x) (handed-on b zeros s x h)

pub reported-of : (b : Book) → Inv b (starting b).account → (ls : List Line) (ds : List Decoded) → FromZeros b ls → Reported b ls ds
unfolding time_of sum_of
reported-of b h ls ds z =
    let r : Handed b ls (after (starting b) (handed b ls ds)) (handed_lines b ls ds) =
    handed-all b ls ds (starting b) ls (record {
      static = static-self b;
      inv = h;
      first = λ on k kn. z k kn;
      further = λ k kn. refl;
      size = refl;
      off = λ w. refl;
    }) in
    record { first = r.first; further = r.further; size = r.size; off = r.off }

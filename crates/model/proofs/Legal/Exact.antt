-- On a legal book no subtraction of the rules is cut off, no new until is below the old one, and no sum of the report is cut off.
use mathlib.Core.Path.{◌≡◌, refl, sym, ap, ◌∙◌, subst}
use Prim.Native.Nat.{ℕ, suc, ◌+◌, ◌≤◌, ◌<◌}
use mathlib.Core.Bool.{true}
use mathlib.Core.List.{List, [], ◌∷◌, ◌++◌, map}
use lib.ListN.{length, take, length-append, length-take}
use lib.Seq.{take-suc, take_all}
use lib.Dec.{leb, eqb}
use native.Mathlib.Omega.{arith}
use borrow.Author.Tests.{eq-eqb}
use Rattle.numbers.proofs.TableLaws.{below_or_not}
use Rattle.book.specs.declared.Entry.{Entry}
use Rattle.book.specs.declared.Open.{Open}
use Rattle.book.specs.declared.Player.{Player}
use Rattle.book.specs.declared.Latest.{Latest}
use Rattle.book.specs.declared.Line.{Line}
use Rattle.book.specs.declared.Book.{Book}
use Rattle.book.specs.declared.Event.{Event}
use Rattle.book.specs.Blank.{no_player}
use Rattle.model.specs.Book.{limits_at, meters_at, player_at, entries_in, players_legal, latest_legal, Legal}
use Rattle.model.specs.Meters.{is_on, expired, shut, released, settled, settled_from}
use Rattle.model.specs.Choice.{asks, catalog_of, grantable, chosen, suits, allowed, goes_before, choose}
use Rattle.model.specs.Step.{open_at}
use Rattle.model.specs.Report.{line_at, good, Ended, recorded_all, endings}
use Rattle.model.specs.Exact.{ExactEnd, ExactBegin, ExactContinue, ExactCancel, ExactLine, Taken, at_turn, at_request, asking, Exact}
use Rattle.model.proofs.Ledger.Facts.{clash, and_left, and_right}
use Rattle.model.proofs.Ledger.Invariant.{grant-seconds, until-from}
use Rattle.model.proofs.Ledger.Concrete.{choose-sound, settled-both}
use Rattle.model.proofs.Ledger.WellFormed.{all-below}
use Rattle.model.proofs.Ledger.Steps.{gate-take}
use Rattle.model.proofs.Demand3.Lines.{good-list, Brief, brief-before, brief-behind, endings-brief, endings-few, all_most}
use Rattle.model.proofs.Legal.Rules.{Sound, UseOk, player_passes, player-live, player-open, no-player, stages-from}
use Rattle.model.proofs.Legal.Meters.{more-ge, own-count, own-timed, own-spent}
use Rattle.model.proofs.Legal.Events.{stage, stage-own, settled-live}
use Rattle.model.proofs.Legal.Step.{Passed, gate-passed, turn-sound, settled-sound}
use native.Mathlib.Nat.{add-zero}

-- ## The end of a use

end-exact : {T n : ℕ} (es : List Entry) (opn : ℕ → Open) → Sound T n (limits_at es) (meters_at es) opn → (p e : ℕ) → p < 16 →
    is_on (opn p) ≡ true → (opn p).begin ≤ e → e ≤ (opn p).until →
    ExactEnd e es (opn p)
end-exact es opn s p e k on a z = record {
  begun = a;
  counted = z;
  timed = own-timed s p k on;
  seconds = λ f. omega (arith, own-spent s p k on f);
}

-- ## Settling, player by player

-- in a book that meets the player rules, an open use runs beyond the book's time
ran_on : (b : Book) (p : ℕ) → player_passes b (player_at b.players p) ≡ true → is_on (open_at b.players p) ≡ true →
    (open_at b.players p).begin ≤ (open_at b.players p).until
ran_on b p e on = omega (arith, player-live b (player_at b.players p) e on, ((player-open b (player_at b.players p) e).runs on).begun)

module _ (b : Book) (e : Event) (h : Legal b) where
  abbrev T : ℕ
  T = e.time

  abbrev ps : List Player
  ps = b.players

  next-turn : (p : ℕ) → p < 16 → at_turn (suc p) b e ≡ released T p (open_at ps p) (at_turn p b e)
  unfolding settled_from
  next-turn p k =
      let n : 0 + length (take p ps) ≡ p = omega (arith, length-take p ps, h.player_slots) in
      ap (λ (l : List Player). settled T l b.entries) (take-suc ps p no_player (omega (arith, h.player_slots)))
      ∙ settled-both T 0 (take p ps) (player_at ps p ∷ []) b.entries
      ∙ ap (λ (q : ℕ). released T q (open_at ps p) (at_turn p b e)) n

  last_turn : at_turn 16 b e ≡ at_request b e
  last_turn = ap (λ (l : List Player). settled T l b.entries) (take_all 16 ps (omega (arith, h.player_slots)))

  module _ (g : Taken b e) where
    abbrev t : Passed b e
    t = gate-passed b e g

    turn-exact : (p : ℕ) → expired T (open_at ps p) ≡ true → ExactEnd (open_at ps p).until (at_turn p b e) (open_at ps p)
    unfolding expired
    turn-exact p x =
        let on : is_on (open_at ps p) ≡ true = and_left (is_on (open_at ps p)) (leb (open_at ps p).until T) x in
        below_or_not p 16
        (λ k.
        let own : open_at ps p ≡ stage T (open_at ps) p p = sym (stage-own T (open_at ps) p) in
        let ran : (open_at ps p).begin ≤ (open_at ps p).until = ran_on b p ((stages-from b h.rules).players p k) on in
        subst (λ (o : Open). ExactEnd o.until (at_turn p b e) o) (sym own)
        (end-exact (at_turn p b e) (stage T (open_at ps) p) (turn-sound b e h t p (omega arith)) p (stage T (open_at ps) p p).until k
        (subst (λ (o : Open). is_on o ≡ true) own on) (subst (λ (o : Open). o.begin ≤ o.until) own ran) (omega arith)))
        (λ k. clash on (ap (λ (y : Player). is_on y.current) (no-player b h p k)))

    -- ## The request

    abbrev es : List Entry
    es = at_request b e

    begin-exact : (asset kind i : ℕ) → choose (catalog_of b) es (asks b e) asset kind ≡ chosen i → ExactBegin T es i
    unfolding choose
    begin-exact asset kind i x =
        let s = choose-sound (allowed (catalog_of b) es (asks b e) asset kind) (goes_before es asset) (catalog_of b).entry_count i x in
        let ok : grantable (asks b e) (limits_at es i) (meters_at es i) ≡ true = and_right (suits (catalog_of b) es asset kind i) _
        s.passes in
        record {
          unused = λ f. omega (arith, grant-seconds (asks b e) (limits_at es i) (meters_at es i) ok f);
          until = until-from (asks b e) (limits_at es i) (meters_at es i) ok;
        }

    module _ (on : is_on (asking b e) ≡ true) where
      abbrev sound : Sound T (entries_in b) (limits_at es) (meters_at es) (open_at (map (shut T) ps))
      sound = settled-sound b e h t

      abbrev own : UseOk T (entries_in b) (limits_at es (asking b e).entry) (meters_at es (asking b e).entry) (asking b e)
      own = (sound.opens e.player).runs on

      abbrev live : T < (asking b e).until
      live = settled-live T ps e.player on

      continue-exact : ExactContinue T es (asking b e)
      continue-exact = record {
        unused = λ f. (sound.meters _ own.entry).seconds.within f;
        not_below = more-ge sound e.player t.player on live;
      }

      stop-exact : ExactEnd T es (asking b e)
      stop-exact = end-exact es (open_at (map (shut T) ps)) sound e.player T t.player on own.begun (omega (arith, live))

      cancel-exact : ExactCancel es (asking b e)
      cancel-exact = record {
        begun = omega (arith, own.begun, live);
        count = own-count sound e.player t.player on;
        timed = own-timed sound e.player t.player on;
        seconds = own-spent sound e.player t.player on;
      }

-- ## The header

nobody-read : (x : Latest) (uses uses' : ℕ) (e e' : Entry) (p p' : Player) → x.player ≡ 0
    → latest_legal x uses e p ≡ latest_legal x uses' e' p'
unfolding latest_legal
nobody-read x uses uses' e e' p p' z = let q : eqb x.player 0 ≡ true = eq-eqb x.player 0 z in rw q

-- ## The report

sums-exact : (b : Book) (e : Event) (ls : List Line) (done left : List Ended) (x : Ended) (k : ℕ) → Legal b → Taken b e
    → good b ls ≡ true → endings b e ≡ done ++ x ∷ left → ExactLine (line_at (recorded_all b ls done) k) x
sums-exact b e ls done left x k h g list all_are =
    let early = (gate-take _ _ e g).early in
    let short : Brief e.time (done ++ x ∷ left) = rw (← all_are) (endings-brief b e) in
    let few : length (done ++ x ∷ left) ≤ 17 = rw (← all_are) (endings-few b e h.player_slots) in
    let room : length done + suc (length left) ≤ 17 = rw length-append at few in
    let lines = good-list b ls list in
    let most = all_most b e.time early done ls k (brief-before e.time done (x ∷ left) short) in
    record {
      times = omega (arith, most.0, lines.times k, room);
      seconds = omega (arith, most.1, lines.seconds k, room, (brief-behind e.time done (x ∷ left) short).0, early);
    }

pub exact : Exact
unfolding players_legal
exact = record {
  settling = λ b e p h g x. turn-exact b e h g p x;
  turn = λ b e p h k. next-turn b e h p k;
  turns = last_turn;
  begin = λ b e asset kind i h g x. begin-exact b e h g asset kind i x;
  continue = continue-exact;
  stop = stop-exact;
  cancel = cancel-exact;
  lasts = λ b p h k on. ran_on b p (all-below _ 16 h p k) on;
  nobody = nobody-read;
  sums = sums-exact;
}

-- What a taken event is about to do, by the code of document 01 and the position that it returns, and an asset by its table.
use Rattle.std.specs.Prelude.{ℕ, ◌%◌, ◌≤◌, min, ◌≡◌, Bool, ◌&&◌, cond, leb, ltb, eqb}
use Rattle.std.proofs.Math.Path.{refl, sym, ap}
use Rattle.std.proofs.Common.{◌∙◌, arith, ltb-true}
use Rattle.std.proofs.Math.Bool.{true, false}
use mathlib.Core.List.{List}
use Rattle.book.specs.declared.Answer.{Answer}
use Rattle.book.specs.declared.Asset.{Asset}
use Rattle.book.specs.declared.Limits.{Limits}
use Rattle.book.specs.declared.Meters.{Meters}
use Rattle.book.specs.declared.Entry.{Entry}
use Rattle.book.specs.declared.Open.{Open}
use Rattle.book.specs.declared.Book.{Book}
use Rattle.book.specs.declared.Ask.{Ask}
use Rattle.book.specs.declared.Event.{Event}
use Rattle.book.specs.declared.Request.{Request}
use Rattle.book.specs.declared.Request.TheVariants.{Begin, Continue, Stop, Cancel}
use Rattle.book.specs.declared.Kind.{Kind}
use Rattle.model.specs.Book.{limits_at, meters_at, latest_time, entries_in}
use Rattle.model.specs.Choice.{asks, Catalog, catalog_of, usable, parent_of, suits, any_of, grantable, fails_for_switch}
use Rattle.model.specs.Step.{Done, unchanged, done, do_begin, do_continue, do_stop, open_at, do_cancel}
use Rattle.model.specs.Record.{kind_number}
use Rattle.model.specs.Meters.{is_on}
use Rattle.numbers.proofs.Tests.{on_test, clash}
use Rattle.choice.specs.declared.Reach.{Reach}
use Rattle.choice.specs.Reach.{reach_in, table_of, reach-in-book}
use Rattle.choice.specs.Best.{Best, best_after}
use Rattle.rules.specs.Codes.{begin_code}
use Rattle.choice.specs.Choice.{best-suits, best-switched}
use Rattle.index.specs.Places.{places_of, parents_of, reach_at}
use Rattle.index.proofs.Places.{reach-usable, reach-parent}
use Rattle.uses.specs.declared.Effect.{Effect}
use Rattle.uses.specs.Uses.{kept, placed, begun_on, begin_on, continue-placed, stop-placed, cancel-placed}
use Rattle.metering.specs.Recording.{request_entry}
use Rattle.step.specs.Step.{recent_on}
use Rattle.step.proofs.Codes.{begin-refused, begin-placed-at}
use Rattle.batch.specs.StepCases.{done_on, act_on, looked}

-- what a taken event is about to do: refused by a code that is not 0, or done at entry k
pub record Planned (n : Book) (e : Event) (o : Open) (k code : ℕ) : Type 0 where
  pub refuses : (code ≡ 0 → ⊥) → unchanged code n.entries o ≡ done_on n e
  pub acts :
      code ≡ 0 → (part : Effect) →
      part ≡ act_on e.request (k % 256) (asks n e) (recent_on n e) (limits_at n.entries k) (meters_at n.entries k) o →
      placed k part n.entries ≡ done_on n e
  -- the entry that a granted request names is the one at k
  pub names :
      code ≡ 0 → (part : Effect) →
      part ≡ act_on e.request (k % 256) (asks n e) (recent_on n e) (limits_at n.entries k) (meters_at n.entries k) o →
      eqb part.answer.code 0 ≡ true →
      request_entry e.request o part.answer ≡ k

module _ (n : Book) (e : Event) (o : Open) (ho : o ≡ open_at n.players e.player) where
  done-as : (q : Request) → e.request ≡ q → done q (catalog_of n) n.entries o (asks n e) (recent_on n e) ≡ done_on n e
  done-as q hq =
      ap (λ (x : Request). done x (catalog_of n) n.entries o (asks n e) (recent_on n e)) (sym hq)
      ∙ ap (λ (x : Open). done e.request (catalog_of n) n.entries x (asks n e) (recent_on n e)) ho

  module _ (k code : ℕ) (hk : k ≡ o.entry) (hc : code ≡ cond (is_on o) 0 14) where
    -- a continue, a stop or a cancel, with what it does to its entry
    further :
        (q : Request) (d : Done) →
        e.request ≡ q →
        d ≡ done_on n e →
        (is_on o ≡ false → unchanged 14 n.entries o ≡ d) →
        placed o.entry
        (act_on q (o.entry % 256) (asks n e) (recent_on n e) (limits_at n.entries o.entry) (meters_at n.entries o.entry) o)
        n.entries ≡ d →
        ((a : Answer) → request_entry q o a ≡ o.entry) →
        Planned n e o k code
    further q d hq hd off-is on-is own = record {
      refuses = λ some.
          on_test (is_on o) (λ on. absurd (some (hc ∙ rw on refl)))
          (λ off. ap (λ (x : ℕ). unchanged x n.entries o) (hc ∙ rw off refl) ∙ off-is off ∙ hd);
      acts = λ none part hp.
          ap (λ (x : ℕ). placed x part n.entries) hk
          ∙ ap (λ (x : Effect). placed o.entry x n.entries) (hp ∙ rw (hk, hq) refl)
          ∙ on-is
          ∙ hd;
      names = λ none part hp granted. ap (λ (x : Request). request_entry x o part.answer) hq ∙ own part.answer ∙ sym hk;
    }

    pub planned-continue : e.time ≤ latest_time → e.request ≡ Continue → Planned n e o k code
    unfolding done do_continue request_entry
    planned-continue ht hq =
        further Continue (do_continue n.entries o e.time) hq (done-as Continue hq) (λ off. rw off refl)
        (continue-placed e.time n.entries o ht) (λ a. refl)

    pub planned-stop : e.request ≡ Stop → Planned n e o k code
    unfolding done do_stop request_entry
    planned-stop hq =
        further Stop (do_stop n.entries o (asks n e)) hq (done-as Stop hq) (λ off. rw off refl) (stop-placed (asks n e) n.entries o)
        (λ a. refl)

    pub planned-cancel : e.request ≡ Cancel → Planned n e o k code
    unfolding done do_cancel request_entry
    planned-cancel hq =
        further Cancel (do_cancel n.entries o e.player (recent_on n e)) hq (done-as Cancel hq) (λ off. rw off refl)
        (cancel-placed e.player (recent_on n e) n.entries o) (λ a. refl)

-- ## A begin

-- a begin that is granted names its entry
begun-names : (sort : Kind) (asset i : ℕ) (ask : Ask) (l : Limits) (m : Meters) (o : Open) (part : Effect)
    → part ≡ begin_on i asset ask l m o
    → eqb part.answer.code 0 ≡ true → request_entry (Begin sort asset) o part.answer ≡ i
unfolding begin_on request_entry
begun-names sort asset i ask l m o part h g =
    on_test (grantable ask l m && leb ask.time latest_time)
    (λ w. let p : part ≡ begun_on i asset ask l m o = h ∙ rw w refl in ap (λ (x : Effect). x.answer.entry) p)
    (λ w. let p : part ≡ kept 13 m o = h ∙ rw w refl in clash g (ap (λ (x : Effect). eqb x.answer.code 0) p))

never-granted : (on us su sw : Bool) → begin_code on us su false sw ≡ 0 → ⊥
never-granted true us su sw h = omega (arith, h)
never-granted false false su sw h = omega (arith, h)
never-granted false true false sw h = omega (arith, h)
never-granted false true true true h = omega (arith, h)
never-granted false true true false h = omega (arith, h)

-- a code of 0 is that of an entry of the book
small-entry : (on us su sw : Bool) (k code : ℕ) → code ≡ begin_code on us su (ltb k 64) sw → code ≡ 0 → k % 256 ≡ k
small-entry on us su sw k code hc none =
    on_test (ltb k 64)
    (λ l. let h = ltb-true k 64 l in omega (arith, h))
    (λ l. absurd (never-granted on us su sw (sym (hc ∙ rw l refl) ∙ none)))

few-entries : (b : Book) → (catalog_of b).entry_count ≤ 64
unfolding catalog_of entries_in
few-entries b = omega arith

module _ (n : Book) (e : Event) (o : Open) (sort : Kind) (asset kind k code m : ℕ) (r : Reach) (best : Best)
    (ho : o ≡ open_at n.players e.player)
    (hq : e.request ≡ Begin sort asset)
    (hk : kind ≡ kind_number sort)
    (hu : r.usable ≡ usable (catalog_of n) asset)
    (hp : usable (catalog_of n) asset ≡ true → r.parent ≡ parent_of (catalog_of n) asset)
    (hm : m ≡ looked (is_on o) r.usable (min n.entrycount 64))
    (hb : best ≡ best_after n.entries asset r.parent kind (asks n e) m) where
  abbrev c : Catalog
  c = catalog_of n

  abbrev es : List Entry
  es = n.entries

  begin-on : do_begin c es o (asks n e) asset kind ≡ done_on n e
  unfolding done
  begin-on = ap (do_begin c es o (asks n e) asset) hk ∙ done-as n e o ho (Begin sort asset) hq

  module _ (off : is_on o ≡ false) (u : usable c asset ≡ true) where
    all-looked : m ≡ c.entry_count
    unfolding catalog_of entries_in
    all-looked = hm ∙ rw (off, hu ∙ u) refl

    whole : best ≡ best_after es asset (parent_of c asset) kind (asks n e) c.entry_count
    whole = hb ∙ ap (best_after es asset r.parent kind (asks n e)) all-looked ∙ ap
        (λ (p : ℕ). best_after es asset p kind (asks n e) c.entry_count) (hp u)

    suits-is : best.suits ≡ any_of (suits c es asset kind) c.entry_count
    suits-is = ap (λ (x : Best). x.suits) whole ∙ best-suits c es (asks n e) asset kind

    switched-is : best.switched ≡ any_of (fails_for_switch c es (asks n e) asset kind) c.entry_count
    switched-is = ap (λ (x : Best). x.switched) whole ∙ best-switched c es (asks n e) asset kind

    at-is : best.at ≡ (best_after es asset (parent_of c asset) kind (asks n e) c.entry_count).at
    at-is = ap (λ (x : Best). x.at) whole

  pub planned-begin : e.time ≤ latest_time → k ≡ best.at
      → code ≡ begin_code (is_on o) r.usable best.suits (ltb k 64) best.switched → Planned n e o k code
  planned-begin ht hat hc =
      let chosen_is : is_on o ≡ false → usable c asset ≡ true → k ≡ (best_after es asset (parent_of c asset) kind (asks n e) c.entry_count
      ).at = λ off u. hat ∙ at-is off u in record {
        refuses = λ some. begin-refused c es o (asks n e) asset kind r.usable best.suits best.switched k code hu suits-is
            chosen_is switched-is (few-entries n) hc some ∙ begin-on;
        acts = λ none part part-is.
            begin-placed-at c es o (asks n e) asset kind r.usable best.suits best.switched k code hu suits-is chosen_is
            switched-is (few-entries n) hc ht none part (part-is ∙ rw hq refl)
            ∙ begin-on;
        names = λ none part part-is granted.
            ap (λ (x : Request). request_entry x o part.answer) hq
            ∙ begun-names sort asset (k % 256) (asks n e) (limits_at es k) (meters_at es k) o part (part-is ∙ rw hq refl) granted
            ∙ small-entry (is_on o) r.usable best.suits best.switched k code hc none;
      }

-- ## An asset, by the whole table with its number of assets

module _ (n : Book) (ats : List Asset) (count asset : ℕ) (r : Reach)
    (ha : n.assets ≡ ats)
    (hc : n.assetcount ≡ count)
    (small : asset ≤ 65535)
    (hr : r ≡ reach_at (places_of ats count) (parents_of ats count) asset) where
  in-book : reach_in (table_of ats count) asset ≡ reach_in (table_of n.assets n.assetcount) asset
  in-book = ap (λ (x : List Asset). reach_in (table_of x count) asset) (sym ha) ∙ ap (λ (x : ℕ). reach_in (table_of n.assets x) asset)
      (sym hc)

  pub usable-is : r.usable ≡ usable (catalog_of n) asset
  unfolding reach_in
  usable-is = ap (λ (x : Reach). x.usable) hr ∙ reach-usable ats count asset small ∙ ap (λ (x : Reach). x.usable)
      (in-book ∙ reach-in-book n asset)

  pub parent_is : usable (catalog_of n) asset ≡ true → r.parent ≡ parent_of (catalog_of n) asset
  unfolding reach_in
  parent_is u =
      ap (λ (x : Reach). x.parent) hr
      ∙ reach-parent ats count asset small (ap (λ (x : Reach). x.usable) (in-book ∙ reach-in-book n asset) ∙ u)
      ∙ ap (λ (x : Reach). x.parent) (in-book ∙ reach-in-book n asset)

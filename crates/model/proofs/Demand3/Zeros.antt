-- The list that the run program begins with is good, and from zeros the lines handed on stay good: no sum comes near 2 to the 62.
use mathlib.Core.Path.{◌≡◌, refl, sym, ap, ◌∙◌}
use Prim.Native.Nat.{ℕ, suc, ◌≤◌, ◌<◌}
use mathlib.Core.Bool.{Bool, true, false, ◌&&◌, cond}
use mathlib.Core.List.{List, [], ◌∷◌, append-nil}
use lib.ListN.{length, get_or-eq_default}
use lib.Dec.{leb, eqb}
use native.Mathlib.Omega.{arith}
use borrow.Author.Tests.{eqb-true, eqb-false, leb-true}
use Rattle.numbers.proofs.TableLaws.{below_or_not, listed_at, length-listed}
use Rattle.book.specs.declared.Limits.{Limits}
use Rattle.book.specs.declared.Entry.{Entry}
use Rattle.book.specs.declared.Line.{Line}
use Rattle.book.specs.declared.Book.{Book}
use Rattle.book.specs.Decoded.{Decoded}
use Rattle.book.specs.Blank.{no_line}
use Rattle.model.specs.Book.{limits_at, assets_in, Legal}
use Rattle.model.specs.Report.{line_at, line_bound}
use Rattle.model.specs.History.{handed, handed_lines}
use Rattle.model.specs.Run.{zero_lines}
use Rattle.model.specs.Ledger.{Use, empty, time_of, ran, counts_report, counts_report_seconds, of_content}
use Rattle.model.specs.Demand1.{GoodList}
use Rattle.model.specs.Demand3.{State, after, starting, content_of, times_by, seconds_by, FromZeros, Reported, events_at_most}
use Rattle.model.proofs.Ledger.Facts.{on_test, and_right}
use Rattle.model.proofs.Ledger.Sums.{sum-most, sum_ones}
use Rattle.model.proofs.Ledger.WellFormed.{asset-tests, switch-most, good-static}
use Rattle.model.proofs.Ledger.Steps.{Inv}
use Rattle.model.proofs.Ledger.Bounded.{Bounded, empty-bounded, after-bounded}
use Rattle.model.proofs.Demand3.History.{after-static}
use Rattle.model.proofs.Demand3.Lines.{good-list, list-good, one-most}
use Rattle.model.proofs.Demand3.Gains.{reported-of}

-- ## The first list

module _ (b : Book) where
  pub from-zeros : FromZeros b (zero_lines b)
  unfolding zero_lines
  from-zeros k h =
      ap (λ (ls : List Line). line_at ls k) (sym (append-nil (zero_lines b))) ∙ listed_at _ (assets_in b) k no_line [] h

  zeros-size : length (zero_lines b) ≡ assets_in b
  unfolding zero_lines
  zeros-size = length-listed _ (assets_in b)

  zeros-past : (k : ℕ) → assets_in b ≤ k → line_at (zero_lines b) k ≡ no_line
  zeros-past k h = get_or-eq_default (zero_lines b) no_line (rw zeros-size h)

  assets-most : assets_in b ≤ 64
  unfolding assets_in
  assets-most = omega arith

  -- "number (1 to 65535 ..)"
  number-most : Legal b → (k : ℕ) → k < assets_in b → content_of b k ≤ 65535
  number-most l k h = leb-true _ _ (and_right (leb 1 (content_of b k)) _ (asset-tests b l k h).0)

  pub zeros-good : Legal b → GoodList b (zero_lines b)
  zeros-good l = record {
    enough = omega (arith, zeros-size);
    most = omega (arith, zeros-size, assets-most);
    names = λ k h. ap (λ (x : Line). x.content) (from-zeros k h);
    contents = λ k. below_or_not k (assets_in b)
        (λ h. rw (from-zeros k h) (omega (arith, number-most l k h)))
        (λ h. rw (zeros-past k h) (omega arith));
    times = λ k. below_or_not k (assets_in b) (λ h. rw (from-zeros k h) (omega arith)) (λ h. rw (zeros-past k h) (omega arith));
    seconds = λ k. below_or_not k (assets_in b) (λ h. rw (from-zeros k h) (omega arith)) (λ h. rw (zeros-past k h) (omega arith));
  }

-- ## The sums of a ledger

cond-most : (t : Bool) (v z : ℕ) → v ≤ z → cond t v 0 ≤ z
cond-most true v z h = h
cond-most false v z h = omega arith

module _ (at : ℕ → ℕ) (lim : ℕ → Limits) (c : ℕ) (u : Use) where
  one-use : counts_report at lim c u ≤ 1
  one-use = cond-most (of_content at lim c u) _ 1 (one-most (leb (lim u.entry).timedvalue (ran u)))

  its-seconds : counts_report_seconds at lim c u ≤ ran u
  its-seconds = cond-most (of_content at lim c u) (ran u) (ran u) (omega arith)

module _ (es : List Entry) (s : State) (g : Bounded events_at_most s.account) (c : ℕ) where
  abbrev now : ℕ → ℕ
  now p = time_of s.account.taken

  times-low : times_by es s c < line_bound
  times-low =
      omega (
        arith,
        sum-most (counts_report now (limits_at es) c) (λ u. 1) (one-use now (limits_at es) c) s.account.uses,
        sum_ones s.account.uses,
        g.uses,
      )

  seconds-low : seconds_by es s c < line_bound
  seconds-low =
      omega (
        arith,
        sum-most (counts_report_seconds now (limits_at es) c) ran (its-seconds now (limits_at es) c) s.account.uses,
        g.seconds,
      )

-- ## The lines handed on

length-handed : (ds : List Decoded) (b : Book) (ls : List Line) → length (handed b ls ds) ≡ length ds
unfolding handed
length-handed [] b ls = refl
length-handed (d ∷ ds) b ls = ap suc (length-handed ds _ _)

module _ (b : Book) (l : Legal b) (h : Inv b empty) (ls : List Line) (ds : List Decoded) (few : length ds ≤ events_at_most)
    (z : FromZeros b ls) (g : GoodList b ls) where
  abbrev end : State
  end = after (starting b) (handed b ls ds)

  abbrev out : List Line
  out = handed_lines b ls ds

  report : Reported b ls ds
  report = reported-of b h ls ds z

  low : Bounded events_at_most end.account
  low =
      after-bounded (handed b ls ds) 0 events_at_most (starting b) (omega (arith, few, length-handed ds b ls)) h empty-bounded

  -- what holds of every line of the first list, and of the ledger's sums under its content, holds of every line
  line-by : (P : Line → Type 0) → ((k : ℕ) → P (line_at ls k))
      → ((k : ℕ) → k < assets_in b → P (record {
        content = content_of b k;
        times = times_by b.entries end (content_of b k);
        seconds = seconds_by b.entries end (content_of b k);
      }))
      → (k : ℕ) → P (line_at out k)
  line-by P first sums k =
      on_test (eqb b.switch 1)
      (λ q. below_or_not k (assets_in b)
      (λ n. rw (report.first (eqb-true _ _ q) k n) (sums k n))
      (λ n. rw (report.further k n) (first k)))
      (λ q. rw (report.off (omega (arith, switch-most b l, eqb-false b.switch 1 q))) (first k))

  own : (k : ℕ) → k < assets_in b → (line_at ls k).content ≡ content_of b k
  own k n = ap (λ (x : Line). x.content) (z k n)

  good-out : GoodList b out
  good-out = record {
    enough = omega (arith, report.size, g.enough);
    most = omega (arith, report.size, g.most);
    names = λ k n.
        on_test (eqb b.switch 1)
        (λ q. ap (λ (x : Line). x.content) (report.first (eqb-true _ _ q) k n))
        (λ q. rw (report.off (omega (arith, switch-most b l, eqb-false b.switch 1 q))) (own k n));
    contents = line-by (λ (x : Line). x.content < line_bound) g.contents (λ k n. omega (arith, g.contents k, own k n));
    times = line-by (λ (x : Line). x.times < line_bound) g.times (λ k n. times-low b.entries end low (content_of b k));
    seconds = line-by (λ (x : Line). x.seconds < line_bound) g.seconds (λ k n. seconds-low b.entries end low (content_of b k));
  }

  pub handed-good : GoodList end.book out
  handed-good = good-list end.book out (good-static (after-static (handed b ls ds) (starting b)) out ∙ list-good b out good-out)

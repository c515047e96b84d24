-- `step::begin` meets its contract: a refusal, or the grant of the entry that the choice found.
use Rattle.std.proofs.Common.{◌≡◌, ◌≤◌, ◌%◌, ℕ, min, length, take, Err, ap, sym, ◌∙◌, rules, arith}
use Rattle.book.specs.declared.Ask.{Ask}
use Rattle.book.specs.declared.Book.{Book}
use Rattle.book.specs.declared.Entry.{Entry}
use Rattle.model.specs.Book.{entries_in}
use Rattle.model.specs.Choice.{catalog_of, usable, parent_of, suits, any_of, fails_for_switch}
use Rattle.uses.specs.Uses.{begin_on}
use Rattle.choice.specs.declared.Reach.{Reach}
use Rattle.choice.specs.Reach.{reach_in, catalog_from, table_of, reach-in-book, reach-used}
use Rattle.choice.specs.declared.Best as code
use Rattle.choice.specs.Best.{Best, best_after, found_after, at_of, seen, seen-found}
use Rattle.choice.specs.Choice.{best-suits, best-switched, found-slots, found-at}
use Rattle.step.specs.Step.{found_at, begin-refused, begin-granted}
use Rattle.step.proofs.begin.Goals as goal

count-64 : (b : Book) → (catalog_of b).entry_count ≤ 64
unfolding catalog_of entries_in
count-64 b = omega arith

-- the used slots
module _ (b : Book) (asset kind n m : ℕ) (ask : Ask) (r : Reach) (found : code.Best)
    (ha : length b.assets ≡ 64) (he : length b.entries ≡ 64)
    (hn : n ≡ min b.assetcount 64) (hm : m ≡ min b.entrycount 64)
    (hr : r ≡ reach_in (catalog_from (take n b.assets)) asset)
    (hx : found ≡ found_after (take m b.entries) asset r.parent kind ask (length (take m b.entries))) where
  reached : r ≡ reach_in (table_of b.assets b.assetcount) asset
  reached =
      hr ∙ ap (λ (k : ℕ). reach_in (catalog_from (take k b.assets)) asset) hn ∙ reach-used b.assets b.assetcount asset (omega arith)

  whole : found ≡ found_after b.entries asset r.parent kind ask (min b.entrycount 64)
  whole =
      hx
      ∙ ap (λ (k : ℕ). found_after (take k b.entries) asset r.parent kind ask (length (take k b.entries))) hm
      ∙ found-slots b.entries asset r.parent kind ask (min b.entrycount 64) (omega arith)

  seen-whole : seen found ≡ best_after b.entries asset r.parent kind ask (min b.entrycount 64)
  seen-whole = ap seen whole ∙ seen-found b.entries asset r.parent kind ask (min b.entrycount 64)

  at-seen : at_of found.granted ≡ found_at (seen found)
  at-seen =
      ap (λ (x : code.Best). at_of x.granted) whole
      ∙ found-at b.entries asset r.parent kind ask (min b.entrycount 64) (omega arith)
      ∙ ap found_at (sym seen-whole)

-- what the two searches found, in terms of the book's catalogue
module _ (b : Book) (asset kind : ℕ) (ask : Ask) (r : Reach) (x : Best)
    (hr : r ≡ reach_in (table_of b.assets b.assetcount) asset)
    (hx : x ≡ best_after b.entries asset r.parent kind ask (min b.entrycount 64)) where
  usable-is : r.usable ≡ usable (catalog_of b) asset
  unfolding reach_in
  usable-is = ap (λ (y : Reach). y.usable) (hr ∙ reach-in-book b asset)

  best-is : x ≡ best_after b.entries asset (parent_of (catalog_of b) asset) kind ask (catalog_of b).entry_count
  unfolding reach_in catalog_of entries_in
  best-is =
      hx ∙ ap (λ (y : Reach). best_after b.entries asset y.parent kind ask (min b.entrycount 64)) (hr ∙ reach-in-book b asset)

  suits-is : x.suits ≡ any_of (suits (catalog_of b) b.entries asset kind) (catalog_of b).entry_count
  suits-is = ap (λ (y : Best). y.suits) best-is ∙ best-suits (catalog_of b) b.entries ask asset kind

  at-is : found_at x ≡ found_at (best_after b.entries asset (parent_of (catalog_of b) asset) kind ask (catalog_of b).entry_count)
  at-is = ap found_at best-is

  switched-is : x.switched ≡ any_of (fails_for_switch (catalog_of b) b.entries ask asset kind) (catalog_of b).entry_count
  switched-is = ap (λ (y : Best). y.switched) best-is ∙ best-switched (catalog_of b) b.entries ask asset kind

pub returns-in_err-k : goal.returns-in_err-k
returns-in_err-k c =
    let a = c.args in
    let assets-64 : length a.b.assets ≡ 64 = search rules in
    let entries-64 : length a.b.entries ≡ 64 = search rules in
    let x = c.chosen-best.result in
    let r = c.reach_of-reach.result in
    let n = c.at_most_64 in
    let m = c.at_most_64-2 in
    let hr = reached a.b a.asset a.kind n.result m.result a.ask r x assets-64 entries-64 n.ensures m.ensures c.reach_of-reach.ensures
    c.chosen-best.ensures in
    let hx = seen-whole a.b a.asset a.kind n.result m.result a.ask r x assets-64 entries-64 n.ensures m.ensures c.reach_of-reach.ensures
    c.chosen-best.ensures in
    let at-found = c.at.ensures ∙ at-seen a.b a.asset a.kind n.result m.result a.ask r x assets-64 entries-64 n.ensures m.ensures
    c.reach_of-reach.ensures c.chosen-best.ensures in
    let found = seen x in
    let is-err : c.from_residual.result ≡ Err c.in_err-k.field-0.0 = search (rules, c.from_residual.ensures) in
    rw is-err
    (begin-refused (catalog_of a.b) a.b.entries a.o a.ask a.asset a.kind _ _ _ _
    (usable-is a.b a.asset a.kind a.ask _ found hr hx)
    (λ off u. suits-is a.b a.asset a.kind a.ask _ found hr hx)
    (λ off u. at-found ∙ at-is a.b a.asset a.kind a.ask _ found hr hx)
    (λ off u. switched-is a.b a.asset a.kind a.ask _ found hr hx)
    (count-64 a.b) c.in_err-k.field-0.0 c.in_err-k.ensures)

pub returns : goal.returns
returns c =
    let a = c.args in
    let assets-64 : length a.b.assets ≡ 64 = search rules in
    let entries-64 : length a.b.entries ≡ 64 = search rules in
    let x = c.chosen-best.result in
    let r = c.reach_of-reach.result in
    let n = c.at_most_64 in
    let m = c.at_most_64-2 in
    let hr = reached a.b a.asset a.kind n.result m.result a.ask r x assets-64 entries-64 n.ensures m.ensures c.reach_of-reach.ensures
    c.chosen-best.ensures in
    let hx = seen-whole a.b a.asset a.kind n.result m.result a.ask r x assets-64 entries-64 n.ensures m.ensures c.reach_of-reach.ensures
    c.chosen-best.ensures in
    let at-found = c.at.ensures ∙ at-seen a.b a.asset a.kind n.result m.result a.ask r x assets-64 entries-64 n.ensures m.ensures
    c.reach_of-reach.ensures c.chosen-best.ensures in
    let found = seen x in
    begin-granted (catalog_of a.b) a.b.entries a.o a.ask a.asset a.kind _ _ _ _
    (usable-is a.b a.asset a.kind a.ask _ found hr hx)
    (λ off u. suits-is a.b a.asset a.kind a.ask _ found hr hx)
    (λ off u. at-found ∙ at-is a.b a.asset a.kind a.ask _ found hr hx)
    (λ off u. switched-is a.b a.asset a.kind a.ask _ found hr hx)
    c.in_ok-k.k c.in_ok-k.ensures.0 c.in_ok-k.ensures.1 c.requires c.begin_on.result
    (c.begin_on.ensures ∙ ap (λ (x : Entry). begin_on (c.in_ok-k.k % 256) a.asset a.ask x.limits x.meters a.o) c.entry_at-x.ensures)

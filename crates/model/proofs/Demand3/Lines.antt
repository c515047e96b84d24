-- The lines of the report: which lists are good, and what the end of a use does to each line.
-- From a good list no sum is cut off, so a line gains what the uses that end add.
use mathlib.Core.Path.{◌≡◌, refl, sym, ap, subst, ◌∙◌}
use Prim.Native.Nat.{ℕ, ◌+◌, ◌*◌, ◌-◌, ◌≤◌, ◌<◌, min}
use mathlib.Core.Bool.{Bool, true, false, ◌&&◌, cond, and-false}
use mathlib.Core.List.{List, [], ◌∷◌, ◌++◌, map}
use lib.ListN.{length, get_or, set, length-set, length-append, get_or-eq_default}
use lib.Seq.{get_or-set_same, get_or-set_other, set_out}
use lib.Dec.{leb, ltb, eqb}
use native.Mathlib.Omega.{arith}
use borrow.Author.Tests.{eqb-true, eqb-false, eq-eqb, ne_eqb, ltb-true, lt-ltb, leb-true, le-leb}
use Rattle.numbers.specs.Count.{one}
use Rattle.numbers.proofs.Tests.{row-passed, all-below}
use Rattle.numbers.proofs.TableLaws.{below_or_not}
use Rattle.book.specs.declared.Limits.{Limits}
use Rattle.book.specs.declared.Answer.{Answer}
use Rattle.book.specs.declared.Open.{Open}
use Rattle.book.specs.declared.Player.{Player}
use Rattle.book.specs.declared.Line.{Line}
use Rattle.book.specs.declared.Book.{Book}
use Rattle.book.specs.declared.Event.{Event}
use Rattle.book.specs.declared.Request.{Request}
use Rattle.book.specs.declared.Request.TheVariants.{Begin, Continue, Stop, Cancel}
use Rattle.book.specs.Blank.{no_line}
use Rattle.model.specs.Book.{asset_at, limits_at, assets_in, asset_position, in_book, is_tracked, is_metered, momentary}
use Rattle.model.specs.Record.{kind_number}
use Rattle.model.specs.Meters.{is_on, expired, shut}
use Rattle.model.specs.Step.{taken_step, open_at}
use Rattle.model.specs.Report.{line_at, line_bound, line_small, good, sum64, Ended, raised, counted, line_of, recorded, recorded_all}
use Rattle.model.specs.Report.{ended_at, overdue, ended_by, endings}
use Rattle.model.specs.Demand1.{GoodList}
use Rattle.model.specs.Demand3.{content_of}
use Rattle.model.proofs.Ledger.Facts.{on_test, on_same, clash, and_left, and_right, and_both, eqb-self, cond-off}
use Rattle.model.proofs.Ledger.Reports.{Value, times_of, seconds_of, gain, total, cancel-ends}
use Rattle.model.proofs.Ledger.WellFormed.{WellFormed}
use Rattle.model.proofs.Legal.Facts.{all_of}
use Rattle.model.proofs.Demand3.Suitable.{in-book}

-- ## Good lists

-- a line with three small numbers
small-tests : (x : Line) → line_small x ≡ true → (x.content < line_bound) × (x.times < line_bound) × (x.seconds < line_bound)
unfolding line_small
small-tests x e =
    let h = row-passed (ltb x.content line_bound) (ltb x.times line_bound ∷ ltb x.seconds line_bound ∷ []) e in
    (ltb-true _ _ h.0, ltb-true _ _ h.1.0, ltb-true _ _ h.1.1.0)

low : 0 < line_bound
low = omega arith

past_end : (ls : List Line) (k : ℕ) → length ls ≤ k → line_at ls k ≡ no_line
past_end ls k h = get_or-eq_default ls no_line h

module _ (b : Book) (ls : List Line) where
  pub good-list : good b ls ≡ true → GoodList b ls
  unfolding good
  good-list e =
      let h = row-passed _ (leb (length ls) 64 ∷ _ ∷ _ ∷ []) e in
      let small : (k : ℕ) → ((line_at ls k).content < line_bound) × ((line_at ls k).times < line_bound) × ((line_at ls k).seconds < line_bound) =
      λ k. below_or_not k (length ls)
      (λ q. small-tests (line_at ls k) (all-below (λ j. line_small (line_at ls j)) (length ls) h.1.1.1.0 k q))
      (λ q. rw (past_end ls k q) (low, low, low)) in
      record {
        enough = leb-true _ _ h.0;
        most = leb-true _ _ h.1.0;
        names = λ k q. eqb-true _ _ (all-below (λ j. eqb (line_at ls j).content (asset_at b.assets j).number) (assets_in b)
            h.1.1.0 k q);
        contents = λ k. (small k).0;
        times = λ k. (small k).1;
        seconds = λ k. (small k).2;
      }

  pub list-good : GoodList b ls → good b ls ≡ true
  unfolding good line_small
  list-good g =
      and_both (and_both (and_both
      (le-leb _ _ g.enough)
      (le-leb _ _ g.most))
      (all_of (λ j. eqb (line_at ls j).content (asset_at b.assets j).number) (assets_in b) (λ k q. eq-eqb _ _ (g.names k q))))
      (all_of (λ j. line_small (line_at ls j)) (length ls)
      (λ k q. and_both (and_both (lt-ltb _ _ (g.contents k)) (lt-ltb _ _ (g.times k))) (lt-ltb _ _ (g.seconds k))))

  pub bad-list : (GoodList b ls → ⊥) → good b ls ≡ false
  bad-list n = on_test (good b ls) (λ q. absurd (n (good-list q))) (λ q. q)

-- ## What a use that ends leaves of the list

-- a line is replaced by one of the same content
set-content : (ls : List Line) (p k : ℕ) (y : Line) → y.content ≡ (line_at ls p).content
    → (line_at (set ls p y) k).content ≡ (line_at ls k).content
set-content ls p k y e =
    on_same k p
    (λ z. rw z
    (below_or_not p (length ls)
    (λ w. ap (λ (l : Line). l.content) (get_or-set_same ls p y no_line w) ∙ e)
    (λ w. ap (λ (l : Line). l.content) (past_end (set ls p y) p (omega (arith, length-set ls p y)) ∙ sym (past_end ls p w)))))
    (λ z. ap (λ (l : Line). l.content) (get_or-set_other ls p k y no_line z))

module _ (b : Book) where
  pub recorded-size : (ls : List Line) (x : Ended) → length (recorded b ls x) ≡ length ls
  unfolding recorded
  recorded-size ls x = on_test (counted b x) (λ q. rw q (length-set ls (line_of b x.content) _)) (λ q. rw q)

  -- the position of a counted use's content
  pub counted-in : (x : Ended) → counted b x ≡ true → in_book b x.content ≡ true
  unfolding counted
  counted-in x q = and_right (is_metered b.switch && is_tracked (limits_at b.entries x.entry)) _ q

  recorded-further : (ls : List Line) (x : Ended) (k : ℕ) → assets_in b ≤ k → line_at (recorded b ls x) k ≡ line_at ls k
  unfolding recorded
  recorded-further ls x k h =
      on_test (counted b x)
      (λ q. rw q (get_or-set_other ls (line_of b x.content) k _ no_line (λ z. omega (arith, (in-book b x.content (counted-in x q)).0))))
      (λ q. rw q)

  recorded-content : (ls : List Line) (x : Ended) (k : ℕ) → (line_at (recorded b ls x) k).content ≡ (line_at ls k).content
  unfolding recorded raised
  recorded-content ls x k =
      on_test (counted b x)
      (λ q. rw q (set-content ls (line_of b x.content) k _ refl))
      (λ q. rw q)

  recorded-off : is_metered b.switch ≡ false → (ls : List Line) (x : Ended) → recorded b ls x ≡ ls
  unfolding recorded counted
  recorded-off h ls x = rw h

  pub all-size : (xs : List Ended) (ls : List Line) → length (recorded_all b ls xs) ≡ length ls
  unfolding recorded_all
  all-size [] ls = refl
  all-size (x ∷ xs) ls = all-size xs (recorded b ls x) ∙ recorded-size ls x

  pub all-further : (xs : List Ended) (ls : List Line) (k : ℕ) → assets_in b ≤ k → line_at (recorded_all b ls xs) k ≡ line_at ls k
  unfolding recorded_all
  all-further [] ls k h = refl
  all-further (x ∷ xs) ls k h = all-further xs (recorded b ls x) k h ∙ recorded-further ls x k h

  pub all-content : (xs : List Ended) (ls : List Line) (k : ℕ) → (line_at (recorded_all b ls xs) k).content ≡ (line_at ls k).content
  unfolding recorded_all
  all-content [] ls k = refl
  all-content (x ∷ xs) ls k = all-content xs (recorded b ls x) k ∙ recorded-content ls x k

  pub all-off : is_metered b.switch ≡ false → (xs : List Ended) (ls : List Line) → recorded_all b ls xs ≡ ls
  unfolding recorded_all
  all-off h [] ls = refl
  all-off h (x ∷ xs) ls = all-off h xs (recorded b ls x) ∙ recorded-off h ls x

-- ## What a line gains

abbrev top : ℕ
top = 18446744073709551615

-- a sum that is not cut off
sum-whole : (a c : ℕ) → a + c ≤ top → sum64 a c ≡ a + c
unfolding sum64
sum-whole a c h = omega arith

-- one of the two numbers of a line, and what a use adds to it
module _ (b : Book) (g : WellFormed b) (on : is_metered b.switch ≡ true) (f : Line → ℕ) (v : Value)
    (rises : (l : Limits) (seconds : ℕ) (x : Line) → f (raised l seconds x) ≡ sum64 (f x) (v l seconds)) (k : ℕ) (kn : k < assets_in b) where
  abbrev lim : ℕ → Limits
  lim = limits_at b.entries

  abbrev c : ℕ
  c = content_of b k

  own_in : in_book b c ≡ true
  unfolding in_book
  own_in = rw (g.once k kn) (lt-ltb k (assets_in b) kn)

  tracked-in : (x : Ended) → counted b x ≡ true → eqb (lim x.entry).tracked 1 ≡ true
  unfolding counted
  tracked-in x q = and_right (is_metered b.switch) _
      (and_left (is_metered b.switch && is_tracked (lim x.entry)) (in_book b x.content) q)

  -- what is not counted adds nothing to this line
  uncounted : (x : Ended) → counted b x ≡ false → gain v lim c x ≡ 0
  unfolding counted
  uncounted x q =
      on_test (eqb x.content c)
      (λ z. on_test (eqb (lim x.entry).tracked 1)
      (λ w.
      let inside : in_book b x.content ≡ true = ap (in_book b) (eqb-true x.content c z) ∙ own_in in
      clash (and_both (and_both on w) inside) q)
      (λ w. rw (z, w)))
      (λ z. rw z)

  recorded-at : (ls : List Line) (x : Ended) → k < length ls → f (line_at ls k) + gain v lim c x ≤ top
      → f (line_at (recorded b ls x) k) ≡ f (line_at ls k) + gain v lim c x
  unfolding recorded
  recorded-at ls x room h =
      on_test (counted b x)
      (λ q. rw q
      (let p = in-book b x.content (counted-in b x q) in
      on_same k (line_of b x.content)
      (λ z.
      let same : x.content ≡ c = sym p.1 ∙ ap (content_of b) (sym z) in
      let gains : gain v lim c x ≡ v (lim x.entry) x.seconds = rw (eq-eqb x.content c same, tracked-in x q) in
      let up = raised (lim x.entry) x.seconds (line_at ls (line_of b x.content)) in
      ap f (ap (λ (j : ℕ). line_at (set ls (line_of b x.content) up) j) z
      ∙ get_or-set_same ls (line_of b x.content) up no_line (rw z at room))
      ∙ rises (lim x.entry) x.seconds (line_at ls (line_of b x.content))
      ∙ ap (λ (j : ℕ). sum64 (f (line_at ls j)) (v (lim x.entry) x.seconds)) (sym z)
      ∙ sum-whole (f (line_at ls k)) (v (lim x.entry) x.seconds) (omega (arith, h, gains))
      ∙ ap (λ (n : ℕ). f (line_at ls k) + n) (sym gains))
      (λ z.
      let other : eqb x.content c ≡ false = ne_eqb x.content c
      (λ w. z (sym (g.once k kn) ∙ ap (line_of b) (sym w))) in
      let nothing : gain v lim c x ≡ 0 = rw other in
      ap f (get_or-set_other ls (line_of b x.content) k _ no_line z) ∙ omega (arith, nothing))))
      (λ q. rw q (let nothing : gain v lim c x ≡ 0 = uncounted x q in omega (arith, nothing)))

  pub all-at : (xs : List Ended) (ls : List Line) → k < length ls → f (line_at ls k) + total v lim c xs ≤ top
      → f (line_at (recorded_all b ls xs) k) ≡ f (line_at ls k) + total v lim c xs
  unfolding recorded_all total
  all-at [] ls room h = omega arith
  all-at (x ∷ xs) ls room h =
      let first = recorded-at ls x room (omega (arith, h)) in
      all-at xs (recorded b ls x) (omega (arith, recorded-size b ls x)) (omega (arith, first, h)) ∙ omega (arith, first)

-- ## The uses that an event ends are few and short

-- no use that ends ran for more than t seconds
abbrev pub Brief : ℕ → List Ended → Type 0
Brief t [] = Unit {0}
Brief t (x ∷ xs) = (x.seconds ≤ t) × Brief t xs

brief-append : (t : ℕ) (xs ys : List Ended) → Brief t xs → Brief t ys → Brief t (xs ++ ys)
brief-append t [] ys h k = k
brief-append t (x ∷ xs) ys h k = (h.0, brief-append t xs ys h.1 k)

overdue-brief : (t : ℕ) (ps : List Player) → Brief t (overdue t ps)
unfolding overdue expired
overdue-brief t [] = tt
overdue-brief t (p ∷ ps) =
    on_test (expired t p.current)
    (λ q. rw q (omega (arith, leb-true p.current.until t (and_right (is_on p.current) _ q)), overdue-brief t ps))
    (λ q. rw q (overdue-brief t ps))

overdue-few : (t : ℕ) (ps : List Player) → length (overdue t ps) ≤ length ps
unfolding overdue
overdue-few t [] = omega arith
overdue-few t (p ∷ ps) =
    on_test (expired t p.current)
    (λ q. rw q (omega (arith, overdue-few t ps)))
    (λ q. rw q (omega (arith, overdue-few t ps)))

ended-brief : (r : Request) (t : ℕ) (o : Open) (a : Answer) → Brief t (ended_by r t o a)
unfolding ended_by
ended-brief (Begin kind asset) t o a =
    on_test (eqb a.code 0 && momentary (kind_number kind)) (λ q. rw q (omega arith, tt)) (λ q. rw q tt)
ended-brief Continue t o a = tt
ended-brief Stop t o a = on_test (eqb a.code 0) (λ q. rw q (omega arith, tt)) (λ q. rw q tt)
ended-brief Cancel t o a = subst (Brief t) (sym (cancel-ends t o a)) tt

ended-few : (r : Request) (t : ℕ) (o : Open) (a : Answer) → length (ended_by r t o a) ≤ 1
unfolding ended_by
ended-few (Begin kind asset) t o a =
    on_test (eqb a.code 0 && momentary (kind_number kind)) (λ q. rw q (omega arith)) (λ q. rw q (omega arith))
ended-few Continue t o a = omega arith
ended-few Stop t o a = on_test (eqb a.code 0) (λ q. rw q (omega arith)) (λ q. rw q (omega arith))
ended-few Cancel t o a = omega (arith, ap length (cancel-ends t o a))

module _ (b : Book) (e : Event) where
  pub endings-brief : Brief e.time (endings b e)
  unfolding endings
  endings-brief = brief-append e.time (overdue e.time b.players) _ (overdue-brief e.time b.players)
      (ended-brief e.request e.time _ (taken_step b e).answer)

  pub endings-few : length b.players ≡ 16 → length (endings b e) ≤ 17
  unfolding endings
  endings-few h =
      rw length-append (omega (
        arith,
        overdue-few e.time b.players,
        ended-few e.request e.time (open_at (map (shut e.time) b.players) e.player) (taken_step b e).answer,
      ))

pub one-most : (t : Bool) → one t ≤ 1
one-most true = omega arith
one-most false = omega arith

gain-times : (lim : ℕ → Limits) (c : ℕ) (x : Ended) → gain times_of lim c x ≤ 1
gain-times lim c x =
    on_test (eqb x.content c && eqb (lim x.entry).tracked 1)
    (λ q. rw q (one-most (leb (lim x.entry).timedvalue x.seconds)))
    (λ q. rw q (omega arith))

gain-seconds : (lim : ℕ → Limits) (c : ℕ) (x : Ended) → gain seconds_of lim c x ≤ x.seconds
gain-seconds lim c x =
    on_test (eqb x.content c && eqb (lim x.entry).tracked 1)
    (λ q. rw q (omega arith))
    (λ q. rw q (omega arith))

pub total-times : (lim : ℕ → Limits) (c : ℕ) (xs : List Ended) → total times_of lim c xs ≤ length xs
unfolding total
total-times lim c [] = omega arith
total-times lim c (x ∷ xs) = omega (arith, gain-times lim c x, total-times lim c xs)

pub total-seconds : (lim : ℕ → Limits) (c t : ℕ) (xs : List Ended) → t ≤ 4000000000 → Brief t xs
    → total seconds_of lim c xs ≤ 4000000000 * length xs
unfolding total
total-seconds lim c t [] h k = omega arith
total-seconds lim c t (x ∷ xs) h k = omega (arith, gain-seconds lim c x, k.0, total-seconds lim c t xs h k.1)

-- ## No line comes near 2 to the 64

-- a line, replaced by one with at most so many times and seconds more
set-most : (ls : List Line) (p k a c : ℕ) (y : Line) → y.times ≤ (line_at ls p).times + a → y.seconds ≤ (line_at ls p).seconds + c
    → ((line_at (set ls p y) k).times ≤ (line_at ls k).times + a) × ((line_at (set ls p y) k).seconds ≤ (line_at ls k).seconds + c)
set-most ls p k a c y h m =
    on_same k p
    (λ z. rw z
    (below_or_not p (length ls)
    (λ w. rw (get_or-set_same ls p y no_line w) (h, m))
    (λ w. rw (set_out ls p y w) (omega arith, omega arith))))
    (λ z. rw (get_or-set_other ls p k y no_line z) (omega arith, omega arith))

module _ (b : Book) where
  recorded-most : (ls : List Line) (x : Ended) (k : ℕ)
      → ((line_at (recorded b ls x) k).times ≤ (line_at ls k).times + 1) × ((line_at
      (recorded b ls x) k).seconds ≤ (line_at ls k).seconds + x.seconds)
  unfolding recorded raised sum64
  recorded-most ls x k =
      on_test (counted b x)
      (λ q. rw q
      (set-most ls (line_of b x.content) k 1 x.seconds _
      (omega (arith, one-most (leb (limits_at b.entries x.entry).timedvalue x.seconds))) (omega arith)))
      (λ q. rw q (omega arith, omega arith))

  pub all_most : (t : ℕ) → t ≤ 4000000000 → (xs : List Ended) (ls : List Line) (k : ℕ) → Brief t xs
      → ((line_at (recorded_all b ls xs) k).times ≤ (line_at ls k).times + length xs)
      × ((line_at (recorded_all b ls xs) k).seconds ≤ (line_at ls k).seconds + 4000000000 * length xs)
  unfolding recorded_all
  all_most t h [] ls k f = (omega arith, omega arith)
  all_most t h (x ∷ xs) ls k f =
      let first = recorded-most ls x k in
      let rest = all_most t h xs (recorded b ls x) k f.1 in
      (omega (arith, first.0, rest.0), omega (arith, first.1, rest.1, f.0))

-- of the uses that an event ends, those before one of them
pub brief-before : (t : ℕ) (xs ys : List Ended) → Brief t (xs ++ ys) → Brief t xs
brief-before t [] ys h = tt
brief-before t (x ∷ xs) ys h = (h.0, brief-before t xs ys h.1)

pub brief-behind : (t : ℕ) (xs ys : List Ended) → Brief t (xs ++ ys) → Brief t ys
brief-behind t [] ys h = h
brief-behind t (x ∷ xs) ys h = brief-behind t xs ys h.1

-- What is recorded, as the loops compute it: the line by position, one use after another.
use Rattle.std.specs.Prelude.{ℕ, Option, None, Some, position, ◌+◌, ◌-◌, ◌<◌, ◌≤◌, min, ◌≡◌, Bool, true, false, ◌&&◌, cond, List, [], ◌∷◌, ◌++◌, length, get_or, set, take, leb, ltb}
use Rattle.std.specs.Option.{unwrap_or}
use Rattle.std.proofs.Common.{add-one, arith, ap, ap₂, ◌∙◌, take-suc, length-take-le}
use Rattle.std.proofs.Math.Path.{refl, sym}
use Rattle.std.proofs.Math.Bool.{and-false}
use Rattle.std.proofs.Math.ListN.{get_or-eq_default}
use Rattle.std.proofs.Math.Dec.{eqb}
use borrow.Author.Tests.{ltb-true, lt-ltb, le-ltb}
use Rattle.numbers.proofs.Tests.{on_test, cond-on, cond-off}
use Rattle.numbers.proofs.ListLaws.{position-first-of}
use Rattle.book.specs.declared.Asset.{Asset}
use Rattle.book.specs.declared.Limits.{Limits}
use Rattle.book.specs.declared.Entry.{Entry}
use Rattle.book.specs.declared.Line.{Line}
use Rattle.book.specs.declared.Open.{Open}
use Rattle.book.specs.declared.Player.{Player}
use Rattle.book.specs.declared.Book.{Book}
use Rattle.book.specs.Blank.{no_asset, no_entry, no_player}
use Rattle.book.specs.declared.Answer.{Answer}
use Rattle.book.specs.declared.Request.{Request}
use Rattle.book.specs.declared.Request.TheVariants.{Begin, Continue, Stop, Cancel}
use Rattle.model.specs.Book.{limits_at, player_at, assets_in, asset_position, in_book, momentary}
use Rattle.model.specs.Record.{kind_number}
use Rattle.model.specs.Meters.{expired}
use Rattle.model.specs.Step.{open_at}
use Rattle.model.specs.Report.{line_at, Ended, raised, counted, recorded, recorded_all, ended_at, overdue, ended_by}
use Rattle.report.specs.Report.{raised_line, raised_is}

-- the line of a content, 64 if the use is not recorded
unfoldable pub line_for : ℕ → Limits → List Asset → ℕ → ℕ → ℕ
line_for switch l ats assetcount content =
    cond (eqb switch 1 && eqb l.tracked 1)
    (cond (ltb (asset_position ats (min assetcount 64) content) (min assetcount 64)) (asset_position ats (min assetcount 64) content) 64)
    64

-- the same in a list of assets
unfoldable pub line_in : ℕ → Limits → List Asset → ℕ → Option ℕ
line_in switch l ats content = cond (eqb switch 1 && eqb l.tracked 1) (position (λ (a : Asset). eqb a.number content) ats) None

some-64 : (t w : Bool) (p : ℕ) → unwrap_or (cond t (cond w (Some p) None) None) 64 ≡ cond t (cond w p 64) 64
some-64 true true p = refl
some-64 true false p = refl
some-64 false w p = refl

some-below : (t : Bool) (p m k : ℕ) → cond t (cond (ltb p m) (Some p) None) None ≡ Some k → k < m
some-below true p m k h =
    on_test (ltb p m)
    (λ q. let e : Some p ≡ Some k = rw q at h in let same : p ≡ k = cc in omega (arith, ltb-true p m q))
    (λ q. let e : None ≡ Some k = rw q at h in absurd (cc))
some-below false p m k h = absurd (cc)

pub line-within : (switch : ℕ) (l : Limits) (ats : List Asset) (content k : ℕ) → line_in switch l ats content ≡ Some k → k < length ats
unfolding line_in
line-within switch l ats content k h = some-below (eqb switch 1 && eqb l.tracked 1) _ (length ats) k h

-- in the used slots of a table
module _ (switch : ℕ) (l : Limits) (ats : List Asset) (assetcount content : ℕ) (h : min assetcount 64 ≤ length ats) where
  abbrev m : ℕ
  m = min assetcount 64

  abbrev found : ℕ
  found = asset_position ats m content

  line-found : line_in switch l (take m ats) content
      ≡ cond (eqb switch 1 && eqb l.tracked 1) (cond (ltb found m) (Some found) None) None
  unfolding line_in asset_position
  line-found =
      ap₂ (λ (p n : ℕ). cond (eqb switch 1 && eqb l.tracked 1) (cond (ltb p n) (Some p) None) None)
      (position-first-of (λ (a : Asset). eqb a.number content) ats no_asset m h) (length-take-le m ats h)

  pub line-as : unwrap_or (line_in switch l (take m ats) content) 64 ≡ line_for switch l ats assetcount content
  unfolding line_for
  line-as = ap (λ (r : Option ℕ). unwrap_or r 64) line-found ∙ some-64 (eqb switch 1 && eqb l.tracked 1) (ltb found m) found

  pub line-below : (k : ℕ) → line_in switch l (take m ats) content ≡ Some k → k < 64
  line-below k e = let w = some-below (eqb switch 1 && eqb l.tracked 1) found m k (sym line-found ∙ e) in omega arith

-- in the first n slots of a book's table, if these are the used ones
module _ (b : Book) (n : ℕ) (hn : n ≡ min b.assetcount 64) (h : min b.assetcount 64 ≤ length b.assets) (l : Limits) (content : ℕ) where
  to-used : line_in b.switch l (take n b.assets) content ≡ line_in b.switch l (take (min b.assetcount 64) b.assets) content
  to-used = ap (λ (k : ℕ). line_in b.switch l (take k b.assets) content) hn

  pub used-as : unwrap_or (line_in b.switch l (take n b.assets) content) 64 ≡ line_for b.switch l b.assets b.assetcount content
  used-as = ap (λ (r : Option ℕ). unwrap_or r 64) to-used ∙ line-as b.switch l b.assets b.assetcount content h

  pub used-below : (k : ℕ) → Some k ≡ line_in b.switch l (take n b.assets) content → k < 64
  used-below k e = line-below b.switch l b.assets b.assetcount content h k (sym (e ∙ to-used))

cond-64 : (t : Bool) (r : Option ℕ) → unwrap_or (cond t r None) 64 ≡ cond t (unwrap_or r 64) 64
cond-64 true r = refl
cond-64 false r = refl

cond-some : {P : Type 0} (t : Bool) (r : Option ℕ) (k : ℕ) → (r ≡ Some k → P) → cond t r None ≡ Some k → P
cond-some true r k f h = f h
cond-some false r k f h = absurd (cc)

-- that of a use that is due
module _ (b : Book) (n : ℕ) (hn : n ≡ min b.assetcount 64) (h : min b.assetcount 64 ≤ length b.assets) (l : Limits) (t : ℕ) (o : Open) where
  abbrev due_in : Option ℕ
  due_in = cond (expired t o) (line_in b.switch l (take n b.assets) o.content) None

  pub due-as : unwrap_or due_in 64 ≡ cond (expired t o) (line_for b.switch l b.assets b.assetcount o.content) 64
  due-as = cond-64 (expired t o) _ ∙ ap (λ (k : ℕ). cond (expired t o) k 64) (used-as b n hn h l o.content)

  pub due-below : (k : ℕ) → Some k ≡ due_in → k < 64
  due-below k e = cond-some (expired t o) _ k (λ (x : _). used-below b n hn h l o.content k (sym x)) (sym e)

module _ (switch : ℕ) (l : Limits) (ats : List Asset) (assetcount content : ℕ) where
  -- by the tests of the code
  pub line-not : (eqb switch 1 && eqb l.tracked 1) ≡ false → 64 ≡ line_for switch l ats assetcount content
  unfolding line_for
  line-not q = rw q

  pub line-at : (m k : ℕ) → (eqb switch 1 && eqb l.tracked 1) ≡ true → m ≡ min assetcount 64 → k ≡ asset_position ats m content → k < m
      → k ≡ line_for switch l ats assetcount content
  unfolding line_for
  line-at m k q e p h = rw (q, ← e, ← p, lt-ltb k m h)

  pub line-out : (m k : ℕ) → (eqb switch 1 && eqb l.tracked 1) ≡ true → m ≡ min assetcount 64 → k ≡ asset_position ats m content → m ≤ k
      → 64 ≡ line_for switch l ats assetcount content
  unfolding line_for
  line-out m k q e p h = rw (q, ← e, ← p, le-ltb k m h)

-- a use is recorded at its line, if that is below 64
module _ (b : Book) (ls : List Line) (x : Ended) where
  abbrev pub place : ℕ
  place = line_for b.switch (limits_at b.entries x.entry) b.assets b.assetcount x.content

  pub recorded-here : place < 64 → set ls place
      (raised_line (line_at ls place) x.seconds (leb (limits_at b.entries x.entry).timedvalue x.seconds)) ≡ recorded b ls x
  unfolding line_for recorded counted in_book assets_in
  recorded-here h =
      let l = limits_at b.entries x.entry in
      let k = asset_position b.assets (min b.assetcount 64) x.content in
      on_test (eqb b.switch 1 && eqb l.tracked 1)
      (λ q. on_test (ltb k (min b.assetcount 64))
      (λ r. rw (q, r) (ap (set ls k) (raised_is l x.seconds (line_at ls k))))
      (λ r. absurd (omega (arith, rw (q, r) at h))))
      (λ q. absurd (omega (arith, rw q at h)))

  pub recorded-not : 64 ≤ place → ls ≡ recorded b ls x
  unfolding line_for recorded counted in_book assets_in
  recorded-not h =
      let l = limits_at b.entries x.entry in
      let k = asset_position b.assets (min b.assetcount 64) x.content in
      on_test (eqb b.switch 1 && eqb l.tracked 1)
      (λ q. on_test (ltb k (min b.assetcount 64))
      (λ r. absurd (omega (arith, rw (q, r) at h, ltb-true k (min b.assetcount 64) r)))
      (λ r. rw (q, r)))
      (λ q. rw q)

-- the same by what the code found: the entry e, and the line k
module _ (b : Book) (ls : List Line) (x : Ended) (e : Entry) (k : ℕ) (he : e ≡ get_or b.entries x.entry no_entry)
    (hk : k ≡ line_for b.switch e.limits b.assets b.assetcount x.content) where
  here : k ≡ place b ls x
  here = hk ∙ ap (λ (y : Entry). line_for b.switch y.limits b.assets b.assetcount x.content) he

  pub raised-there : (z : Line) → k < 64 → z ≡ raised_line (line_at ls k) x.seconds (leb e.limits.timedvalue x.seconds)
      → set ls k z ≡ recorded b ls x
  raised-there z h q =
      ap (set ls k) (q ∙ ap (λ (y : Entry). raised_line (line_at ls k) x.seconds (leb y.limits.timedvalue x.seconds)) he)
      ∙ ap (λ (j : ℕ). set ls j (raised_line (line_at ls j) x.seconds
      (leb (limits_at b.entries x.entry).timedvalue x.seconds))) here
      ∙ recorded-here b ls x (omega (arith, here))

  pub raised-nowhere : 64 ≤ k → ls ≡ recorded b ls x
  raised-nowhere h = recorded-not b ls x (omega (arith, here))

-- ## One use after another

pub all_one : (b : Book) (ls : List Line) (x : Ended) → recorded b ls x ≡ recorded_all b ls (x ∷ [])
unfolding recorded_all
all_one b ls x = refl

pub all_none : (b : Book) (ls : List Line) → ls ≡ recorded_all b ls []
unfolding recorded_all
all_none b ls = refl

all_append : (b : Book) (ls : List Line) (xs ys : List Ended) → recorded_all b ls (xs ++ ys) ≡ recorded_all b (recorded_all b ls xs) ys
unfolding recorded_all
all_append b ls [] ys = refl
all_append b ls (x ∷ xs) ys = all_append b (recorded b ls x) xs ys

overdue-append : (t : ℕ) (ps qs : List Player) → overdue t (ps ++ qs) ≡ overdue t ps ++ overdue t qs
unfolding overdue
overdue-append t [] qs = refl
overdue-append t (p ∷ ps) qs =
    on_test (expired t p.current)
    (λ q. rw q (ap (λ (r : List Ended). ended_at p.current.until p.current ∷ r) (overdue-append t ps qs)))
    (λ q. rw q (overdue-append t ps qs))

-- one player further
module _ (b : Book) (ls : List Line) (t i : ℕ) (ps : List Player) (h : i < length ps) where
  abbrev o : Open
  o = open_at ps i

  next : overdue t (take (i + 1) ps) ≡ overdue t (take i ps) ++ overdue t (player_at ps i ∷ [])
  next = ap (λ (k : ℕ). overdue t (take k ps)) (add-one i) ∙ ap (overdue t) (take-suc ps i no_player h)
      ∙ overdue-append t (take i ps) (player_at ps i ∷ [])

  pub due-turn : expired t o ≡ true
      → recorded b (recorded_all b ls (overdue t (take i ps))) (ended_at o.until o) ≡ recorded_all b ls (overdue t (take (i + 1) ps))
  unfolding overdue
  due-turn e = sym (ap (recorded_all b ls) next ∙ all_append b ls (overdue t (take i ps)) _
      ∙ rw e (sym (all_one b (recorded_all b ls (overdue t (take i ps))) (ended_at o.until o))))

  pub not-due-turn : expired t o ≡ false
      → recorded_all b ls (overdue t (take i ps)) ≡ recorded_all b ls (overdue t (take (i + 1) ps))
  unfolding overdue
  not-due-turn e = sym (ap (recorded_all b ls) next ∙ all_append b ls (overdue t (take i ps)) _
      ∙ rw e (sym (all_none b (recorded_all b ls (overdue t (take i ps))))))

-- a turn of the loop, by what it found: A the lines so far, e the use's entry, k its line, s its seconds
module _ (b : Book) (ls : List Line) (t i : ℕ) (h : i < length b.players) (A : List Line)
    (so_far : A ≡ recorded_all b ls (overdue t (take i b.players))) (e : Entry) (k s : ℕ)
    (he : e ≡ get_or b.entries (open_at b.players i).entry no_entry)
    (hk : k ≡ cond (expired t (open_at b.players i))
    (line_for b.switch e.limits b.assets b.assetcount (open_at b.players i).content) 64)
    (hs : s ≡ (open_at b.players i).until - (open_at b.players i).begin) where
  abbrev u : Open
  u = open_at b.players i

  abbrev x : Ended
  x = ended_at u.until u

  abbrev onward : List Line
  onward = recorded_all b ls (overdue t (take (i + 1) b.players))

  recorded-onward : expired t u ≡ true → recorded b A x ≡ onward
  recorded-onward q = ap (λ (y : List Line). recorded b y x) so_far ∙ due-turn b ls t i b.players h q

  pub turn-raised : (z : Line) → k < 64 → z ≡ raised_line (line_at A k) s (leb e.limits.timedvalue s) → set A k z ≡ onward
  turn-raised z l r =
      on_test (expired t u)
      (λ q. raised-there b A x e k he (hk ∙ cond-on (expired t u) _ 64 q) z l
      (r ∙ ap (λ (m : ℕ). raised_line (line_at A k) m (leb e.limits.timedvalue m)) hs) ∙ recorded-onward q)
      (λ q. absurd (omega (arith, l, hk ∙ cond-off (expired t u) _ 64 q)))

  pub turn-kept : 64 ≤ k → A ≡ onward
  turn-kept l =
      on_test (expired t u)
      (λ q. raised-nowhere b A x e k he (hk ∙ cond-on (expired t u) _ 64 q) l ∙ recorded-onward q)
      (λ q. so_far ∙ not-due-turn b ls t i b.players h q)

pub due-none : (b : Book) (ls : List Line) (t : ℕ) → ls ≡ recorded_all b ls (overdue t (take 0 b.players))
unfolding overdue recorded_all
due-none b ls t = refl

-- ## The request

-- its line, with the limits of its entry; 64 if it raises none
unfoldable pub request_line : Request → Answer → Open → ℕ → Limits → List Asset → ℕ → ℕ
request_line (Begin kind asset) a o switch l ats n =
    cond (eqb a.code 0 && momentary (kind_number kind)) (line_for switch l ats n asset) 64
request_line Continue a o switch l ats n = 64
request_line Stop a o switch l ats n = cond (eqb a.code 0) (line_for switch l ats n o.content) 64
request_line Cancel a o switch l ats n = 64

-- the same in a list of assets
unfoldable pub request_in : Request → Answer → Open → ℕ → Limits → List Asset → Option ℕ
request_in (Begin kind asset) a o switch l ats = cond (eqb a.code 0 && momentary (kind_number kind)) (line_in switch l ats asset) None
request_in Continue a o switch l ats = None
request_in Stop a o switch l ats = cond (eqb a.code 0) (line_in switch l ats o.content) None
request_in Cancel a o switch l ats = None

pub request-within : (q : Request) (a : Answer) (o : Open) (switch : ℕ) (l : Limits) (ats : List Asset) (k : ℕ)
    → request_in q a o switch l ats ≡ Some k → k < length ats
unfolding request_in
request-within (Begin kind asset) a o switch l ats k e = cond-some _ _ k (line-within switch l ats asset k) e
request-within Continue a o switch l ats k e = absurd (cc)
request-within Stop a o switch l ats k e = cond-some _ _ k (line-within switch l ats o.content k) e
request-within Cancel a o switch l ats k e = absurd (cc)

module _ (a : Answer) (o : Open) (switch : ℕ) (l : Limits) (ats : List Asset) (assetcount : ℕ) (h : min assetcount 64 ≤ length ats) where
  abbrev slots : List Asset
  slots = take (min assetcount 64) ats

  pub request-as : (q : Request) → unwrap_or (request_in q a o switch l slots) 64 ≡ request_line q a o switch l ats assetcount
  unfolding request_in request_line
  request-as (Begin kind asset) =
      let t = eqb a.code 0 && momentary (kind_number kind) in
      cond-64 t (line_in switch l slots asset) ∙ ap (λ (k : ℕ). cond t k 64) (line-as switch l ats assetcount asset h)
  request-as Continue = refl
  request-as Stop =
      cond-64 (eqb a.code 0) (line_in switch l slots o.content)
      ∙ ap (λ (k : ℕ). cond (eqb a.code 0) k 64) (line-as switch l ats assetcount o.content h)
  request-as Cancel = refl

  pub request-below : (q : Request) (k : ℕ) → request_in q a o switch l slots ≡ Some k → k < 64
  unfolding request_in
  request-below (Begin kind asset) k e = cond-some _ _ k (line-below switch l ats assetcount asset h k) e
  request-below Continue k e = absurd (cc)
  request-below Stop k e = cond-some _ _ k (line-below switch l ats assetcount o.content h k) e
  request-below Cancel k e = absurd (cc)

unfoldable pub request_seconds : Request → ℕ → Open → ℕ
request_seconds (Begin kind asset) t o = 0
request_seconds Continue t o = 0
request_seconds Stop t o = t - o.begin
request_seconds Cancel t o = 0

-- the entry of the use that it ends
unfoldable pub request_entry : Request → Open → Answer → ℕ
request_entry (Begin kind asset) o a = a.entry
request_entry Continue o a = o.entry
request_entry Stop o a = o.entry
request_entry Cancel o a = o.entry

-- a line raised by the entry's limits
module _ (b : Book) (ls : List Line) (x : Ended) where
  abbrev limits_of : Limits
  limits_of = limits_at b.entries x.entry

  by-limits : (k : ℕ) → k ≡ place b ls x → k < 64 → set ls k (raised limits_of x.seconds (line_at ls k)) ≡ recorded b ls x
  by-limits k e h =
      ap (set ls k) (sym (raised_is limits_of x.seconds (line_at ls k)))
      ∙ ap (λ (j : ℕ). set ls j (raised_line (line_at ls j) x.seconds (leb limits_of.timedvalue x.seconds))) e
      ∙ recorded-here b ls x (omega (arith, e))

module _ (b : Book) (ls : List Line) (t : ℕ) (o : Open) (a : Answer) where
  abbrev line_by : Request → ℕ
  line_by q = request_line q a o b.switch (limits_at b.entries (request_entry q o a)) b.assets b.assetcount

  abbrev raised_by : Request → ℕ → List Line
  raised_by q k = set ls k (raised (limits_at b.entries (request_entry q o a)) (request_seconds q t o) (line_at ls k))

  pub request-raised : (q : Request) (k : ℕ) → k ≡ line_by q → k < 64 → raised_by q k ≡ recorded_all b ls (ended_by q t o a)
  unfolding request_line request_seconds request_entry ended_by
  request-raised (Begin kind asset) k e h =
      on_test (eqb a.code 0 && momentary (kind_number kind))
      (λ w. rw w (by-limits b ls (record { entry = a.entry; content = asset; seconds = 0 }) k (e ∙ cond-on _ _ 64 w) h ∙ all_one b ls _))
      (λ w. absurd (omega (arith, h, e ∙ cond-off (eqb a.code 0 && momentary (kind_number kind)) _ 64 w)))
  request-raised Continue k e h = absurd (omega (arith, h, e))
  request-raised Stop k e h =
      on_test (eqb a.code 0)
      (λ w. rw w (by-limits b ls (ended_at t o) k (e ∙ cond-on _ _ 64 w) h ∙ all_one b ls _))
      (λ w. absurd (omega (arith, h, e ∙ cond-off (eqb a.code 0) _ 64 w)))
  request-raised Cancel k e h = absurd (omega (arith, h, e))

  pub request-kept : (q : Request) (k : ℕ) → k ≡ line_by q → 64 ≤ k → ls ≡ recorded_all b ls (ended_by q t o a)
  unfolding request_line request_entry ended_by
  request-kept (Begin kind asset) k e h =
      on_test (eqb a.code 0 && momentary (kind_number kind))
      (λ w.
      let x : Ended = record { entry = a.entry; content = asset; seconds = 0 } in
      rw w (recorded-not b ls x (omega (arith, h, e ∙ cond-on _ _ 64 w)) ∙ all_one b ls x))
      (λ w. rw w (all_none b ls))
  request-kept Continue k e h = all_none b ls
  request-kept Stop k e h =
      on_test (eqb a.code 0)
      (λ w. rw w (recorded-not b ls (ended_at t o) (omega (arith, h, e ∙ cond-on _ _ 64 w)) ∙ all_one b ls (ended_at t o)))
      (λ w. rw w (all_none b ls))
  request-kept Cancel k e h = all_none b ls

  -- a refusal records nothing
  pub refused-kept : (q : Request) → eqb a.code 0 ≡ false → ls ≡ recorded_all b ls (ended_by q t o a)
  unfolding ended_by
  refused-kept (Begin kind asset) h = rw h (all_none b ls)
  refused-kept Continue h = all_none b ls
  refused-kept Stop h = rw h (all_none b ls)
  refused-kept Cancel h = all_none b ls

  refused-line : (q : Request) (l : Limits) → eqb a.code 0 ≡ false → request_line q a o b.switch l b.assets b.assetcount ≡ 64
  unfolding request_line
  refused-line (Begin kind asset) l h = rw h refl
  refused-line Continue l h = refl
  refused-line Stop l h = rw h refl
  refused-line Cancel l h = refl

  -- by what the code found: the limits l of the entry, if the request is granted, and the line k
  module _ (q : Request) (l : Limits) (k : ℕ) (hl : eqb a.code 0 ≡ true → l ≡ limits_at b.entries (request_entry q o a))
      (hk : k ≡ request_line q a o b.switch l b.assets b.assetcount) where
    is-line : l ≡ limits_at b.entries (request_entry q o a) → k ≡ line_by q
    is-line e = hk ∙ ap (λ (z : Limits). request_line q a o b.switch z b.assets b.assetcount) e

    pub request-onward : (s : ℕ) → s ≡ request_seconds q t o → k < 64
        → set ls k (raised l s (line_at ls k)) ≡ recorded_all b ls (ended_by q t o a)
    request-onward s hs small =
        on_test (eqb a.code 0)
        (λ w.
        ap (λ (m : ℕ). set ls k (raised l m (line_at ls k))) hs
        ∙ ap (λ (z : Limits). set ls k (raised z (request_seconds q t o) (line_at ls k))) (hl w)
        ∙ request-raised q k (is-line (hl w)) small)
        (λ w. absurd (omega (arith, small, hk ∙ refused-line q l w)))

    pub request-still : 64 ≤ k → ls ≡ recorded_all b ls (ended_by q t o a)
    request-still big =
        on_test (eqb a.code 0)
        (λ w. request-kept q k (is-line (hl w)) big)
        (λ w. refused-kept q w)

-- ## Settling, by what the loop over a block found: A the lines so far

no_line_lem : (switch : ℕ) (ats : List Asset) (n content : ℕ) (es : List Entry) (k : ℕ) → length es ≤ k
    → line_for switch (limits_at es k) ats n content ≡ 64
unfolding line_for
no_line_lem switch ats n content es k out =
    ap (λ (x : Entry). line_for switch x.limits ats n content) (get_or-eq_default es no_entry out)
    ∙ rw (and-false (eqb switch 1)) refl

module _ (b : Book) (ls : List Line) (t i : ℕ) (h : i < length b.players) (A : List Line)
    (so_far : A ≡ recorded_all b ls (overdue t (take i b.players))) where
  abbrev v : Open
  v = open_at b.players i

  abbrev ends : Ended
  ends = ended_at v.until v

  abbrev onto : List Line
  onto = recorded_all b ls (overdue t (take (i + 1) b.players))

  pub due-still : expired t v ≡ false → A ≡ onto
  due-still q = so_far ∙ not-due-turn b ls t i b.players h q

  module _ (q : expired t v ≡ true) where
    onto-recorded : recorded b A ends ≡ onto
    onto-recorded = ap (λ (y : List Line). recorded b y ends) so_far ∙ due-turn b ls t i b.players h q

    pub due-out : length b.entries ≤ v.entry → A ≡ onto
    due-out out =
        recorded-not b A ends (omega (arith, no_line_lem b.switch b.assets b.assetcount v.content b.entries v.entry out))
        ∙ onto-recorded

    module _ (l : Limits) (k : ℕ) (hl : l ≡ limits_at b.entries v.entry)
        (hk : k ≡ line_for b.switch l b.assets b.assetcount v.content) where
      is-place : k ≡ place b A ends
      is-place = hk ∙ ap (λ (z : Limits). line_for b.switch z b.assets b.assetcount v.content) hl

      pub due-raised : (s : ℕ) → s ≡ v.until - v.begin → k < 64 → set A k (raised l s (line_at A k)) ≡ onto
      due-raised s hs small =
          ap (λ (m : ℕ). set A k (raised l m (line_at A k))) hs
          ∙ ap (λ (z : Limits). set A k (raised z (v.until - v.begin) (line_at A k))) hl
          ∙ by-limits b A ends k is-place small
          ∙ onto-recorded

      pub due-kept : 64 ≤ k → A ≡ onto
      due-kept big = recorded-not b A ends (omega (arith, big, is-place)) ∙ onto-recorded

-- Usable assets and suitable entries: the rules' tests pass exactly when the statement's conditions hold.
-- In a legal book each number occurs once, so a number names one asset.
use mathlib.Core.Path.{◌≡◌, refl, sym, ap, ◌∙◌, subst}
use Prim.Native.Nat.{ℕ, zero, suc, ◌<◌}
use mathlib.Core.Bool.{Bool, true, false, not, ◌&&◌, ◌||◌, or-true}
use lib.Dec.{ltb, eqb}
use native.Mathlib.Omega.{arith}
use borrow.Author.Tests.{eqb-true, eqb-false, eq-eqb, ne_eqb, ltb-true, lt-ltb, not-true}
use Rattle.numbers.specs.Count.{first}
use Rattle.book.specs.declared.Asset.{Asset}
use Rattle.book.specs.declared.Book.{Book}
use Rattle.book.specs.Blank.{no_asset}
use Rattle.model.specs.Book.{asset_at, limits_at, assets_in, entries_in, is_parent, is_illegal, asset_position, in_book}
use Rattle.model.specs.Choice.{catalog_of, holds, asset_named, usable, parent_of, own, suitable, suits, any_of}
use Rattle.model.specs.Demand3.{InBookWithKey, Serves, Suits}
use Rattle.model.proofs.Ledger.Facts.{on_test, on_same, clash, and_left, and_right, and_both, cond-off}
use Rattle.model.proofs.Ledger.Concrete.{Sure}
use Rattle.model.proofs.Ledger.WellFormed.{WellFormed}

-- "never used and never inherited from"
pub illegal-never : (a : Asset) → is_illegal a ≡ true → (eqb a.key 1 ≡ false) × (is_parent a ≡ false)
unfolding is_illegal is_parent
illegal-never a h =
    let key : eqb a.key 0 ≡ true = and_left (eqb a.key 0) (not (eqb a.inherit 0)) h in
    let inherit : eqb a.inherit 0 ≡ false = not-true (eqb a.inherit 0) (and_right (eqb a.key 0) (not (eqb a.inherit 0)) h) in
    let zero-key : a.key ≡ 0 = eqb-true a.key 0 key in
    (ne_eqb a.key 1 (λ x. omega arith), rw (key, inherit))

-- and every other asset without a key is a parent
pub illegal-or-parent : (a : Asset) → eqb a.key 0 ≡ true → is_illegal a ≡ not (is_parent a)
unfolding is_illegal is_parent
illegal-or-parent a h = rw h

pub first_found : (f : ℕ → Bool) (n : ℕ) → first f n < n → f (first f n) ≡ true
unfolding first
first_found f zero h = absurd (omega arith)
first_found f (suc n) h =
    on_test (ltb (first f n) n)
    (λ q. rw q (first_found f n (ltb-true (first f n) n q)))
    (λ q. on_test (f n) (λ r. rw (q, r) r) (λ r. let z : suc n < suc n = rw (q, r) at h in absurd (omega arith)))

-- a number in the book is that of the asset at its position
pub in-book : (b : Book) (number : ℕ) → in_book b number ≡ true → (asset_position b.assets (assets_in b) number < assets_in b)
    × ((asset_at b.assets (asset_position b.assets (assets_in b) number)).number ≡ number)
unfolding in_book asset_position
in-book b number e =
    let h = ltb-true _ (assets_in b) e in
    (h, eqb-true _ number (first_found (λ i. eqb (asset_at b.assets i).number number) (assets_in b) h))

pub any-sure : (ok : ℕ → Bool) (n : ℕ) → any_of ok n ≡ true → (i : ℕ) × Sure ok n i
unfolding any_of
any-sure ok zero e = clash e refl
any-sure ok (suc n) e =
    on_test (any_of ok n)
    (λ q. let z = any-sure ok n q in (z.0, record { below = omega (arith, z.1.below); passes = z.1.passes }))
    (λ q. (n, record { below = omega arith; passes = rw q at e }))

pub sure-any : (ok : ℕ → Bool) (n i : ℕ) → i < n → ok i ≡ true → any_of ok n ≡ true
unfolding any_of
sure-any ok zero i h e = absurd (omega arith)
sure-any ok (suc n) i h e =
    on_same i n
    (λ x. let z : ok n ≡ true = rw x at e in rw z (or-true (any_of ok n)))
    (λ x. rw (sure-any ok n i (omega arith) e))

module _ (b : Book) (g : WellFormed b) where
  abbrev position_of : ℕ → ℕ
  position_of number = asset_position b.assets (assets_in b) number

  holds-below : (number : ℕ) → holds (catalog_of b) number ≡ true → position_of number < assets_in b
  unfolding holds catalog_of
  holds-below number e = ltb-true (position_of number) (assets_in b) e

  holds-number : (number : ℕ) → holds (catalog_of b) number ≡ true → (asset_at b.assets (position_of number)).number ≡ number
  unfolding asset_position
  holds-number number e = eqb-true _ number (first_found (λ i. eqb (asset_at b.assets i).number number) (assets_in b)
      (holds-below number e))

  named : (number : ℕ) → holds (catalog_of b) number ≡ true → asset_named (catalog_of b) number ≡ asset_at b.assets (position_of number)
  unfolding asset_named catalog_of
  named number e = rw e

  at-holds : (x : ℕ) → x < assets_in b → holds (catalog_of b) (asset_at b.assets x).number ≡ true
  unfolding holds catalog_of
  at-holds x h = rw (g.once x h) (lt-ltb x (assets_in b) h)

  at_named : (x : ℕ) → x < assets_in b → asset_named (catalog_of b) (asset_at b.assets x).number ≡ asset_at b.assets x
  at_named x h = named (asset_at b.assets x).number (at-holds x h) ∙ ap (asset_at b.assets) (g.once x h)

  -- ## Usable

  pub usable-in : (asset : ℕ) → usable (catalog_of b) asset ≡ true → InBookWithKey b asset
  unfolding usable
  usable-in asset e =
      let q : holds (catalog_of b) asset ≡ true = and_left (holds (catalog_of b) asset) _ e in
      record {
        position = position_of asset;
        below = holds-below asset q;
        number = holds-number asset q;
        key = sym (ap (λ (a : Asset). a.key) (named asset q)) ∙ eqb-true _ 1 (and_right (holds (catalog_of b) asset) _ e);
      }

  pub in-usable : (asset : ℕ) → InBookWithKey b asset → usable (catalog_of b) asset ≡ true
  unfolding usable
  in-usable asset i =
      subst (λ (n : ℕ). (holds (catalog_of b) n && eqb (asset_named (catalog_of b) n).key 1) ≡ true) i.number
      (and_both (at-holds i.position i.below) (eq-eqb _ 1 (ap (λ (a : Asset). a.key) (at_named i.position i.below) ∙ i.key)))

  -- ## Suitable

  abbrev inherit_of : ℕ → ℕ
  inherit_of asset = (asset_named (catalog_of b) asset).inherit

  abbrev heir : ℕ → Bool
  heir asset = holds (catalog_of b) (inherit_of asset) && is_parent (asset_named (catalog_of b) (inherit_of asset))

  parent-on : (asset : ℕ) → heir asset ≡ true → parent_of (catalog_of b) asset ≡ inherit_of asset
  unfolding parent_of
  parent-on asset e = rw e

  parent-off : (asset : ℕ) → heir asset ≡ false → parent_of (catalog_of b) asset ≡ 0
  unfolding parent_of
  parent-off asset e = rw e

  inherit-none : (asset : ℕ) → holds (catalog_of b) asset ≡ false → inherit_of asset ≡ 0
  unfolding asset_named
  inherit-none asset e = ap (λ (a : Asset). a.inherit) (cond-off (holds (catalog_of b) asset) _ no_asset e)

  serves-inherited : (asset owner : ℕ) → (parent_of (catalog_of b) asset ≡ 0 → ⊥) → owner ≡ parent_of (catalog_of b) asset → Serves b asset
      owner
  unfolding is_parent
  serves-inherited asset owner n e =
      on_test (heir asset)
      (λ q.
      let inh : holds (catalog_of b) (inherit_of asset) ≡ true = and_left (holds (catalog_of b) (inherit_of asset)) _ q in
      let par : is_parent (asset_named (catalog_of b) (inherit_of asset)) ≡ true = and_right (holds (catalog_of b) (inherit_of asset)) _ q in
      let a = named (inherit_of asset) inh in
      on_test (holds (catalog_of b) asset)
      (λ r. Serves.inherited (position_of asset) (position_of (inherit_of asset)) (holds-below asset r) (holds-below (inherit_of asset) inh)
      (holds-number asset r)
      (sym (ap (λ (x : Asset). x.inherit) (named asset r)) ∙ sym (holds-number (inherit_of asset) inh))
      (sym (ap (λ (x : Asset). x.key) a) ∙ eqb-true _ 0 (and_left (eqb (asset_named (catalog_of b) (inherit_of asset)).key 0) _ par))
      (sym (ap (λ (x : Asset). x.inherit) a) ∙ eqb-true _ 0 (and_right (eqb (asset_named (catalog_of b) (inherit_of asset)).key 0) _ par))
      (e ∙ parent-on asset q ∙ sym (holds-number (inherit_of asset) inh)))
      (λ r. absurd (n (parent-on asset q ∙ inherit-none asset r))))
      (λ q. absurd (n (parent-off asset q)))

  abbrev serving : ℕ → ℕ → Bool
  serving asset owner = eqb owner asset || (not (eqb (parent_of (catalog_of b) asset) 0) && eqb owner (parent_of (catalog_of b) asset))

  serving-to : (asset owner : ℕ) → serving asset owner ≡ true → Serves b asset owner
  serving-to asset owner e =
      on_test (eqb owner asset)
      (λ q. Serves.own (eqb-true owner asset q))
      (λ q.
      let z : (not (eqb (parent_of (catalog_of b) asset) 0) && eqb owner (parent_of (catalog_of b) asset)) ≡ true = rw q at e in
      serves-inherited asset owner
      (eqb-false _ 0 (not-true _ (and_left (not (eqb (parent_of (catalog_of b) asset) 0)) (eqb owner (parent_of (catalog_of b) asset)) z)))
      (eqb-true owner _ (and_right (not (eqb (parent_of (catalog_of b) asset) 0)) (eqb owner (parent_of (catalog_of b) asset)) z)))

  to-serving : (asset owner : ℕ) → Serves b asset owner → serving asset owner ≡ true
  unfolding is_parent
  to-serving asset owner (Serves.own e) = rw (eq-eqb owner asset e)
  to-serving asset owner (Serves.inherited x y hx hy nx ix ky iy oy) =
      let inh : inherit_of asset ≡ (asset_at b.assets y).number =
      ap (λ (n : ℕ). (asset_named (catalog_of b) n).inherit) (sym nx) ∙ ap (λ (a : Asset). a.inherit) (at_named x hx) ∙ ix in
      let par : heir asset ≡ true =
      subst (λ (n : ℕ). (holds (catalog_of b) n && is_parent (asset_named (catalog_of b) n)) ≡ true) (sym inh)
      (and_both (at-holds y hy)
      (subst (λ (a : Asset). is_parent a ≡ true) (sym (at_named y hy)) (and_both (eq-eqb _ 0 ky) (eq-eqb _ 0 iy)))) in
      let p : parent_of (catalog_of b) asset ≡ (asset_at b.assets y).number = parent-on asset par ∙ inh in
      let z : eqb (parent_of (catalog_of b) asset) 0 ≡ false = ne_eqb (parent_of (catalog_of b) asset) 0
      (λ w. absurd (omega (arith, p, g.numbered y hy))) in
      let v : eqb owner (parent_of (catalog_of b) asset) ≡ true = eq-eqb owner _ (oy ∙ sym p) in
      rw (z, v) (or-true (eqb owner asset))

  suits-is : (asset kind i : ℕ) → suits (catalog_of b) b.entries asset kind i ≡
      (eqb (limits_at b.entries i).kind kind && serving asset (limits_at b.entries i).asset)
  unfolding suitable own
  suits-is asset kind i = refl

  pub suits-to : (asset kind i : ℕ) → i < entries_in b → suits (catalog_of b) b.entries asset kind i ≡ true → Suits b asset kind i
  suits-to asset kind i h e =
      let z : (eqb (limits_at b.entries i).kind kind && serving asset (limits_at b.entries i).asset) ≡ true = sym
      (suits-is asset kind i) ∙ e in
      record {
        below = h;
        kind-is = eqb-true _ kind (and_left (eqb (limits_at b.entries i).kind kind) _ z);
        serves = serving-to asset _ (and_right (eqb (limits_at b.entries i).kind kind) _ z);
      }

  pub to-suits : (asset kind i : ℕ) → Suits b asset kind i → suits (catalog_of b) b.entries asset kind i ≡ true
  to-suits asset kind i s = suits-is asset kind i ∙ and_both (eq-eqb _ kind s.kind-is) (to-serving asset _ s.serves)

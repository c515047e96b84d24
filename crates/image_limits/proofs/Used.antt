-- A look-up among the first n slots of the table of assets is the definition's look-up up to n.
use Prim.Native.Nat.{ℕ, ◌<◌, ◌≤◌}
use mathlib.Core.Path.{◌≡◌, refl, sym, ap, ◌∙◌}
use mathlib.Core.Bool.{Bool, not}
use mathlib.Core.List.{List}
use native.Mathlib.Omega.{arith}
use lib.ListN.{length, take}
use lib.Seq.{length-take-le, get_or-take}
use lib.Dec.{eqb, ltb}
use borrow.Author.Tests.{lt-ltb, le-ltb}
use Rattle.std.specs.Option.{is_some, unwrap_or}
use Rattle.std.specs.List.{position_or_len}
use Rattle.std.proofs.lemmas.List.Sums.{prefix_len-le-length}
use Rattle.numbers.proofs.ListLaws.{position-first, first_same}
use Rattle.numbers.proofs.TableLaws.{below_or_not}
use Rattle.book.specs.Blank.{no_asset}
use Rattle.book.specs.declared.Asset.{Asset}
use Rattle.model.specs.Book.{asset_position, asset_legal}
use Rattle.image_limits.specs.Positions.{position_in}

module _ (ats : List Asset) (number : ℕ) where
  abbrev pub numbered : Asset → Bool
  numbered a = eqb a.number number

  pub counted : position_or_len numbered ats ≡ asset_position ats (length ats) number
  unfolding asset_position
  counted = position-first numbered ats no_asset

  at-most : asset_position ats (length ats) number ≤ length ats
  at-most = omega (arith, counted, prefix_len-le-length (λ a. not (numbered a)) ats)

  -- None stands for the number of assets
  pub or_length : unwrap_or (position_in ats number) (length ats) ≡ asset_position ats (length ats) number
  or_length =
      below_or_not (asset_position ats (length ats) number) (length ats)
      (λ h. rw (lt-ltb _ _ h))
      (λ h. rw (le-ltb _ _ h) (omega (arith, h, at-most)))

  pub is_known : is_some (position_in ats number) ≡ ltb (asset_position ats (length ats) number) (length ats)
  is_known =
      below_or_not (asset_position ats (length ats) number) (length ats)
      (λ h. rw (lt-ltb _ _ h))
      (λ h. rw (le-ltb _ _ h))

module _ (ats : List Asset) (n : ℕ) (fits : n ≤ length ats) where
  pub position_used : (number : ℕ) → asset_position (take n ats) (length (take n ats)) number ≡ asset_position ats n number
  unfolding asset_position
  position_used number = rw (length-take-le n ats fits) (first_same _ _ n (λ i l. ap (numbered ats number) (get_or-take n ats i no_asset l)))

  pub known_used : (number : ℕ) → is_some (position_in (take n ats) number) ≡ ltb (asset_position ats n number) n
  known_used number = is_known (take n ats) number ∙ (rw (position_used number, length-take-le n ats fits))

  pub or_used : (number : ℕ) → unwrap_or (position_in (take n ats) number) n ≡ asset_position ats n number
  or_used number =
      ap (unwrap_or (position_in (take n ats) number)) (sym (length-take-le n ats fits))
      ∙ or_length (take n ats) number
      ∙ position_used number

  pub legal_used : (i : ℕ) (a : Asset) → asset_legal (take n ats) (length (take n ats)) i a ≡ asset_legal ats n i a
  unfolding asset_legal
  legal_used i a = rw (position_used a.number)

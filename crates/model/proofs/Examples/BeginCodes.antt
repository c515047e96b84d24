-- "**Begin**, in order: 11, 10, 12, 13.": begins with more than one ground for refusal, on the afternoon's book, computed as one list.
use mathlib.Core.Path.{◌≡◌, refl}
use mathlib.Core.List.{[], ◌∷◌}
use Rattle.book.specs.declared.Kind.TheVariants.{Play, Display, Execute, Print}
use Rattle.book.specs.declared.Request.TheVariants.{Begin}
use Rattle.model.specs.Step.{refusal}
use Rattle.model.proofs.Examples.Afternoon.{start, event, granted, run}
use Rattle.model.proofs.Examples.Computes.{events_run}

-- Player 0 has a use open from 1000 to 1060: 11, whatever it asks for. Asset 5 is not in the book, 7 is illegal, 9 is a parent: 10, both
-- where an entry of 9 itself would be suitable (play) and where none would be (print). Asset 1 has no print or execute entry: 12. Its one
-- display entry is in use by player 2: 13. At 1060 player 0's use has ended: 10.
pub in_order :
    run start
    (event 0 1 (Begin Play 1) 1000
    ∷ event 0 2 (Begin Play 5) 1001
    ∷ event 0 3 (Begin Play 7) 1002
    ∷ event 0 4 (Begin Print 1) 1003
    ∷ event 0 5 (Begin Play 1) 1004
    ∷ event 1 1 (Begin Play 5) 1005
    ∷ event 1 2 (Begin Play 7) 1006
    ∷ event 1 3 (Begin Play 9) 1007
    ∷ event 1 4 (Begin Print 9) 1008
    ∷ event 1 5 (Begin Print 1) 1009
    ∷ event 1 6 (Begin Execute 1) 1010
    ∷ event 2 1 (Begin Display 1) 1011
    ∷ event 1 7 (Begin Display 1) 1012
    ∷ event 0 6 (Begin Play 5) 1060
    ∷ [])
    ≡ (granted 0 1060
    ∷ refusal 11
    ∷ refusal 11
    ∷ refusal 11
    ∷ refusal 11
    ∷ refusal 10
    ∷ refusal 10
    ∷ refusal 10
    ∷ refusal 10
    ∷ refusal 12
    ∷ refusal 12
    ∷ granted 2 1071
    ∷ refusal 13
    ∷ refusal 10
    ∷ [])
unfolding events_run
in_order = refl

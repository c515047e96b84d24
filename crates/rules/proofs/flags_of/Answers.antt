-- `rules::flags_of` meets its contract: flag 1 is read without dividing by 1.
use Rattle.model.specs.Book.{flagged}
use Rattle.rules.specs.Rules.{flags_of}
use native.Mathlib.Nat.{div-one}
use Rattle.rules.proofs.flags_of.Goals as goal

pub returns : goal.returns
unfolding flags_of flagged
returns c = rw div-one

-- A legal book with its time, meters, players and event taken last blanked is fresh and legal.
use Rattle.model.specs.Renewed.{renewed, Renewed}
use Rattle.model.proofs.Demand3.Proof.{demand3}
use Rattle.model.proofs.Legal.Blanked.{new-fresh, new-legal, new-typed, new-same}
pub use Rattle.model.proofs.Legal.Blanked.{unused-meters}

pub renewal : Renewed
renewal = record {
  fresh = new-fresh;
  legal = new-legal;
  typed = new-typed;
  same = new-same;
  demand = λ b h. demand3 (renewed b) (new-legal b h) (new-fresh b h);
}

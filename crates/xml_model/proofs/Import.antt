-- Order 1 in other words (`specs/Import`), proved. Its premises are met: `Examples.Accepted` has accepted texts, `Examples.Refused`
-- refused ones with the places of their faults.
use Prim.Native.Nat.{ℕ}
use mathlib.Core.Path.{◌≡◌}
use mathlib.Core.List.{List}
use Rattle.xml_model.specs.Import.{Import}
use Rattle.xml_model.specs.Text.{progress_of, reading_of}
use Rattle.xml_model.proofs.Legal.{reading-fresh, reading-legal, reading-typed, reading-image, reading-demand3, reading-code}
use Rattle.xml_model.proofs.Legal.{reading-unmetered, reading-ungrouped, reading-most, refused-nothing}
use Rattle.xml_model.proofs.Counts.{counts_same}
use Rattle.xml_model.proofs.Decides.{reading-decides, agree-bytes, cut}

same_code : (s : List ℕ) → ((reading_of s).code ≡ 0 → ⊥) → (progress_of s).code ≡ 0 → ⊥
unfolding reading_of
same_code s n = n

pub import : Import
import = record {
  answers = reading-code;
  counts = counts_same;
  most = reading-most;
  fresh = reading-fresh;
  legal = reading-legal;
  typed = reading-typed;
  demand3 = reading-demand3;
  unmetered = reading-unmetered;
  ungrouped = reading-ungrouped;
  reads_back = reading-image;
  refused = refused-nothing;
  decides = λ s z n g. reading-decides s z (same_code s n) g;
  cut = λ s rest n h. cut s rest (same_code s n) h;
  agreeing = agree-bytes;
}

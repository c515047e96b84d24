-- Bytes that are known, taken of an input or written to an output in several steps.
use Rattle.std.proofs.Common.{◌≡◌, ℕ, ◌+◌, List, ◌++◌, take, drop, sym, ap, subst, ◌∙◌}
use Rattle.std.specs.declared.option.Option.{Option}
use Rattle.std.specs.Io.KnownBytes.{Appends, Consumes, Keeps}
use Rattle.std.proofs.KnownBytes.{Appends-kept, Appends-trans, Consumes-trans}
use lib.Seq.{take-add}

-- the first n, and k more
taken : (n k m : ℕ) (xs : List ℕ) → m ≡ n + k → take n xs ++ take k (drop n xs) ≡ take m xs
taken n k m xs e = sym (take-add n k xs) ∙ ap (λ i. take i xs) (sym e)

pub appends_more : (a b c : Option (List ℕ)) (n k m : ℕ) (xs : List ℕ) → m ≡ n + k → Appends a b (take n xs)
    → Appends b c (take k (drop n xs)) → Appends a c (take m xs)
appends_more a b c n k m xs e p q = subst (Appends a c) (taken n k m xs e) (Appends-trans a b c _ _ p q)

-- nothing more was written
pub appends_same : (a b c : Option (List ℕ)) (n m : ℕ) (xs : List ℕ) → m ≡ n → Appends a b (take n xs) → Keeps b c → Appends a c (take m xs)
appends_same a b c n m xs e p q = subst (λ i. Appends a c (take i xs)) (sym e) (Appends-kept a b c _ p q)

-- the buffer kept its first n
pub consumes_more : (a b c : Option (List ℕ)) (n k m : ℕ) (old new : List ℕ) → m ≡ n + k → take n new ≡ take n old
    → Consumes a b (take n old) → Consumes b c (take k (drop n new)) → Consumes a c (take m new)
consumes_more a b c n k m old new e same p q =
    subst (Consumes a c) (taken n k m new e) (Consumes-trans a b c _ _ (subst (Consumes a b) (sym same) p) q)

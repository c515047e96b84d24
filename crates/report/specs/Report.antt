-- The lines of the usage report as the code holds them: one raised, and a list by value in 64 places.
use Rattle.std.specs.Prelude.{ℕ, zero, suc, ◌<◌, ◌≤◌, min, ◌≡◌, refl, Bool, true, false, cond, List, [], ◌∷◌, length, get_or, set, replicate, take, drop, ◌++◌, leb}
use Rattle.std.proofs.Common.{not-suc-le-zero, le_of_suc-le-suc, ap}
use Rattle.numbers.specs.Count.{one}
use Rattle.book.specs.declared.Limits.{Limits}
use Rattle.book.specs.declared.Line.{Line}
use Rattle.book.specs.Blank.{no_line}
use Rattle.model.specs.Report.{sum64, raised}

-- a line after a use of so many seconds has ended, counted or not
unfoldable pub raised_line : Line → ℕ → Bool → Line
raised_line l seconds counted = record {
  content = l.content;
  times = sum64 l.times (cond counted 1 0);
  seconds = sum64 l.seconds seconds;
}

one-cond : (b : Bool) → cond b 1 0 ≡ one b
one-cond true = refl
one-cond false = refl

-- it counts if it ran at least the timed value
pub raised_is : (l : Limits) (seconds : ℕ) (x : Line) → raised_line x seconds (leb l.timedvalue seconds) ≡ raised l seconds x
unfolding raised_line raised
raised_is l seconds x = rw (one-cond (leb l.timedvalue seconds))

-- the list with line k raised: past its end nothing changes
unfoldable pub raised_at : List Line → ℕ → ℕ → Bool → List Line
raised_at ls k seconds counted = set ls k (raised_line (get_or ls k no_line) seconds counted)

-- ## Lines by value

-- the first n elements of a list, replaced by those of another: past the end of either nothing changes
unfoldable pub copied : {A : Type 0} → ℕ → List A → List A → List A
copied zero src dst = dst
copied (suc n) [] dst = dst
copied (suc n) (x ∷ xs) [] = []
copied (suc n) (x ∷ xs) (y ∷ ys) = x ∷ copied n xs ys

pub copied_none : {A : Type 0} (src dst : List A) → copied 0 src dst ≡ dst
unfolding copied
copied_none src dst = refl

pub copied-length : {A : Type 0} (n : ℕ) (src dst : List A) → length (copied n src dst) ≡ length dst
unfolding copied
copied-length zero src dst = refl
copied-length (suc n) [] dst = refl
copied-length (suc n) (x ∷ xs) [] = refl
copied-length (suc n) (x ∷ xs) (y ∷ ys) = ap suc (copied-length n xs ys)

-- one element more
pub copied_next : {A : Type 0} (n : ℕ) (src dst : List A) (d : A) → n < length src → n < length dst → set (copied n src dst) n (get_or src n
    d) ≡ copied (suc n) src dst
unfolding copied
copied_next n [] dst d a b = absurd (not-suc-le-zero a)
copied_next zero (x ∷ xs) [] d a b = absurd (not-suc-le-zero b)
copied_next (suc n) (x ∷ xs) [] d a b = absurd (not-suc-le-zero b)
copied_next zero (x ∷ xs) (y ∷ ys) d a b = refl
copied_next (suc n) (x ∷ xs) (y ∷ ys) d a b = ap (λ r. x ∷ r) (copied_next n xs ys d (le_of_suc-le-suc a) (le_of_suc-le-suc b))

-- within both, the first n of one are followed by what is behind the first n of the other
pub copied-parts : {A : Type 0} (n : ℕ) (src dst : List A) → n ≤ length src → n ≤ length dst → take n src ++ drop n dst ≡ copied n src dst
unfolding copied
copied-parts zero src dst a b = refl
copied-parts (suc n) [] dst a b = absurd (not-suc-le-zero a)
copied-parts (suc n) (x ∷ xs) [] a b = absurd (not-suc-le-zero b)
copied-parts (suc n) (x ∷ xs) (y ∷ ys) a b = ap (λ r. x ∷ r) (copied-parts n xs ys (le_of_suc-le-suc a) (le_of_suc-le-suc b))

-- the first 64 lines of a list, blank ones behind its last
unfoldable pub taken_lines : List Line → List Line
taken_lines ls = copied (min (length ls) 64) ls (replicate 64 no_line)

-- a list with lines stored to it, as many as it has
unfoldable pub given_lines : List Line → List Line → List Line
given_lines lines ls = copied (min (length ls) 64) lines ls

-- lines that come back as they were taken leave the list as it is
copied-back : {A : Type 0} (n : ℕ) (ls dst : List A) → copied n (copied n ls dst) ls ≡ ls
unfolding copied
copied-back zero ls dst = refl
copied-back (suc n) [] [] = refl
copied-back (suc n) [] (y ∷ ys) = refl
copied-back (suc n) (x ∷ xs) [] = refl
copied-back (suc n) (x ∷ xs) (y ∷ ys) = ap (λ r. x ∷ r) (copied-back n xs ys)

pub given-taken : (ls : List Line) → given_lines (taken_lines ls) ls ≡ ls
unfolding given_lines taken_lines
given-taken ls = copied-back (min (length ls) 64) ls (replicate 64 no_line)

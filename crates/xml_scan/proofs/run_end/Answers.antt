use Rattle.std.specs.Prelude.{◌≡◌, ℕ, ◌+◌, ◌-◌, not, Option, List, length, drop, position, unwrap_or, slice_range}
use Rattle.std.proofs.Common.{sym, ◌∙◌, arith}
use lib.ListN.{length-drop}
use lib.Seq.{take_all}
use Rattle.xml_model.specs.Bytes.{in_class, run_end}
use Rattle.xml_model.proofs.Runs.{run_out, span-position}
use Rattle.xml_scan.specs.Classes.{class_code}
use Rattle.xml_scan.proofs.run_end.Goals as goal

-- what is read is what stands behind `from`
rest : (s t : List ℕ) (i : ℕ) → t ≡ slice_range s i (length s) → t ≡ drop i s
rest s t i e = e ∙ take_all (length s - i) (drop i s) (omega (arith, length-drop i s))

ends : (k : ℕ) (s t : List ℕ) (i r : ℕ) (o : Option ℕ) → t ≡ drop i s → o ≡ position (λ x. not (in_class k x)) t
    → r ≡ unwrap_or o (length t) → i + r ≡ run_end k s i
unfolding run_end
ends k s t i r o h p q = rw (q, p, span-position (in_class k) t, h)

pub returns-in_default : goal.returns-in_default
returns-in_default c =
    let a = c.args in
    sym (run_out (class_code a.class) a.s.now a.from (omega (arith, c.in_default.ensures.lookup.0)))

pub returns : goal.returns
returns c =
    let a = c.args in
    let x = c.in-Some in
    ends _ a.s.now x.rest.now a.from _ _ (rest a.s.now _ a.from x.ensures.lookup.0.2) c.first_outside.ensures c.unwrap_or.ensures

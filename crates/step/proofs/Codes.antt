-- A refusal, and a begin by the code that it returns: the laws of specs/Step by the codes of document 01, with position 64 for none.
use Rattle.std.specs.Prelude.{ℕ, suc, ◌%◌, ◌≤◌, ◌<◌, ◌≡◌, refl, Bool, true, false, cond, List, length, ltb}
use Rattle.std.proofs.Common.{arith, sym, ap, ◌∙◌, ltb-true, ltb-false}
use Rattle.std.proofs.Math.Seq.{set_out}
use Rattle.numbers.proofs.Tests.{on_test}
use Rattle.book.specs.declared.Entry.{Entry}
use Rattle.book.specs.declared.Open.{Open}
use Rattle.book.specs.declared.Ask.{Ask}
use Rattle.book.specs.Blank.{no_meters}
use Rattle.model.specs.Book.{limits_at, meters_at, latest_time}
use Rattle.model.specs.Choice.{Catalog, usable, parent_of, suits, any_of, grantable, chosen, choose, fails_for_switch, none_grantable}
use Rattle.model.specs.Step.{unchanged, granted, do_begin}
use Rattle.model.specs.Meters.{is_on}
use Rattle.choice.specs.Best.{Best, best_after}
use Rattle.choice.specs.Choice.{best-some, best-nobody}
use Rattle.rules.specs.Codes.{begin_code}
use Rattle.uses.specs.declared.Effect.{Effect}
use Rattle.uses.specs.Uses.{kept, placed, stored, begin_on, begin-placed}
use Rattle.step.specs.declared.Act.{Act}
use Rattle.step.specs.Step.{begin-11, begin-10, begin-12}

-- a refusal, which changes no entry
abbrev pub refused : ℕ → Open → Act
refused code o = record { at = 64; part = kept code no_meters o }

pub refused-placed : (code : ℕ) (o : Open) (es : List Entry) → length es ≤ 64 → placed 64 (kept code no_meters o) es ≡ unchanged code es o
unfolding placed stored
refused-placed code o es h = ap (λ (x : List Entry). unchanged code x o) (set_out es 64 _ h)

-- ## A begin

module _ (c : Catalog) (es : List Entry) (o : Open) (ask : Ask) (asset kind : ℕ) where
  abbrev best : Best
  best = best_after es asset (parent_of c asset) kind ask c.entry_count

  module _ (off : is_on o ≡ false) where
    module _ (u : usable c asset ≡ true) where
      module _ (s : any_of (suits c es asset kind) c.entry_count ≡ true) (k : ℕ) (e : k ≡ best.at) where
        begin-choice : do_begin c es o ask asset kind
            ≡ granted (none_grantable c es ask asset kind) ask asset es o (choose c es ask asset kind)
        unfolding do_begin
        begin-choice = rw (off, u, s)

        pub begin-none : c.entry_count ≤ 64 → 64 ≤ k → do_begin c es o ask asset kind ≡ unchanged (none_grantable c es ask asset kind) es o
        begin-none h p =
            begin-choice
            ∙ ap (granted (none_grantable c es ask asset kind) ask asset es o) (best-nobody c es ask asset kind h (omega arith))

        pub begin-grants : (part : Effect) → k < 64 → ask.time ≤ latest_time → part ≡ begin_on k asset ask (limits_at es k) (meters_at es k) o
            → placed k part es ≡ do_begin c es o ask asset kind
        begin-grants part p h q =
            let w = best-some c es ask asset kind (omega arith) in
            let g : grantable ask (limits_at es k) (meters_at es k) ≡ true = rw e w.1 in
            ap (λ (x : Effect). placed k x es) q ∙ begin-placed k asset (none_grantable c es ask asset kind) ask es o g h
            ∙ sym (begin-choice ∙ ap (granted (none_grantable c es ask asset kind) ask asset es o) (w.0 ∙ ap chosen (sym e)))

  -- the same by the code that is returned: `us`, `su` and `sw` are what the code found, and k the position chosen
  module _ (us su sw : Bool) (k code : ℕ)
      (hu : us ≡ usable c asset)
      (hs : is_on o ≡ false → usable c asset ≡ true → su ≡ any_of (suits c es asset kind) c.entry_count)
      (hk : is_on o ≡ false → usable c asset ≡ true → k ≡ best.at)
      (hw : is_on o ≡ false → usable c asset ≡ true → sw ≡ any_of (fails_for_switch c es ask asset kind) c.entry_count)
      (few : c.entry_count ≤ 64)
      (hc : code ≡ begin_code (is_on o) us su (ltb k 64) sw) where
    refused-by : (x : ℕ) → code ≡ x → do_begin c es o ask asset kind ≡ unchanged x es o → unchanged code es o ≡ do_begin c es o ask asset kind
    refused-by x h d = ap (λ (y : ℕ). unchanged y es o) h ∙ sym d

    none_is : sw ≡ any_of (fails_for_switch c es ask asset kind) c.entry_count → cond sw 43 13 ≡ none_grantable c es ask asset kind
    unfolding none_grantable
    none_is h = rw h

    none-some : (w : Bool) → ◌≡◌ {A = ℕ} (cond w 43 13) 0 → ⊥
    none-some true h = omega arith
    none-some false h = omega arith

    pub begin-refused : (code ≡ 0 → ⊥) → unchanged code es o ≡ do_begin c es o ask asset kind
    begin-refused some =
        on_test (is_on o)
        (λ on. refused-by 11 (hc ∙ rw on refl) (begin-11 c es o ask asset kind on))
        (λ off. on_test (usable c asset)
        (λ u. on_test su
        (λ s. on_test (ltb k 64)
        (λ l. absurd (some (hc ∙ rw (off, hu ∙ u, s, l) refl)))
        (λ l. refused-by (none_grantable c es ask asset kind) (hc ∙ rw (off, hu ∙ u, s, l) (none_is (hw off u)))
        (begin-none off u (sym (hs off u) ∙ s) k (hk off u) few (omega (arith, ltb-false k 64 l)))))
        (λ s. refused-by 12 (hc ∙ rw (off, hu ∙ u, s) refl) (begin-12 c es o ask asset kind off u (sym (hs off u) ∙ s))))
        (λ u. refused-by 10 (hc ∙ rw (off, hu ∙ u) refl) (begin-10 c es o ask asset kind off u)))

    not-zero : (x : ℕ) → code ≡ 0 → code ≡ suc x → ⊥
    not-zero x z h = omega (arith, sym z ∙ h)

    pub begin-placed-at : ask.time ≤ latest_time → code ≡ 0 → (part : Effect) → part ≡ begin_on (k % 256) asset ask (limits_at es k)
        (meters_at es k) o
        → placed k part es ≡ do_begin c es o ask asset kind
    begin-placed-at ht none part part-is =
        on_test (is_on o)
        (λ on. absurd (not-zero 10 none (hc ∙ rw on refl)))
        (λ off. on_test (usable c asset)
        (λ u. on_test su
        (λ s. on_test (ltb k 64)
        (λ l.
        let small = ltb-true k 64 l in
        let whole : k % 256 ≡ k = omega arith in
        begin-grants off u (sym (hs off u) ∙ s) k (hk off u) part small ht (part-is ∙ rw whole refl))
        (λ l. absurd (none-some sw (sym (hc ∙ rw (off, hu ∙ u, s, l) refl) ∙ none))))
        (λ s. absurd (not-zero 11 none (hc ∙ rw (off, hu ∙ u, s) refl))))
        (λ u. absurd (not-zero 9 none (hc ∙ rw (off, hu ∙ u) refl))))

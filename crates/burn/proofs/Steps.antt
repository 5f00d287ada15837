-- The first step of the plan is the step at the first word that differs, and the plan from there is the rest. Assumes nothing.
use Prim.Native.Nat.{ℕ, zero, suc, ◌+◌, ◌*◌, ◌<◌}
use mathlib.Core.Path.{◌≡◌, refl, sym, ap, ◌∙◌}
use mathlib.Core.Bool.{Bool, true, false}
use mathlib.Core.List.{List, [], ◌∷◌}
use native.Mathlib.Omega.{arith}
use lib.Dec.{eqb}
use lib.ListN.{length}
use borrow.Author.Tests.{eqb-true, eqb-false, eq-eqb, ne_eqb, not-true, not-false}
use Rattle.lists.specs.Pick.{pick}
use Rattle.util.specs.Words.{word_at}
use Rattle.burn.specs.declared.Step.{Step}
use Rattle.burn.specs.Burn.{differ_at, next_value, word_set}
use Rattle.burn.specs.Plan.{sets, steps_for, steps_at, plan_below}
use Rattle.burn.proofs.Words.{word-other, word_same}

-- of a word that is to become another, by whether the old and the new are zero
first-for : (w old new : ℕ) (o n : Bool) → eqb old 0 ≡ o → eqb new 0 ≡ n → eqb old new ≡ false
    → steps_for w old new ≡ sets w (pick (eqb old 0) new 0) ∷ steps_for w (pick (eqb old 0) new 0) new
first-for w old new true true e f d = absurd (eqb-false old new d (eqb-true old 0 e ∙ sym (eqb-true new 0 f)))
first-for w old new true false e f d = simp (e, f, d, eq-eqb new new refl)
first-for w old new false true e f d = simp (e, f, d, eq-eqb 0 new (sym (eqb-true new 0 f)))
first-for w old new false false e f d = simp (e, f, d, ne_eqb 0 new (λ z. eqb-false new 0 f (sym z)))

module _ (p q : List ℕ) (w : ℕ) where
  abbrev after : List ℕ
  after = word_set p w (next_value p q w)

  first_of : differ_at p q w ≡ true → steps_at p q w ≡ sets w (next_value p q w) ∷ steps_for w (next_value p q w) (word_at q w)
  unfolding differ_at steps_at next_value
  first_of d = first-for w (word_at p w) (word_at q w) _ _ refl refl (not-true _ d)

  steps_then : w * 2 + 1 < length p → steps_at after q w ≡ steps_for w (next_value p q w) (word_at q w)
  unfolding steps_at
  steps_then h = rw (word_same p w (next_value p q w) h) refl

  -- the word that is set
  steps-set : w * 2 + 1 < length p → differ_at p q w ≡ true → steps_at p q w ≡ sets w (next_value p q w) ∷ steps_at after q w
  steps-set h d = first_of d ∙ ap (λ (x : List Step). sets w (next_value p q w) ∷ x) (sym (steps_then h))

  -- another
  steps-other : (v : ℕ) → (v ≡ w → ⊥) → steps_at after q v ≡ steps_at p q v
  unfolding steps_at
  steps-other v f = rw (word-other p w (next_value p q w) v f) refl

  pub differ-other : (x v : ℕ) → (v ≡ w → ⊥) → differ_at (word_set p w x) q v ≡ differ_at p q v
  unfolding differ_at
  differ-other x v f = rw (word-other p w x v f) refl

-- where no word differs there is no step
no_steps : (p q : List ℕ) (v : ℕ) → differ_at p q v ≡ false → steps_at p q v ≡ []
unfolding steps_at differ_at
no_steps p q v e = rw (not-false (eqb (word_at p v) (word_at q v)) e) refl

pub no-plan : (n : ℕ) (p q : List ℕ) → ((v : ℕ) → v < n → differ_at p q v ≡ false) → plan_below n p q ≡ []
unfolding plan_below
no-plan zero p q f = refl
no-plan (suc n) p q f = rw (no-plan n p q (λ v h. f v (omega arith)), no_steps p q n (f n (omega arith))) refl

-- the plan is its first step, and the plan from there
module _ (p q : List ℕ) (w : ℕ) (fits : w * 2 + 1 < length p) (first : (v : ℕ) → v < w → differ_at p q v ≡ false) (differs : differ_at p q w ≡ true) where
  plan-at : (n : ℕ) (t : Bool) → eqb n w ≡ t → w < suc n → (w < n → plan_below n p q ≡ sets w (next_value p q w) ∷ plan_below n (after p q w) q)
      → plan_below (suc n) p q ≡ sets w (next_value p q w) ∷ plan_below (suc n) (after p q w) q
  unfolding plan_below
  plan-at n true e l f =
      let g = eqb-true n w e in
      rw (
        no-plan n p q (λ v h. first v (omega arith)),
        no-plan n (after p q w) q (λ v h. differ-other p q w (next_value p q w) v (λ k. omega arith) ∙ first v (omega arith)),
        g,
      )
      (steps-set p q w fits differs)
  plan-at n false e l f = rw (f (let g = eqb-false n w e in omega arith), steps-other p q w n (eqb-false n w e)) refl

  pub plan-first : (n : ℕ) → w < n → plan_below n p q ≡ sets w (next_value p q w) ∷ plan_below n (after p q w) q
  plan-first zero l = absurd (let x : ⊥ = omega arith in x)
  plan-first (suc n) l = plan-at n (eqb n w) refl l (plan-first n)

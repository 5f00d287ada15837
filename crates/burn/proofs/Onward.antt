-- One call, of images that nothing stops: it does the first step of the plan, and the plan from there is the rest. Assumes nothing.
use Prim.Native.Nat.{ℕ, ◌<◌, ◌≤◌}
use mathlib.Core.Path.{◌≡◌, refl, sym, ap, ◌∙◌}
use mathlib.Core.Bool.{Bool, true, false, true≢false}
use mathlib.Core.List.{List, [], ◌∷◌}
use native.Mathlib.Omega.{arith}
use lib.Dec.{eqb, leb}
use lib.ListN.{drop}
use borrow.Author.Tests.{eqb-true, eqb-false, leb-true, leb-false}
use Rattle.std.specs.Prelude.{Option, Some, None, Result, Ok, Err}
use Rattle.refusal.specs.declared.Refusal.{Refusal}
use Rattle.lists.proofs.First.{is-first, first-same}
use Rattle.map.specs.Map.{card_words, checked}
use Rattle.burn.specs.declared.Step.{Step}
use Rattle.burn.specs.Burn.{differ_at, unchecked_at, first_differ, first_unchecked, reached, burn_tests, burn_verdict, next_value, next_of, done, leaves}
use Rattle.burn.specs.Plan.{sets, plan}
use Rattle.burn.specs.Inner.{IsDue}
use Rattle.burn.proofs.Tests.{opened, none-due, is-due, goes_on, due}
use Rattle.burn.proofs.Words.{length-word}
use Rattle.burn.proofs.Steps.{differ-other, no-plan, plan-first}

-- what is next by a plan
abbrev pub headed : List Step → Result (Option Step) Refusal
headed [] = Ok None
headed (s ∷ rest) = Ok (Some s)

abbrev pub is_done : List Step → Bool
is_done [] = true
is_done (s ∷ rest) = false

pub unchecked-is : (p q : List ℕ) (v : ℕ) → checked v ≡ false → unchecked_at p q v ≡ differ_at p q v
unfolding unchecked_at
unchecked-is p q v e = rw e refl

checked-is : (p q : List ℕ) (v : ℕ) → checked v ≡ true → unchecked_at p q v ≡ false
unfolding unchecked_at
checked-is p q v e = rw e refl

-- of a step that is due, its word differs
module _ (p q : List ℕ) (s : Step) (d : IsDue p q s) where
  pub word-differs : differ_at p q s.word ≡ true
  word-differs = let h = d.within in let e = d.word in rw e ((is-first (differ_at p q) 0 card_words).at (omega arith))

  -- and is checked
  checked-by : (t : Bool) → checked s.word ≡ t → t ≡ true
  checked-by true e = refl
  checked-by false e =
      let h = d.within in
      let u = d.passed.unchecked in
      absurd (true≢false (sym (unchecked-is p q s.word e ∙ word-differs) ∙ (is-first (unchecked_at p q) 0 card_words).before s.word (omega arith) (omega arith)))

  pub word-checked : checked s.word ≡ true
  word-checked = checked-by (checked s.word) refl

  -- no other word moves, so no unchecked one newly differs
  unchecked-same : (v : ℕ) (t : Bool) → eqb v s.word ≡ t → unchecked_at (done p s) q v ≡ unchecked_at p q v
  unchecked-same v true e =
      let c : checked v ≡ true = rw (eqb-true v s.word e) word-checked in
      checked-is (done p s) q v c ∙ sym (checked-is p q v c)
  unchecked-same v false e = same_by (checked v) refl
    where
      same_by : (b : Bool) → checked v ≡ b → unchecked_at (done p s) q v ≡ unchecked_at p q v
      same_by true c = checked-is (done p s) q v c ∙ sym (checked-is p q v c)
      same_by false c =
          unchecked-is (done p s) q v c ∙ differ-other p q s.word s.value v (eqb-false v s.word e) ∙ sym (unchecked-is p q v c)

  first-unchecked-same : first_unchecked (done p s) q ≡ first_unchecked p q
  first-unchecked-same =
      first-same (unchecked_at (done p s) q) (unchecked_at p q) 0 card_words (λ v _. unchecked-same v (eqb v s.word) refl)

  verdict-same : burn_verdict (done p s) q ≡ burn_verdict p q
  unfolding burn_tests
  verdict-same = rw (first-unchecked-same, length-word p s.word s.value) refl

-- a call stops nothing that went on, and lets nothing go on that was stopped
verdict-by : (p q : List ℕ) (n : Result (Option Step) Refusal) → next_of p q ≡ n → burn_verdict (leaves n p) q ≡ burn_verdict p q
verdict-by p q (Err refusal) e = refl
verdict-by p q (Ok None) e = refl
verdict-by p q (Ok (Some s)) e = verdict-same p q s (due p q s e)

pub verdict-stays : (p q : List ℕ) → burn_verdict (leaves (next_of p q) p) q ≡ burn_verdict p q
verdict-stays p q = verdict-by p q (next_of p q) refl

-- images that nothing stops, by whether a word differs
module _ (p q : List ℕ) (o : burn_verdict p q ≡ Ok tt) where
  module _ (h : card_words ≤ first_differ p q) where
    none-next : next_of p q ≡ Ok None
    none-next = goes_on p q o ∙ ap (λ (o : Option Step). Ok o) (none-due p q h)

    none-planned : plan p q ≡ []
    none-planned = no-plan card_words p q (λ v k. (is-first (differ_at p q) 0 card_words).before v (omega arith) (omega arith))

  abbrev step : Step
  step = sets (first_differ p q) (next_value p q (first_differ p q))

  module _ (h : first_differ p q < card_words) where
    due-next : next_of p q ≡ Ok (Some step)
    due-next = goes_on p q o ∙ ap (λ (o : Option Step). Ok o) (sym (is-due p q refl refl h))

    due-planned : plan p q ≡ step ∷ plan (done p step) q
    due-planned =
        let l = (opened p q o).here in
        plan-first p q (first_differ p q) (omega arith) (λ v k. (is-first (differ_at p q) 0 card_words).before v (omega arith) k)
        ((is-first (differ_at p q) 0 card_words).at (omega arith)) card_words h

  head-by : (t : Bool) → leb card_words (first_differ p q) ≡ t → next_of p q ≡ headed (plan p q)
  head-by true e = let h = leb-true _ _ e in rw (none-planned h) (none-next h)
  head-by false e = let h = leb-false _ _ e in rw (due-planned h) (due-next h)

  tail-by : (t : Bool) → leb card_words (first_differ p q) ≡ t → plan (leaves (next_of p q) p) q ≡ drop 1 (plan p q)
  tail-by true e = let h = leb-true _ _ e in rw (none-next h, none-planned h) refl
  tail-by false e = let h = leb-false _ _ e in ap (λ (n : Result (Option Step) Refusal). plan (leaves n p) q) (due-next h) ∙ sym (ap (λ (l : List Step). drop 1 l) (due-planned h))

  done-by : (t : Bool) → leb card_words (first_differ p q) ≡ t → t ≡ is_done (plan p q)
  done-by true e = rw (none-planned (leb-true _ _ e)) refl
  done-by false e = rw (due-planned (leb-false _ _ e)) refl

  -- what is next is the plan's first step
  pub next-is : next_of p q ≡ headed (plan p q)
  next-is = head-by (leb card_words (first_differ p q)) refl

  -- the plan from there is the rest
  pub rest-is : plan (leaves (next_of p q) p) q ≡ drop 1 (plan p q)
  rest-is = tail-by (leb card_words (first_differ p q)) refl

  -- and the wanted image is reached exactly if there is no step
  pub reached-is : reached p q ≡ is_done (plan p q)
  reached-is = done-by (leb card_words (first_differ p q)) refl

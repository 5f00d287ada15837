-- `burn::burn` meets its contract: what is due is done, and nothing else. Assumes nothing.
use Rattle.std.proofs.Common.{rules, ◌≡◌, ℕ, ◌+◌, ◌*◌, ◌<◌, ◌≤◌, List, length, Option, Some, Result, Ok, sym, ap, ◌∙◌, arith}
use Rattle.refusal.specs.declared.Refusal.{Refusal}
use Rattle.map.specs.Map.{image_bytes}
use Rattle.burn.specs.declared.Step.{Step}
use Rattle.burn.specs.Burn.{next_of, done, word_set}
use Rattle.burn.proofs.Tests.{due}
use Rattle.burn.proofs.Words.{length-word}
use Rattle.burn.proofs.burn.Goals as goal

-- what a step that is due needs
module _ (p q : List ℕ) {n : Result (Option Step) Refusal} (e : n ≡ next_of p q) where
  -- the word is there
  there : (s : Step) → n ≡ Ok (Some s) → s.word * 2 + 1 < length p
  there s f = let d = due p q s (sym e ∙ f) in let l = d.passed.here in let w = d.within in omega arith

  -- and both images are as long as before
  long : (s : Step) {after : List ℕ} → n ≡ Ok (Some s) → after ≡ done p s → (image_bytes ≤ length after) × (image_bytes ≤ length q)
  long s f g = let d = due p q s (sym e ∙ f) in (rw (g, length-word p s.word s.value) d.passed.here, d.passed.there)

pub put_word-requires : goal.put_word-requires
put_word-requires c = there _ _ c.next_step.ensures _ (c.in_ok-step.was ∙ ap (λ (o : Option Step). Ok o) c.in-Some.is)

pub first_differing-requires : goal.first_differing-requires
unfolding word_set
first_differing-requires c = long _ _ c.next_step.ensures _ (c.in_ok-step.was ∙ ap (λ (o : Option Step). Ok o) c.in-Some.is) c.put_word.ensures

pub returns : goal.returns
unfolding word_set
returns c = search rules

-- `burn::next_value` meets its contract. Assumes nothing.
use borrow.Author.Tests.{eq-eqb, ne_eqb}
use mathlib.Core.Path.{◌≡◌, refl, sym, ◌∙◌}
use mathlib.Core.List.{List}
use Prim.Native.Nat.{ℕ}
use Rattle.util.specs.Words.{word_at}
use Rattle.burn.specs.Burn.{next_value}
use Rattle.burn.proofs.next_value.Goals as goal

module _ (p q : List ℕ) (w : ℕ) where
  written : {old new : ℕ} → old ≡ word_at p w → old ≡ 0 → new ≡ word_at q w → new ≡ next_value p q w
  unfolding next_value
  written e z f = rw (eq-eqb _ _ (sym e ∙ z)) f

  zeroed : {old : ℕ} → old ≡ word_at p w → (old ≡ 0 → ⊥) → 0 ≡ next_value p q w
  unfolding next_value
  zeroed e z = rw (ne_eqb _ _ (λ o. z (e ∙ o))) refl

pub returns-then-old-eq0 : goal.returns-then-old-eq0
returns-then-old-eq0 c = written _ _ _ c.word_at-old.ensures c.if-old-eq0.true c.word_at-new.ensures

pub returns-else-old-eq0 : goal.returns-else-old-eq0
returns-else-old-eq0 c = zeroed _ _ _ c.word_at-old.ensures c.if-old-eq0.false

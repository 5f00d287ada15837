-- The numbers of a list compared one by one. Assumes nothing.
use Rattle.std.proofs.Common.{refl, sym, ◌≡◌, ◌∙◌, ap, subst, ℕ, ◌+◌, ◌*◌, ◌<◌, ◌≤◌, List, Option, Some, unwrap_or, Bool, IsTrue, slice_get, length}
use native.Mathlib.Decide.{dec_le}
use native.Mathlib.Omega.{arith}
use Rattle.stream.specs.declared.expected.Expected.{Expected}
use Rattle.stream.specs.Comparison.{answer_of, agreed_of, Passes}

-- one number more
times-more : (i s : ℕ) → i * s + s ≡ (i + 1) * s
times-more i s = omega arith

-- i numbers have been passed, and each agrees with the one at its place
pub record Agrees {A : Type 0} (stands : A → List ℕ → ℕ → Bool) (numbers : List A) (old new : Expected) (size i : ℕ) : Type 0 where
  pub passes : Passes old new (i * size)
  pub same : (k : ℕ) (number : A) → k < i → slice_get numbers k ≡ Some number
      → IsTrue (stands number (answer_of old) (agreed_of old + k * size))

module _ {A : Type 0} {stands : A → List ℕ → ℕ → Bool} {numbers : List A} {old : Expected} {size : ℕ} where
  pub begun : agreed_of old ≤ length (answer_of old) → Agrees stands numbers old old size 0
  begun within = record {
    passes = record { answer = refl; agreed = omega arith; within = within };
    same = λ k number h e. absurd (let p : ⊥ = omega arith in p);
  }

  pub one-more : {mid new : Expected} {i : ℕ} {x : A} → Agrees stands numbers old mid size i → Passes mid new size
      → slice_get numbers i ≡ Some x → IsTrue (stands x (answer_of mid) (agreed_of mid)) → Agrees stands numbers old new size (i + 1)
  one-more {mid = mid} {i = i} {x = x} before step item stood = record {
    passes = record {
      answer = step.answer ∙ before.passes.answer;
      agreed = let t = times-more i size in let b = before.passes.agreed in let a = step.agreed in omega arith;
      within = step.within;
    };
    same = λ k number h e. elim (dec_le i k) [
      | yes g ↦
          let p : i ≡ k = omega arith in
          let q : Some x ≡ Some number = sym item ∙ ap (λ (j : ℕ). slice_get numbers j) p ∙ e in
          let there = subst (λ (bytes : List ℕ). IsTrue (stands x bytes (agreed_of mid))) before.passes.answer stood in
          let here = subst (λ (at : ℕ). IsTrue (stands x (answer_of old) at)) before.passes.agreed there in
          let at_k = subst (λ (j : ℕ). IsTrue (stands x (answer_of old) (agreed_of old + j * size))) p here in
          subst (λ (y : A). IsTrue (stands y (answer_of old) (agreed_of old + k * size))) (ap (λ (o : Option A). unwrap_or o x) q) at_k
      | no g ↦ before.same k number (omega arith) e
    ];
  }

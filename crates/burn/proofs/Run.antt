-- Any number of calls, by induction on it and on the plan. Assumes nothing.
use Prim.Native.Nat.{ℕ, zero, suc, ◌+◌, ◌/◌, ◌<◌}
use mathlib.Core.Path.{◌≡◌, refl, sym, ap, ◌∙◌}
use mathlib.Core.Bool.{false, true≢false}
use mathlib.Core.List.{List, [], ◌∷◌, foldl}
use native.Mathlib.Nat.{zero-add, suc-add}
use native.Mathlib.Omega.{arith}
use lib.ListN.{length, get_or, take, drop}
use lib.Seq.{take-nil, drop-nil}
use Rattle.std.specs.Prelude.{Option, Some, None, Result, Ok, Err}
use Rattle.refusal.specs.declared.Refusal.{Refusal}
use Rattle.map.specs.Map.{card_words}
use Rattle.burn.specs.declared.Step.{Step}
use Rattle.burn.specs.Burn.{differ_at, burn_verdict, next_of, done, leaves}
use Rattle.burn.specs.Plan.{plan, called, answered}
use Rattle.burn.proofs.Tests.{stops, due}
use Rattle.burn.proofs.Words.{length-word, byte-other}
use Rattle.burn.proofs.Steps.{differ-other}
use Rattle.burn.proofs.Onward.{headed, word-differs, verdict-stays, next-is, rest-is}

-- ---- images that nothing stops, with their plan

module _ (q : List ℕ) where
  -- where the plan is done, a call leaves all
  module _ (p : List ℕ) (o : burn_verdict p q ≡ Ok tt) (e : plan p q ≡ []) where
    pub at-end : next_of p q ≡ Ok None
    at-end = next-is p q o ∙ ap headed e

  -- else it does the first step
  module _ (p : List ℕ) (s : Step) (rest : List Step) (o : burn_verdict p q ≡ Ok tt) (e : plan p q ≡ s ∷ rest) where
    pub at-step : next_of p q ≡ Ok (Some s)
    at-step = next-is p q o ∙ ap headed e

    pub on : burn_verdict (done p s) q ≡ Ok tt
    on = sym (ap (λ (n : Result (Option Step) Refusal). burn_verdict (leaves n p) q) at-step) ∙ verdict-stays p q ∙ o

    pub left : plan (done p s) q ≡ rest
    left = sym (ap (λ (n : Result (Option Step) Refusal). plan (leaves n p) q) at-step) ∙ rest-is p q o ∙ ap (λ (l : List Step). drop 1 l) e

  pub run-steps : (k : ℕ) (l : List Step) (p : List ℕ) → burn_verdict p q ≡ Ok tt → plan p q ≡ l → answered k p q ≡ take k l
  unfolding answered
  run-steps zero l p o e = refl
  run-steps (suc k) [] p o e = rw (at-end p o e) (run-steps k [] p o e ∙ take-nil k)
  run-steps (suc k) (s ∷ rest) p o e = rw (at-step p s rest o e) (ap (λ (x : List Step). s ∷ x) (run-steps k rest (done p s) (on p s rest o e) (left p s rest o e)))

  pub run-image : (k : ℕ) (l : List Step) (p : List ℕ) → burn_verdict p q ≡ Ok tt → plan p q ≡ l → called k p q ≡ foldl done p (take k l)
  unfolding called
  run-image zero l p o e = refl
  run-image (suc k) [] p o e = rw (at-end p o e) (run-image k [] p o e ∙ ap (foldl done p) (take-nil k))
  run-image (suc k) (s ∷ rest) p o e = rw (at-step p s rest o e) (run-image k rest (done p s) (on p s rest o e) (left p s rest o e))

  pub run-rest : (k : ℕ) (l : List Step) (p : List ℕ) → burn_verdict p q ≡ Ok tt → plan p q ≡ l → plan (called k p q) q ≡ drop k l
  unfolding called
  run-rest zero l p o e = e
  run-rest (suc k) [] p o e = rw (at-end p o e) (run-rest k [] p o e ∙ drop-nil k)
  run-rest (suc k) (s ∷ rest) p o e = rw (at-step p s rest o e) (run-rest k rest (done p s) (on p s rest o e) (left p s rest o e))

-- ---- any images

-- a call stops nothing that went on: 11 can't newly arise
pub run-verdict : (k : ℕ) (p q : List ℕ) → burn_verdict (called k p q) q ≡ burn_verdict p q
unfolding called
run-verdict zero p q = refl
run-verdict (suc k) p q = run-verdict k (leaves (next_of p q) p) q ∙ verdict-stays p q

-- and what is stopped stays as it is
pub run-stopped : (k : ℕ) (p q : List ℕ) (refusal : Refusal) → burn_verdict p q ≡ Err refusal → called k p q ≡ p
unfolding called
run-stopped zero p q refusal e = refl
run-stopped (suc k) p q refusal e = rw (stops p q refusal e) (run-stopped k p q refusal e)

length-by : (p q : List ℕ) (n : Result (Option Step) Refusal) → length (leaves n p) ≡ length p
length-by p q (Err refusal) = refl
length-by p q (Ok None) = refl
length-by p q (Ok (Some s)) = length-word p s.word s.value

pub run_length : (k : ℕ) (p q : List ℕ) → length (called k p q) ≡ length p
unfolding called
run_length zero p q = refl
run_length (suc k) p q = run_length k (leaves (next_of p q) p) q ∙ length-by p q (next_of p q)

-- a cut is a new start
pub cut : (j k : ℕ) (p q : List ℕ) → called (j + k) p q ≡ called k (called j p q) q
unfolding called
cut zero k p q = rw (zero-add k) refl
cut (suc j) k p q = rw (suc-add j k) (cut j k (leaves (next_of p q) p) q)

-- ---- bytes that stay: of words that do not differ, and past the card's

module _ (p q : List ℕ) (i : ℕ) (f : i / 2 < card_words → differ_at p q (i / 2) ≡ false) where
  elsewhere : (s : Step) → next_of p q ≡ Ok (Some s) → i / 2 ≡ s.word → ⊥
  elsewhere s e g =
      let d = due p q s e in
      let h = d.within in
      true≢false (sym (word-differs p q s d) ∙ (rw g at (f (omega arith))))

  kept_by : (n : Result (Option Step) Refusal) → next_of p q ≡ n → (get_or (leaves n p) i 0 ≡ get_or p i 0) × (i / 2 < card_words → differ_at (leaves n p) q (i / 2) ≡ false)
  kept_by (Err refusal) e = (refl, f)
  kept_by (Ok None) e = (refl, f)
  kept_by (Ok (Some s)) e = (
    byte-other p s.word s.value i (λ g. elsewhere s e (omega arith)) (λ g. elsewhere s e (omega arith)),
    λ h. differ-other p q s.word s.value (i / 2) (elsewhere s e) ∙ f h,
  )

pub run-kept : (k : ℕ) (p q : List ℕ) (i : ℕ) → (i / 2 < card_words → differ_at p q (i / 2) ≡ false) → get_or (called k p q) i 0 ≡ get_or p i 0
unfolding called
run-kept zero p q i f = refl
run-kept (suc k) p q i f = let e = kept_by p q i f (next_of p q) refl in run-kept k (leaves (next_of p q) p) q i e.1 ∙ e.0

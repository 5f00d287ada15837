-- Exactly when `check` returns clean, mended or damaged; and a word can be mended at one bit only. Assumes nothing.
use Prim.Native.Nat.{ℕ, ◌^◌, ◌<◌}
use mathlib.Core.Path.{◌≡◌, refl, sym, ap, ap₂, ◌∙◌}
use mathlib.Core.Bool.{Bool, true, false}
use native.Mathlib.Nat.{mod-lt}
use native.Mathlib.Omega.{arith}
use lib.Dec.{ltb, lit<, lit≤}
use borrow.Author.Tests.{lt-ltb, ltb-true}
use Rattle.lists.specs.Pick.{pick}
use Rattle.lists.proofs.First.{is-first, first-is}
use Rattle.refusal.specs.declared.Refusal.TheVariants.{DamagedWord}
use Rattle.hamming.specs.Word.{data_of, encoded, flip, codeword, place}
use Rattle.hamming.specs.Answer.{mended_answer, check_answer}
use Rattle.std.specs.Prelude.{Ok, Err}
use Rattle.refusal.specs.declared.Refusal.{Refusal}
use Rattle.hamming.specs.declared.Checked.TheVariants.{Clean, Mended}
use Rattle.hamming.proofs.Xor.{xor-twice}
use Rattle.hamming.proofs.Laws.{code_of}
use Rattle.hamming.proofs.Flips.{stray-flip, place-flip}

-- ---- clean exactly if a codeword

pub clean_is : (w : ℕ) → codeword w ≡ true → check_answer w ≡ Ok (Clean (data_of w))
unfolding check_answer
clean_is w e = ap (λ (b : Bool). pick b (Ok (Clean (data_of w))) (mended_answer w (place w))) e

not-clean : (w k d : ℕ) (b : Bool) → ltb k 16 ≡ b → mended_answer w k ≡ Ok (Clean d) → ⊥
not-clean w k d true l e = let f = rw l at e in let z : ◌≡◌ {A = ℕ} 0 1 = cc in omega arith
not-clean w k d false l e = let f = rw l at e in let z : ◌≡◌ {A = ℕ} 0 1 = cc in omega arith

pub clean-only : (w d : ℕ) → check_answer w ≡ Ok (Clean d) → codeword w ≡ true
unfolding check_answer
clean-only w d e = go (codeword w) e
  where
    go : (b : Bool) → pick b (Ok (Clean (data_of w))) (mended_answer w (place w)) ≡ Ok (Clean d) → b ≡ true
    go true e = refl
    go false e = absurd (not-clean w (place w) d (ltb (place w) 16) refl e)

-- ---- mended exactly if the flip of that bit is a codeword

module _ (w k : ℕ) (l : k < 16) (e : codeword (flip k w) ≡ true) where
  -- the word is that codeword with the bit flipped
  back : w ≡ flip k (encoded (data_of (flip k w)))
  back = sym (xor-twice w (2 ^ k)) ∙ ap (flip k) (code_of (flip k w) e)

  pub not_code : codeword w ≡ false
  not_code = ap codeword back ∙ stray-flip (data_of (flip k w)) k (mod-lt (flip k w) (lit< tt)) l

  -- the bit is unique
  pub at-bit : place w ≡ k
  at-bit = ap place back ∙ place-flip (data_of (flip k w)) k (mod-lt (flip k w) (lit< tt)) l

  pub mended-is : check_answer w ≡ Ok (Mended (data_of (flip k w)) k)
  unfolding check_answer
  mended-is =
      ap₂ (λ (b : Bool) (n : ℕ). pick b (Ok (Clean (data_of w))) (mended_answer w n)) not_code at-bit
      ∙ ap (λ (b : Bool). pick b (Ok (Mended (data_of (flip k w)) k)) (Err (DamagedWord 0 w))) (lt-ltb k 16 l)

-- w is a mended word: not a codeword, but flipping bit k makes it the codeword of d
pub record MendedAt (w d k : ℕ) : Type 0 where
  pub stray : codeword w ≡ false
  pub within : k < 16
  pub code : codeword (flip k w) ≡ true
  pub says : data_of (flip k w) ≡ d

pub mended-only : (w d k : ℕ) → check_answer w ≡ Ok (Mended d k) → MendedAt w d k
unfolding check_answer place
mended-only w d k e = go (codeword w) refl e
  where
    placed : (b : Bool) → codeword w ≡ false → ltb (place w) 16 ≡ b → mended_answer w (place w) ≡ Ok (Mended d k) → MendedAt w d k
    placed true c l e =
        let f = rw l at e in
        let q : place w ≡ k = cc in
        let r : data_of (flip (place w) w) ≡ d = cc in
        let h : place w < 16 = ltb-true (place w) 16 l in
        record { stray = c; within = rw q at h; code = rw q at ((is-first (λ (j : ℕ). codeword (flip j w)) 0 16).at h); says = rw q at r }
    placed false c l e = absurd (let f = rw l at e in let z : ◌≡◌ {A = ℕ} 0 1 = cc in let q : ⊥ = omega arith in q)

    go : (b : Bool) → codeword w ≡ b → pick b (Ok (Clean (data_of w))) (mended_answer w (place w)) ≡ Ok (Mended d k) → MendedAt w d k
    go true c e = absurd (let z : ◌≡◌ {A = ℕ} 0 1 = cc in let q : ⊥ = omega arith in q)
    go false c e = placed (ltb (place w) 16) c refl e

-- ---- otherwise damaged

pub refused-only : (w : ℕ) (r : Refusal) → check_answer w ≡ Err r → codeword w ≡ false
unfolding check_answer
refused-only w r e = go (codeword w) e
  where
    go : (b : Bool) → pick b (Ok (Clean (data_of w))) (mended_answer w (place w)) ≡ Err r → b ≡ false
    go true e = absurd (let z : ◌≡◌ {A = ℕ} 0 1 = cc in let q : ⊥ = omega arith in q)
    go false e = refl

pub damaged-is : (w : ℕ) → codeword w ≡ false → ((k : ℕ) → k < 16 → codeword (flip k w) ≡ false) → check_answer w ≡ Err (DamagedWord 0 w)
unfolding check_answer place
damaged-is w c f =
    ap₂ (λ (b : Bool) (n : ℕ). pick b (Ok (Clean (data_of w))) (mended_answer w n)) c
    (sym (first-is (λ (k : ℕ). codeword (flip k w)) 0 16 16 (record { from = lit≤ tt; within = lit≤ tt; before = λ k a b. f k b; at = λ b. absurd (let q : ⊥ = omega arith in q) })))

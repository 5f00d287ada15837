-- A loop over the roots of a block: one more is the root, or is left open. Assumes nothing.
use Rattle.std.proofs.Common.{◌≡◌, ℕ, ◌+◌, ◌<◌, ◌≤◌, true, false, ◌⊎◌, List, length, get_or, set, sym, ap, ◌∙◌, inl, inr, ⊎_elim, true≢false, eq-zero-or-pos, arith}
use lib.Ieee.{Float, nan, binary32, of_bits, ne, is_nan}
use lib.Ieee.Bits.{of_bits-to_bits}
use Rattle.lists.specs.Each.{Each}
use Rattle.lists.specs.Written.{filled}
use Rattle.lists.proofs.Each.{one_more, none}
use Rattle.lists.proofs.Written.{written_at}
use Rattle.floats.specs.Constants.{plus_zero}
use Rattle.floats.proofs.Nan.{by-test}
use Rattle.root.specs.Root.{root}
use Rattle.roots.specs.Many.{side, IsF32, pattern_at, IsRoot, MayBeRoot, number_at, Found, Leaves, Guessed}
use Rattle.root.proofs.Values.{root-positive, zero_bits}

-- bits that are not 0 are those of the root
right-root : (b r : ℕ) → Found b r → 0 < r → of_bits binary32 r ≡ root (of_bits binary32 b)
right-root b r f h = let t = f.right h in ap (of_bits binary32) t.2 ∙ sym (root-positive b t.0 t.1)

-- an entry that is not 0 is the root
pub kept-root : (x : List Float) (k : ℕ) (y : Float) → MayBeRoot x k y → ne y plus_zero ≡ true → IsRoot x k y
unfolding is_nan
kept-root x k y (inr e) t = e
kept-root x k y (inl e) t =
    let z : ne plus_zero plus_zero ≡ false = by-test plus_zero ∙ ap is_nan zero_bits in
    absurd (true≢false (sym t ∙ ap (λ (v : Float). ne v plus_zero) e ∙ z))

pub start : (bits : List ℕ) (d : List Float) → Leaves bits d 0 0
start bits d = record { each = none d; all = λ h. none d }

-- r is the bits found for the root of the i-th number
module _ (bits : List ℕ) {d : List Float} {count i r : ℕ} (s : Leaves bits d count i) (l : i < length d) (f : Found (get_or bits i 0) r) where
  one : Each (λ (k : ℕ) (y : Float). (y ≡ plus_zero) ⊎ (y ≡ root (number_at bits k))) nan (set d i (of_bits binary32 r)) (i + 1)
  one = one_more s.each l (⊎_elim (λ e. inl (ap (of_bits binary32) e)) (λ h. inr (right-root (get_or bits i 0) r f h)) (eq-zero-or-pos r))

  left : Leaves bits (set d i (of_bits binary32 r)) (count + 1) (i + 1)
  left = record { each = one; all = λ h. absurd (let p : ⊥ = omega arith in p) }

  there : 0 < r → Leaves bits (set d i (of_bits binary32 r)) count (i + 1)
  there h = record { each = one; all = λ e. one_more (s.all e) l (right-root (get_or bits i 0) r f h) }

  -- n is the count after it
  pub counted : {n : ℕ} → (r ≡ 0 → n ≡ count + 1) → (0 < r → n ≡ count) → Leaves bits (set d i (of_bits binary32 r)) n (i + 1)
  counted z p = ⊎_elim (λ e. rw (z e) left) (λ h. rw (p h) (there h)) (eq-zero-or-pos r)

-- from the bits of the numbers to the numbers
module _ (x : List Float) (z bits : List ℕ) (e : bits ≡ filled (pattern_at x) side z) (l : side ≤ length z) (f : Each IsF32 nan x side) where
  taken : (k : ℕ) → k < side → number_at bits k ≡ get_or x k nan
  taken k h =
      ap (λ (b : List ℕ). of_bits binary32 (get_or b k 0)) e
      ∙ ap (of_bits binary32) (written_at (λ (j : ℕ). true) (pattern_at x) side z k 0 l h)
      ∙ of_bits-to_bits binary32 (get_or x k nan) (f.at k h)

  pub guesses : {d : List Float} {count : ℕ} → Leaves bits d count side → Guessed x d count
  guesses s = record {
    each = record { at = λ k h. ⊎_elim inl (λ g. inr (g ∙ ap root (taken k h))) (s.each.at k h) };
    all = λ n. record { at = λ k h. (s.all n).at k h ∙ ap root (taken k h) };
  }

-- Two passes write the same as one: the infrared numbers that the destination holds are those that were written to it. Assumes nothing.
use Prim.Native.Nat.{ℕ, ◌≤◌, ◌<◌}
use mathlib.Core.Path.{◌≡◌, refl, ap, ◌∙◌}
use mathlib.Core.Bool.{Bool, true, false, ◌&&◌}
use mathlib.Core.List.{List}
use lib.Dec.{T, eqb}
use lib.ListN.{get_or, length}
use lib.Ieee.{Float, binary32, fits, of_bits}
use lib.Ieee.Bits.{of_bits-to_bits}
use Rattle.lists.specs.Pick.{pick}
use Rattle.lists.specs.Written.{written}
use Rattle.lists.proofs.Again.{written_same, written-again}
use Rattle.lists.proofs.Count.{count_same}
use Rattle.lists.proofs.Written.{written_at}
use Rattle.floats.specs.Constants.{pattern}
use Rattle.pixels.specs.Pixels.{touched, held, infrared_bits, into, lost_of}

-- an entry that the mask asks for holds what was written
at-asked : {A : Type 0} (touch : ℕ → Bool) (val : ℕ → A) (n : ℕ) (d : List A) (k : ℕ) (z : A) → n ≤ length d → k < n → touch k ≡ true → get_or (written touch val n d) k z ≡ val k
at-asked touch val n d k z l h t = written_at touch val n d k z l h ∙ ap (λ (b : Bool). pick b (val k) (get_or d k z)) t

where-asked : (t a b : Bool) → (t ≡ true → a ≡ b) → (t && a) ≡ (t && b)
where-asked true a b h = h refl
where-asked false a b h = refl

-- bits that agree on every pixel that the mask asks for
module _ (n : ℕ) (mask : List ℕ) (b c : ℕ → ℕ) (same : (k : ℕ) → k < n → touched mask k ≡ true → b k ≡ c k) where
  pub same-lost : lost_of n mask b ≡ lost_of n mask c
  same-lost = count_same _ _ n (λ k h. where-asked (touched mask k) _ _ (λ t. ap (λ (x : ℕ). eqb x pattern) (same k h t)))

  pub same-into : (d : List ℕ) → into n mask b d ≡ into n mask c d
  same-into d = written_same (touched mask) b c n d same

-- ---- infrared numbers first, then temperatures from them

module _ (n : ℕ) (mask : List ℕ) (v : ℕ → Float) (f : (k : ℕ) → T (fits binary32 (v k))) (d : List ℕ) (l : n ≤ length d) where
  pub held-is : (k : ℕ) → k < n → touched mask k ≡ true → held (into n mask (infrared_bits v) d) k ≡ v k
  held-is k h t = ap (of_bits binary32) (at-asked (touched mask) (infrared_bits v) n d k 0 l h t) ∙ of_bits-to_bits binary32 (v k) (f k)

  -- a pixel's bits depend on its own infrared number alone
  module _ (bits : Float → ℕ → ℕ) where
    passed : (k : ℕ) → k < n → touched mask k ≡ true → bits (held (into n mask (infrared_bits v) d) k) k ≡ bits (v k) k
    passed k h t = ap (λ (x : Float). bits x k) (held-is k h t)

    pub pass-lost : lost_of n mask (λ (k : ℕ). bits (held (into n mask (infrared_bits v) d) k) k) ≡ lost_of n mask (λ (k : ℕ). bits (v k) k)
    pass-lost = same-lost n mask _ _ passed

    pub pass-into : into n mask (λ (k : ℕ). bits (held (into n mask (infrared_bits v) d) k) k) (into n mask (infrared_bits v) d) ≡ into n mask (λ (k : ℕ). bits (v k) k) d
    pass-into = written-again (touched mask) _ _ n d ∙ same-into n mask _ _ passed d

-- Where the numbers that many pixels share stand in their list, and the sum of a row's and a column's. Assumes nothing.
use Prim.Native.Nat.{ℕ, ◌+◌, ◌-◌, ◌/◌, ◌%◌, ◌<◌, ◌≤◌}
use mathlib.Core.Path.{◌≡◌, refl, ap, ap₂, ◌∙◌}
use mathlib.Core.List.{List}
use native.Mathlib.Omega.{arith}
use lib.IntN.{ℤ, pos, ◌+ℤ◌}
use lib.ListN.{get_or}
use lib.Signed.{mag}
use borrow.Author.Tests.{lt-ltb, le-ltb}
use Rattle.sums640.specs.Sums.{pixel_count, coefficient_at, Part, offset_part, alpha_part, row_sum_at, column_at, base_at, average_at}
use Rattle.sums640.specs.Inner.{nibble_at, row_from, column_from, part_from, shared_at, Shared}
use Rattle.sums640.proofs.Range.{row-sum-mag, column-mag}

module _ (w : ℕ → ℕ) where
  part-row : (first k : ℕ) → k < 24 → part_from w first k ≡ row_from w first k
  part-row first k h = rw (lt-ltb k 24 h)

  part-column : (first k : ℕ) → part_from w first (24 + k) ≡ column_from w first k
  part-column first k = let e : 24 + k - 24 ≡ k = omega arith in rw (le-ltb (24 + k) 24 (omega arith), e)

  -- from the word of scales on stand the words that the map gives to rows and columns
  offset-row-word : (k : ℕ) → row_from w 16 k ≡ row_sum_at w offset_part k
  unfolding row_from row_sum_at nibble_at coefficient_at
  offset-row-word k = refl

  offset-column-word : (k : ℕ) → column_from w 16 k ≡ column_at w offset_part k
  unfolding column_from column_at nibble_at coefficient_at
  offset-column-word k = refl

  alpha-row-word : (k : ℕ) → row_from w 32 k ≡ row_sum_at w alpha_part k
  unfolding row_from row_sum_at nibble_at coefficient_at
  alpha-row-word k = refl

  alpha-column-word : (k : ℕ) → column_from w 32 k ≡ column_at w alpha_part k
  unfolding column_from column_at nibble_at coefficient_at
  alpha-column-word k = refl

  -- the offsets' part, alpha's, and K_Ta's averages
  offset-part : (k : ℕ) → k < 56 → shared_at w k ≡ part_from w 16 k
  unfolding shared_at
  offset-part k h = rw (lt-ltb k 56 h)

  alpha-part : (k : ℕ) → k < 56 → shared_at w (56 + k) ≡ part_from w 32 k
  unfolding shared_at
  alpha-part k h = let e : 56 + k - 56 ≡ k = omega arith in rw (le-ltb (56 + k) 56 (omega arith), lt-ltb (56 + k) 112 (omega arith), e)

  pub average : (k : ℕ) → shared_at w (112 + k) ≡ average_at w k
  unfolding shared_at
  average k = let e : 112 + k - 112 ≡ k = omega arith in rw (le-ltb (112 + k) 56 (omega arith), le-ltb (112 + k) 112 (omega arith), e)

  offset-row : (k : ℕ) → k < 24 → shared_at w k ≡ row_sum_at w offset_part k
  offset-row k h = offset-part k (omega arith) ∙ part-row 16 k h ∙ offset-row-word k

  offset-column : (k : ℕ) → k < 32 → shared_at w (24 + k) ≡ column_at w offset_part k
  offset-column k h = offset-part (24 + k) (omega arith) ∙ part-column 16 k ∙ offset-column-word k

  alpha-row : (k : ℕ) → k < 24 → shared_at w (56 + k) ≡ row_sum_at w alpha_part k
  alpha-row k h = alpha-part k (omega arith) ∙ part-row 32 k h ∙ alpha-row-word k

  alpha-column : (k : ℕ) → k < 32 → shared_at w (80 + k) ≡ column_at w alpha_part k
  alpha-column k h = let e : 80 + k ≡ 56 + (24 + k) = omega arith in rw e (alpha-part (24 + k) (omega arith) ∙ part-column 32 k ∙ alpha-column-word k)

-- from a place of the list on stand the rows and columns of a part
pub record Placed (w : ℕ → ℕ) (list : List ℤ) (from : ℕ) (part : Part) : Type 0 where
  pub row_is : (k : ℕ) → k < 24 → get_or list (from + k) (pos 0) ≡ row_sum_at w part k
  pub column_is : (k : ℕ) → k < 32 → get_or list (from + 24 + k) (pos 0) ≡ column_at w part k

pub offsets : {w : ℕ → ℕ} {list : List ℤ} → Shared w list → Placed w list 0 offset_part
offsets {w} s = record {
  row_is = λ k h. s.at (0 + k) (omega arith) ∙ (let e : 0 + k ≡ k = omega arith in ap (shared_at w) e) ∙ offset-row w k h;
  column_is = λ k h. s.at (24 + k) (omega arith) ∙ offset-column w k h;
}

pub alphas : {w : ℕ → ℕ} {list : List ℤ} → Shared w list → Placed w list 56 alpha_part
alphas {w} s = record {
  row_is = λ k h. s.at (56 + k) (omega arith) ∙ alpha-row w k h;
  column_is = λ k h. s.at (80 + k) (omega arith) ∙ alpha-column w k h;
}

module _ {w : ℕ → ℕ} {list : List ℤ} {from : ℕ} {part : Part} (p : Placed w list from part) (pixel : ℕ) (h : pixel < pixel_count) where
  pub row_small : mag (get_or list (from + pixel / 32) (pos 0)) ≤ 16777216
  row_small = rw (p.row_is (pixel / 32) (omega arith)) (omega (arith, row-sum-mag w part (pixel / 32)))

  pub column-small : mag (get_or list (from + 24 + pixel % 32) (pos 0)) ≤ 16777216
  column-small = rw (p.column_is (pixel % 32) (omega arith)) (omega (arith, column-mag w part (pixel % 32)))

  pub base-is : get_or list (from + pixel / 32) (pos 0) +ℤ get_or list (from + 24 + pixel % 32) (pos 0) ≡ base_at w part pixel
  unfolding base_at
  base-is = ap₂ (λ (a b : ℤ). a +ℤ b) (p.row_is (pixel / 32) (omega arith)) (p.column_is (pixel % 32) (omega arith))

-- Roots side by side, for inner functions and for those above that lend them a block of numbers. Assumes nothing.
use Rattle.std.specs.Prelude.{◌≡◌, ℕ, ◌<◌, T, ◌⊎◌, List, from_bits, slice_index, slice_index_or, to_bits, Float}
use Rattle.std.specs.Float.{nan, binary32}
use Rattle.std.specs.Float.Ieee.{fits}
use Rattle.lists.specs.Each.{Each}
use Rattle.floats.specs.Constants.{plus_zero}
use Rattle.root.specs.Root.{root, root_pattern}

-- how many numbers go side by side
abbrev pub side : ℕ
side = 32

-- entry k is the root of the k-th number
abbrev pub IsRoot : List Float → ℕ → Float → Type 0
IsRoot x k y = y ≡ root (slice_index_or x k nan)

-- the same, or it is left open, as 0
abbrev pub MayBeRoot : List Float → ℕ → Float → Type 0
MayBeRoot x k y = (y ≡ plus_zero) ⊎ IsRoot x k y

-- what owning an f32 tells
abbrev pub IsF32 : ℕ → Float → Type 0
IsF32 k y = T (fits binary32 y)

-- the bits of the k-th number
abbrev pub pattern_at : List Float → ℕ → ℕ
pattern_at x k = to_bits binary32 (slice_index_or x k nan)

-- r is 0, or b is a positive finite number's and r that of its fourth root
pub record Found (b r : ℕ) : Type 0 where
  pub finite : r < 0x7F800000
  pub right : 0 < r → (0 < b) × (b < 0x7F800000) × (r ≡ root_pattern (root_pattern b))

-- the number of the k-th pattern
abbrev pub number_at : List ℕ → ℕ → Float
number_at bits k = from_bits binary32 (slice_index bits k)

-- of the first n patterns' numbers the roots, or 0 where one is left open; none is where the count is 0
pub record Leaves (bits : List ℕ) (roots : List Float) (count n : ℕ) : Type 0 where
  pub each : Each (λ (k : ℕ) (y : Float). (y ≡ plus_zero) ⊎ (y ≡ root (number_at bits k))) nan roots n
  pub all : count ≡ 0 → Each (λ (k : ℕ) (y : Float). y ≡ root (number_at bits k)) nan roots n

-- of the numbers the roots, or 0 where one is left open; none is where the count is 0
pub record Guessed (x roots : List Float) (count : ℕ) : Type 0 where
  pub each : Each (MayBeRoot x) nan roots side
  pub all : count ≡ 0 → Each (IsRoot x) nan roots side

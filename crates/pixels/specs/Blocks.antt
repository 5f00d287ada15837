-- For inner functions only: pixels in blocks of 32. Assumes nothing.
use Rattle.std.specs.Prelude.{ℕ, ◌+◌, ◌≤◌, ◌<◌, ◌≡◌, true, false, List, eqb, length, Float}
use Rattle.lists.specs.Pick.{pick}
use Rattle.lists.specs.Each.{Each}
use Rattle.floats.specs.Constants.{pattern}
use Rattle.pixels.specs.Pixels.{touched, into, lost_of}

-- entry i is f i
abbrev pub is : (ℕ → Float) → ℕ → Float → Type 0
is f i x = x ≡ f i

-- entry i is f i, a whole number
abbrev pub IsNat : (ℕ → ℕ) → ℕ → ℕ → Type 0
IsNat f i x = x ≡ f i

-- the mask asks for none of the n pixels from base on
pub record Unasked (mask : List ℕ) (base n : ℕ) : Type 0 where
  pub none : (i : ℕ) → i < n → touched mask (base + i) ≡ false

-- 1 where the bits are the pattern, else 0
abbrev pub lost_flag : ℕ → ℕ
lost_flag bits = pick (eqb bits pattern) 1 0

-- the first n entries are f's, and beside each stands whether it is the pattern
pub record Flagged (f : ℕ → ℕ) (bits flags : List ℕ) (n : ℕ) : Type 0 where
  pub bits_are : Each (IsNat f) 0 bits n
  pub flags_are : Each (IsNat (λ (i : ℕ). lost_flag (f i))) 0 flags n

-- where the mask asks for the i-th pixel from base on, its bits are val i
abbrev pub Agree : List ℕ → (ℕ → ℕ) → ℕ → ℕ → (ℕ → ℕ) → Type 0
Agree mask val base n bits = (i : ℕ) → i < n → touched mask (base + i) ≡ true → bits (base + i) ≡ val i

-- the n pixels from base on are written as val says, where the mask asks: whatever the pixels before them were written as, they go on with these
pub record Block (mask : List ℕ) (val : ℕ → ℕ) (base n : ℕ) (d d' : List ℕ) (lost : ℕ) : Type 0 where
  pub long : length d' ≡ length d
  pub few : lost ≤ n
  pub onto : (bits : ℕ → ℕ) (d₀ : List ℕ) → Agree mask val base n bits → d ≡ into base mask bits d₀ → d' ≡ into (base + n) mask bits d₀
  pub more : (bits : ℕ → ℕ) → Agree mask val base n bits → lost_of (base + n) mask bits ≡ lost_of base mask bits + lost

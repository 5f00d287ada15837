-- The MLX90640's paper, "Which pixels": the subpage that a pixel is of, and the mask of a subpage. Assumes nothing.
use Rattle.std.specs.Prelude.{ℕ, ◌+◌, ◌%◌, ◌≡◌, List, [], ◌∷◌, eqb, ltb, length, ⊤, Result}
use Rattle.lists.specs.Pick.{pick}
use Rattle.lists.specs.Written.{filled}
use Rattle.refusal.specs.declared.Refusal.TheVariants.{ShortTable}
use Rattle.refusal.specs.declared.Refusal.{Refusal}
use Rattle.refusal.specs.Refusal.{unless}
use Rattle.refusal.specs.Order.{◌refuses◌, first_of}
use Rattle.camera.specs.declared.Subpage.{Subpage}
use Rattle.camera.specs.declared.Subpage.TheVariants.{Zero, One}
use Rattle.mlx90640.specs.Pixels.{row, column}
use Rattle.rows640.specs.declared.Pattern.{Pattern}
use Rattle.rows640.specs.declared.Pattern.TheVariants.{Chess, Interleave}

abbrev pub pixel_count : ℕ
pixel_count = 768

abbrev pub number_of : Subpage → ℕ
number_of Zero = 0
number_of One = 1

-- chess: row and column, modulo 2; interleave: the row, modulo 2
abbrev pub subpage_at : Pattern → ℕ → ℕ
subpage_at Chess k = (row k + column k) % 2
subpage_at Interleave k = row k % 2

-- 1 where the pixel is of that subpage, else 0
unfoldable pub mask_at : ℕ → Pattern → ℕ → ℕ
mask_at subpage p k = pick (eqb (subpage_at p k) subpage) 1 0

-- ---- the writer's promise

abbrev pub mask_verdict : List ℕ → Result ⊤ Refusal
mask_verdict before = first_of (ltb (length before) pixel_count refuses ShortTable ∷ [])

-- of the mask before and after, and the answer: the first 768 entries are those of the subpage, the others stay
pub record Masks (subpage : ℕ) (p : Pattern) (before after : List ℕ) (r : Result ⊤ Refusal) : Type 0 where
  pub verdict : r ≡ mask_verdict before
  pub lent : after ≡ unless r (filled (mask_at subpage p) pixel_count before) before

-- ---- claims

-- for either pattern each pixel is of exactly one subpage
pub record OneSubpage (p : Pattern) (k : ℕ) : Type 0 where
  pub one : mask_at 0 p k + mask_at 1 p k ≡ 1

-- the paper's readings: chess subpage 0 has pixels 0 and 33, subpage 1 has 1 and 32
pub record ChessReadings : Type 0 where
  pub zero : (mask_at 0 Chess 0 ≡ 1) × (mask_at 0 Chess 33 ≡ 1) × (mask_at 0 Chess 1 ≡ 0) × (mask_at 0 Chess 32 ≡ 0)
  pub one : (mask_at 1 Chess 1 ≡ 1) × (mask_at 1 Chess 32 ≡ 1) × (mask_at 1 Chess 0 ≡ 0) × (mask_at 1 Chess 33 ≡ 0)

-- For inner functions only: a pixel's numbers over what the code lifts out of the pixels. Assumes nothing.
use Rattle.std.specs.Prelude.{ℕ, ◌+◌, ◌*◌, ◌/◌, ◌%◌, ◌≤◌, ◌<◌, ◌≡◌, true, List, T, ℤ, pos, get_or, length, Option, Float}
use Rattle.std.specs.Float.{nan, binary32}
use Rattle.std.specs.Float.Ieee.{to_bits}
use Rattle.floats.specs.Floats.{real, ◌⊖◌}
use Rattle.floats.specs.Constants.{freezing}
use Rattle.root.specs.Root.{celsius}
use Rattle.roots.specs.Many.{side}
use Rattle.ranges.specs.Corners.{range_of}
use Rattle.formulas.specs.declared.CommonIrData.{CommonIrData}
use Rattle.formulas.specs.declared.CommonToData.{CommonToData}
use Rattle.formulas.specs.declared.Range.{Range}
use Rattle.formulas.specs.Pixel.{plain_of, ranged_of, decided, answer_of}
use Rattle.formulas.specs.Inner.{deducted, lifted_sensitivity, lifted_under, lifted_from, lifted_final}
use Rattle.pixels.specs.declared.Source.{Source}
use Rattle.pixels.specs.declared.Source.TheVariants.{Pixels, Destination}
use Rattle.pixels.specs.declared.Work.{Work}
use Rattle.pixels.specs.declared.Goal.{Goal}
use Rattle.pixels.specs.declared.Goal.TheVariants.{Infrared, Temperature, Ranged}
use Rattle.pixels.specs.Pixels.{reading_at, held, answer_bits, into, lost_of}

-- ---- infrared numbers

-- what they are read from: pixel bytes, tables by pixel number, and lists of so many blocks, which are taken in turn
pub record Lent : Type 0 where
  pub pixels : List ℕ
  pub offsets : List ℤ
  pub k_ta : List Float
  pub k_v : List Float
  pub k_v_blocks : ℕ
  pub access : List Float
  pub access_blocks : ℕ

abbrev pub lent : List ℕ → List ℤ → List Float → List Float → ℕ → List Float → ℕ → Lent
lent p o t v vn a an = record { pixels = p; offsets = o; k_ta = t; k_v = v; k_v_blocks = vn; access = a; access_blocks = an }

-- of pixel k with its K_V and access term
unfoldable pub raw_of : CommonIrData → Option Float → List ℕ → List ℤ → List Float → ℕ → Float → Float → Float
raw_of c b p o t k k_v access = deducted (plain_of c (reading_at p k) (real (get_or o k (pos 0))) k_v (get_or t k nan) access) b

-- pixel k's entry of a list of so many blocks, which are taken in turn
unfoldable pub in_turn : List Float → ℕ → ℕ → Float
in_turn d blocks k = get_or d (k / side % blocks * side + k % side) nan

-- of pixel k, from the pixel bytes or from the bits that the destination holds
abbrev pub number_at : Source → Lent → List ℕ → ℕ → Float
number_at (Pixels c b) l d k = raw_of c b l.pixels l.offsets l.k_ta k (in_turn l.k_v l.k_v_blocks k) (in_turn l.access l.access_blocks k)
number_at Destination l d k = held d k

-- the tables are long enough for so many blocks of pixels
pub record Tabled (l : Lent) (blocks : ℕ) : Type 0 where
  pub offsets : blocks * side ≤ length l.offsets
  pub k_ta : blocks * side ≤ length l.k_ta
  pub k_v_some : 0 < l.k_v_blocks
  pub k_v_few : l.k_v_blocks ≤ 1000
  pub k_v : l.k_v_blocks * side ≤ length l.k_v
  pub access_some : 0 < l.access_blocks
  pub access_few : l.access_blocks ≤ 1000
  pub access : l.access_blocks * side ≤ length l.access

-- and so are the pixel bytes
pub record Readable (l : Lent) (blocks : ℕ) : Type 0 where
  pub pixels : blocks * side * 2 ≤ length l.pixels
  pub tables : Tabled l blocks

-- if they are read
abbrev pub ReadableFor : Source → Lent → ℕ → Type 0
ReadableFor (Pixels c b) l blocks = Readable l blocks
ReadableFor Destination l blocks = T true

-- ---- temperatures

-- what they are worked out with: alpha by pixel number, and the ranges' corners, K_sTo and coefficients
pub record Table : Type 0 where
  pub alpha : List Float
  pub corners : List ℤ
  pub k_s_to : List Float
  pub coefficients : List Float

abbrev pub table : List Float → List ℤ → List Float → List Float → Table
table a c k f = record { alpha = a; corners = c; k_s_to = k; coefficients = f }

-- the numbers of range r
abbrev pub range_at : Table → ℕ → Range
range_at t r = record { corner = real (get_or t.corners r (pos 0)); k_s_to = get_or t.k_s_to r nan; coefficient = get_or t.coefficients r nan }

-- A of pixel k
abbrev pub sensitivity_at : CommonToData → List Float → ℕ → Float
sensitivity_at c alpha k = lifted_sensitivity (get_or alpha k nan) c

-- X of pixel k with infrared v
unfoldable pub lifted_at : CommonToData → List Float → Float → ℕ → Float
lifted_at c alpha v k = lifted_final v (sensitivity_at c alpha k) c

-- what the root in it is taken of, and X from that root
unfoldable pub under_at : CommonToData → List Float → Float → ℕ → Float
under_at c alpha v k = lifted_under v (sensitivity_at c alpha k) c

unfoldable pub rooted_at : CommonToData → List Float → Float → ℕ → Float → Float
rooted_at c alpha v k r = lifted_from v (sensitivity_at c alpha k) r c

-- the second pass's X of pixel k, from its basic temperature and range r
unfoldable pub ranged_from : CommonToData → Table → Float → ℕ → Float → ℕ → Float
ranged_from c t v k basic r = ranged_of (range_at t r) c.t_ar (sensitivity_at c t.alpha k) v basic

-- from its infrared number alone
unfoldable pub lifted_ranged_at : CommonToData → ℕ → Table → Float → ℕ → Float
lifted_ranged_at c n t v k =
    let basic = celsius (lifted_at c t.alpha v k) in
    ranged_from c t v k basic (range_of n t.corners basic)

-- ---- what a pixel is written as

-- pixel k with infrared v
abbrev pub bits_by : Goal → Table → Float → ℕ → ℕ
bits_by Infrared t v k = to_bits binary32 v
bits_by (Temperature c) t v k = answer_bits (answer_of (lifted_at c t.alpha v k) v)
bits_by (Ranged c n) t v k = answer_bits (answer_of (lifted_ranged_at c n t v k) v)

-- the lists are long enough
abbrev pub WorkableFor : Goal → Table → ℕ → Type 0
WorkableFor Infrared t n = T true
WorkableFor (Temperature c) t n = n ≤ length t.alpha
WorkableFor (Ranged c r) t n = (n ≤ length t.alpha) × (0 < r) × (r ≤ length t.corners) × (r ≤ length t.k_s_to) × (r ≤ length t.coefficients)

-- pixel k of a frame whose destination was d
abbrev pub frame_bits : Work → Lent → Table → List ℕ → ℕ → ℕ
frame_bits w l t d k = bits_by w.goal t (number_at w.source l d k) k

-- the destination was d and is d', and so many pixels were written as the pattern
pub record Written (w : Work) (l : Lent) (t : Table) (mask d d' : List ℕ) (lost : ℕ) : Type 0 where
  pub count : lost ≡ lost_of (w.blocks * side) mask (frame_bits w l t d)
  pub destination : d' ≡ into (w.blocks * side) mask (frame_bits w l t d) d

-- ---- over a list of numbers

abbrev pub v : List Float → ℕ → Float
v numbers i = get_or numbers i nan

-- what the i-th pixel of a block is written as, of its number alone and of its temperature
abbrev pub number_bits : List Float → ℕ → ℕ
number_bits numbers i = to_bits binary32 (v numbers i)

abbrev pub answers_from : List Float → List Float → ℕ → ℕ
answers_from temperatures numbers i = answer_bits (decided (v temperatures i) (v numbers i))

-- temperatures of final values, and from roots
abbrev pub celsius_at : List Float → ℕ → Float
celsius_at values i = celsius (v values i)

abbrev pub degrees_at : List Float → ℕ → Float
degrees_at roots i = v roots i ⊖ freezing

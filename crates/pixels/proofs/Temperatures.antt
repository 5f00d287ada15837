-- A pixel's final value X computed in stages is its X: from the root in it, and from its basic temperature and the range found for that. Assumes nothing.
use Prim.Native.Nat.{ℕ, zero, suc, ◌+◌, ◌≤◌, ◌<◌}
use mathlib.Core.Path.{◌≡◌, refl, ap, ◌∙◌}
use mathlib.Core.Bool.{Bool, true, false}
use mathlib.Core.List.{List}
use native.Mathlib.Numerals.{add-one}
use native.Mathlib.Omega.{arith}
use lib.IntN.{ℤ, pos}
use lib.ListN.{get_or}
use lib.Ieee.{Float, nan, le}
use Rattle.lists.specs.Pick.{pick}
use Rattle.lists.specs.Last.{last_below}
use Rattle.floats.specs.Floats.{real}
use Rattle.root.specs.Root.{root, celsius}
use Rattle.ranges.specs.Corners.{corner_at, reaches, range_of}
use Rattle.formulas.specs.declared.CommonToData.{CommonToData}
use Rattle.formulas.specs.Pixel.{ranged_of}
use Rattle.formulas.specs.Inner.{lifted_from, lifted_final}
use Rattle.pixels.specs.Inner.{Table, sensitivity_at, lifted_at, under_at, rooted_at, ranged_from, lifted_ranged_at}

pub rooted : (c : CommonToData) (alpha : List Float) (v : Float) (k : ℕ) {r : Float} → r ≡ root (under_at c alpha v k) → rooted_at c alpha v k r ≡ lifted_at c alpha v k
unfolding under_at rooted_at lifted_at lifted_final
rooted c alpha v k e = ap (λ (r : Float). lifted_from v (sensitivity_at c alpha k) r c) e

pub ranged-value : (c : CommonToData) (t : Table) (v : Float) (k : ℕ) (basic : Float) (r : ℕ) {q : ℕ} {x a y : Float} → q ≡ r → x ≡ real (get_or t.corners q (pos 0)) → a ≡ sensitivity_at c t.alpha k
    → y ≡ ranged_of (record { corner = x; k_s_to = get_or t.k_s_to q nan; coefficient = get_or t.coefficients q nan }) c.t_ar a v basic → y ≡ ranged_from c t v k basic r
unfolding ranged_from
ranged-value c t v k basic r e f g h = rw (h, f, g, e) refl

pub ranged : (c : CommonToData) (n : ℕ) (t : Table) (v : Float) (k : ℕ) {basic : Float} {r : ℕ} → basic ≡ celsius (lifted_at c t.alpha v k) → r ≡ range_of n t.corners basic
    → ranged_from c t v k basic r ≡ lifted_ranged_at c n t v k
unfolding lifted_ranged_at
ranged c n t v k {basic = basic} e f =
    ap (ranged_from c t v k basic) f ∙ ap (λ (x : Float). ranged_from c t v k x (range_of n t.corners x)) e

-- ---- the range of a temperature

last_within : (p : ℕ → Bool) (n : ℕ) → 0 < n → last_below p 0 n < n
unfolding last_below
last_within p zero h = absurd (let q : ⊥ = omega arith in q)
last_within p (suc zero) h = one (p zero)
  where
    one : (b : Bool) → pick b zero (last_below p 0 zero) < suc zero
    one true = omega arith
    one false = omega arith
last_within p (suc (suc n)) h = more (p (suc n)) (last_within p (suc n) (omega arith))
  where
    more : (b : Bool) → last_below p 0 (suc n) < suc n → pick b (suc n) (last_below p 0 (suc n)) < suc (suc n)
    more true g = omega arith
    more false g = omega arith

-- the range is an index of every list with at least n entries
pub range-within : (n : ℕ) (corners : List ℤ) (t : Float) {r : ℕ} → r ≡ range_of n corners t → 0 < n → (m : ℕ) → n ≤ m → r < m
unfolding range_of
range-within n corners t e h m l = let w = last_within (reaches corners t) n h in omega arith

-- the step by one range
pub next-range : (corners : List ℤ) (t : Float) (r : ℕ) {x : Float} {n : ℕ} → x ≡ real (corner_at corners r) → n ≡ last_below (reaches corners t) 0 r
    → pick (le x t) r n ≡ last_below (reaches corners t) 0 (r + 1)
unfolding last_below
next-range corners t r e f = rw (add-one r, e, f) refl

pub none-looked : (corners : List ℤ) (t : Float) → 0 ≡ last_below (reaches corners t) 0 0
unfolding last_below
none-looked corners t = refl

pub all-looked : (n : ℕ) (corners : List ℤ) (t : Float) → last_below (reaches corners t) 0 n ≡ range_of n corners t
unfolding range_of
all-looked n corners t = refl

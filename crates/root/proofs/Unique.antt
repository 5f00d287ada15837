-- The nearest root grows with its argument, and `root_pattern` finds it, so there is only one. Assumes nothing.
use Rattle.std.proofs.Common.{◌≡◌, ℕ, zero, suc, ◌+◌, ◌-◌, ◌*◌, ◌^◌, ◌<◌, ◌≤◌, Bool, true, false, sym, ap, ◌∙◌, subst, le_trans, lt_of_lt_of_le, le_of_suc-le-suc, lt_of_le_of_lt, le_of_lt, mul-le-mul_right, mul-le-mul_left, lt_of_not-le, not-le_of_lt, arith, le-ltb, lt-ltb}
use native.Mathlib.Nat.{le_dest, pow-succ'}
use native.Mathlib.Decide.{dec_le}
use Rattle.lists.specs.Pick.{pick}
use Rattle.root.specs.Root.{magnitude, reaches, climb, root_pattern}
use Rattle.root.proofs.Patterns.{Nearest}
use Rattle.root.proofs.Squares.{square_le}
use Rattle.root.proofs.Magnitude.{mag-step}

-- magnitudes grow with the bits
mag-add : (p d : ℕ) → magnitude p ≤ magnitude (p + d)
mag-add p zero = subst (λ (x : ℕ). magnitude p ≤ magnitude x) e (omega arith)
  where
    e : p ≡ p + zero
    e = omega arith
mag-add p (suc d) =
    let e : p + d + 1 ≡ p + suc d = omega arith in
    subst (λ (x : ℕ). magnitude p ≤ magnitude x) e (omega (arith, mag-add p d, mag-step (p + d)))

pub mag-mono : {p r : ℕ} → p ≤ r → magnitude p ≤ magnitude r
mag-mono {p} {r} h = let z = le_dest h in subst (λ (x : ℕ). magnitude p ≤ magnitude x) z.1 (mag-add p z.0)

-- the square of twice the midpoint of r and the bits before it
abbrev mid : ℕ → ℕ
mid r = (magnitude (r - 1) + magnitude r) * (magnitude (r - 1) + magnitude r)

mid-mono : {p r : ℕ} → p ≤ r → mid p ≤ mid r
mid-mono {p} {r} h = square_le (omega (arith, mag-mono h, mag-mono {p = p - 1} {r = r - 1} (omega arith)))

above : (b r : ℕ) → Nearest b r → 4 * (magnitude b * 2 ^ 149) < mid (r + 1)
above b r h =
    let e : r ≡ r + 1 - 1 = omega arith in
    subst (λ (x : ℕ). 4 * (magnitude b * 2 ^ 149) < (magnitude x + magnitude (r + 1)) * (magnitude x + magnitude (r + 1))) e h.high

-- a larger argument's root is not smaller
pub grows : (a b r s : ℕ) → a ≤ b → Nearest a r → Nearest b s → r ≤ s
grows a b r s h n m =
    le_of_suc-le-suc (lt_of_not-le (λ g.
    not-le_of_lt (lt_of_le_of_lt (mid-mono {p = s + 1} {r = r} (next g)) n.low)
    (le_trans (mul-le-mul_left 4 (mul-le-mul_right (2 ^ 149) (mag-mono h))) (le_of_lt (above b s m)))))
  where
    next : suc s ≤ r → s + 1 ≤ r
    next g = omega arith

-- the search keeps the root between r and r + 2 ^ k
found : (b n k r : ℕ) → Nearest b n → r ≤ n → n < r + 2 ^ k → climb b k r ≡ n
unfolding climb
found b n zero r h lo hi = omega arith
found b n (suc k) r h lo hi = elim (dec_le (r + 2 ^ k) n) [
  | yes g ↦
      let e : reaches b (r + 2 ^ k) ≡ true = lt-ltb _ _ (lt_of_le_of_lt (mid-mono g) h.low) in
      ap (λ (t : Bool). climb b k (r + pick t (2 ^ k) 0)) e ∙ found b n k (r + 2 ^ k) h g (omega (arith, pow-succ' 2 k))
  | no g ↦
      let l : n < r + 2 ^ k = lt_of_not-le g in
      let e : reaches b (r + 2 ^ k) ≡ false = le-ltb _ _ (le_of_lt (lt_of_lt_of_le (above b n h) (mid-mono {p = n + 1} {r = r + 2 ^ k} (omega arith)))) in
      let z : r + 0 ≡ r = omega arith in
      ap (λ (t : Bool). climb b k (r + pick t (2 ^ k) 0)) e ∙ ap (climb b k) z ∙ found b n k r h lo l
]

pub is-root : (b n : ℕ) → Nearest b n → n ≡ root_pattern b
unfolding root_pattern
is-root b n h = sym (found b n 31 0 h (omega arith) (omega (arith, h.finite)))

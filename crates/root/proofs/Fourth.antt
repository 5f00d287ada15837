-- The fourth root from two nearest square roots: for 2 ^ 32 ≤ X < 2 ^ 36, (q - 1)⁴ < X * 2 ^ 60 < (q + 1)⁴. Assumes nothing.
use Rattle.std.proofs.Common.{◌≡◌, ℕ, suc, ◌+◌, ◌-◌, ◌*◌, ◌/◌, ◌%◌, ◌^◌, ◌<◌, ◌≤◌, ◌⊎◌, sym, refl, ap, ◌∙◌, subst, inl, inr, le_of_eq, lt_of_lt_of_le, lt_of_le_of_lt, mul_assoc, mul_comm, lt_of_mul-lt-mul_right, eq-or-lt_of_le, arith, lit<, pow-add}
use native.Mathlib.Nat.{pow-succ', mul-mul-mul_comm}
use native.Mathlib.Decide.{dec_le}
use Rattle.root.specs.Root.{magnitude, field}
use Rattle.root.proofs.Patterns.{Nearest, Between}
use Rattle.root.proofs.Squares.{square_le}
use Rattle.root.proofs.Magnitude.{mag-at, mag-next}
use Rattle.root.proofs.Unique.{grows}

-- ---- in plain numbers: S is the first root in units of 2 ^ -30, h half a unit in its last place, and q the second root in units of 2 ^ -15

core-low : (c S T h X : ℕ) → T + h ≡ S → h ≤ c + 1 → (2 * (c + 1)) * (2 * (c + 1)) + 1 < 4 * S + 4 * (c + 1) → T * T < X → c * c * (c * c) < X
core-low c S T h X e l a b = lt_of_le_of_lt (square_le {a = c * c} {b = T} (omega arith)) b

core-high : (q S h X : ℕ) → h ≤ q → 4 * S < (2 * q + 1) * (2 * q + 1) → X < (S + h) * (S + h) → X < (q + 1) * (q + 1) * ((q + 1) * (q + 1))
core-high q S h X l a b = lt_of_lt_of_le b (square_le {a = S + h} {b = (q + 1) * (q + 1)} (omega arith))

-- cancelling a common square factor
cancel-low : (a A y : ℕ) → (a * A) * (a * A) < y * (A * A) → a * a < y
cancel-low a A y h = lt_of_mul-lt-mul_right (A * A) (subst (λ (x : ℕ). x < y * (A * A)) (mul-mul-mul_comm a A a A) h)

cancel-high : (a A y : ℕ) → y * (A * A) < (a * A) * (a * A) → y < a * a
cancel-high a A y h = lt_of_mul-lt-mul_right (A * A) (subst (λ (x : ℕ). y * (A * A) < x) (mul-mul-mul_comm a A a A) h)

-- ---- what `Nearest` gives for bits with the significand p

-- a lower bound on the magnitude of the bits before
before : (j c : ℕ) → 0x7FFFFF ≤ c → c < 0xFFFFFF → c * 2 ^ suc j ≤ magnitude (0x800000 * suc j + c)
before j c lo hi = go (eq-or-lt_of_le lo)
  where
    go : (0x7FFFFF ≡ c) ⊎ (0x7FFFFF < c) → c * 2 ^ suc j ≤ magnitude (0x800000 * suc j + c)
    go (inl e) =
        let a : 0x800000 * suc j + c ≡ 0x800000 * j + 0xFFFFFF = omega arith in
        subst (λ (x : ℕ). c * 2 ^ suc j ≤ x) (sym (ap magnitude a ∙ mag-at j 0xFFFFFF (omega arith) (omega arith)))
        (subst (λ (x : ℕ). x * 2 ^ suc j ≤ 0xFFFFFF * 2 ^ j) e (subst (λ (x : ℕ). 0x7FFFFF * x ≤ 0xFFFFFF * 2 ^ j) (sym (pow-succ' 2 j)) (omega arith)))
    go (inr l) = le_of_eq (sym (mag-at (suc j) c (omega arith) (omega arith)))

-- the lower midpoint, where c is one less than the significand
side-low : (b j c : ℕ) → Nearest b (0x800000 * suc j + (c + 1)) → 0x7FFFFF ≤ c → c < 0xFFFFFF
    → ((2 * c + 1) * 2 ^ suc j) * ((2 * c + 1) * 2 ^ suc j) < 4 * (magnitude b * 2 ^ 149)
side-low b j c n lo hi =
    let P : ℕ = 2 ^ suc j in
    let e : 0x800000 * suc j + (c + 1) - 1 ≡ 0x800000 * suc j + c = omega arith in
    lt_of_le_of_lt
    (square_le (sum P c (magnitude (0x800000 * suc j + (c + 1) - 1)) (magnitude (0x800000 * suc j + (c + 1))) (subst (λ (x : ℕ). c * P ≤ magnitude x) (sym e) (before j c lo hi)) (mag-at (suc j) (c + 1) (omega arith) (omega arith))))
    n.low
  where
    sum : (P c x y : ℕ) → c * P ≤ x → y ≡ (c + 1) * P → (2 * c + 1) * P ≤ x + y
    sum P c x y g h = omega arith

side-high : (b j q : ℕ) → Nearest b (0x800000 * j + q) → 0x800000 ≤ q → q < 0x1000000
    → 4 * (magnitude b * 2 ^ 149) < ((2 * q + 1) * 2 ^ j) * ((2 * q + 1) * 2 ^ j)
side-high b j q n lo hi =
    subst (λ (x : ℕ). 4 * (magnitude b * 2 ^ 149) < x * x) (sum (2 ^ j) q (magnitude (0x800000 * j + q)) (magnitude (0x800000 * j + q + 1)) (mag-at j q lo hi) (mag-next j q lo hi)) n.high
  where
    sum : (P q x y : ℕ) → x ≡ q * P → y ≡ (q + 1) * P → x + y ≡ (2 * q + 1) * P
    sum P q x y g h = omega arith

-- ---- the two roots together

-- a scale 2 ^ (a + e) is 2 ^ e times 2 ^ a, under a product
apart : (x a e : ℕ) → x * 2 ^ (a + e) ≡ x * 2 ^ e * 2 ^ a
apart x a e = ap (λ (y : ℕ). x * y) (pow-add 2 a e ∙ mul_comm (2 ^ a) (2 ^ e)) ∙ sym (mul_assoc x (2 ^ e) (2 ^ a))

four : (x y : ℕ) → 4 * (x * y) ≡ 4 * x * y
four x y = sym (mul_assoc 4 x y)

module _ (b e h X : ℕ) (half : 2 ^ e ≡ 2 * h) (whole : magnitude b ≡ X * 2 ^ 89) where
  first-value : 4 * (magnitude b * 2 ^ 149) ≡ 4 * X * (2 ^ 119 * 2 ^ 119)
  first-value = ap (λ (y : ℕ). 4 * (y * 2 ^ 149)) whole ∙ ap (λ (y : ℕ). 4 * y) (mul_assoc X (2 ^ 89) (2 ^ 149)) ∙ four X (2 ^ 89 * 2 ^ 149)

  -- the first root, with significand c + 1, is (c + 1) * 2 h, and T is half a unit in the last place below
  first-low : (c : ℕ) → Nearest b (0x800000 * suc (118 + e) + (c + 1)) → 0x7FFFFF ≤ c → c < 0xFFFFFF → ((2 * c + 1) * h) * ((2 * c + 1) * h) < X
  first-low c n lo hi =
      let a : (2 * c + 1) * 2 ^ suc (118 + e) ≡ (2 * c + 1) * 2 ^ e * 2 ^ 119 = (ap (λ (y : ℕ). (2 * c + 1) * 2 ^ y) (suc-add 118 e) ∙ apart (2 * c + 1) 119 e) in
      let l : ((2 * c + 1) * 2 ^ e * 2 ^ 119) * ((2 * c + 1) * 2 ^ e * 2 ^ 119) < 4 * X * (2 ^ 119 * 2 ^ 119) =
      subst (λ (y : ℕ). y * y < 4 * X * (2 ^ 119 * 2 ^ 119)) a (subst (λ (y : ℕ). ((2 * c + 1) * 2 ^ suc (118 + e)) * ((2 * c + 1) * 2 ^ suc (118 + e)) < y) first-value (side-low b (118 + e) c n lo hi)) in
      quarter (2 * c + 1) (2 ^ e) h X half (cancel-low ((2 * c + 1) * 2 ^ e) (2 ^ 119) (4 * X) l)
    where
      suc-add : (a e : ℕ) → suc (a + e) ≡ suc a + e
      suc-add a e = omega arith

      quarter : (a E h X : ℕ) → E ≡ 2 * h → (a * E) * (a * E) < 4 * X → (a * h) * (a * h) < X
      quarter a E h X g l = omega (arith, subst (λ (y : ℕ). (a * y) * (a * y) < 4 * X) g l)

  first-high : (p : ℕ) → Nearest b (0x800000 * (119 + e) + p) → 0x800000 ≤ p → p < 0x1000000 → X < ((2 * p + 1) * h) * ((2 * p + 1) * h)
  first-high p n lo hi =
      let a : (2 * p + 1) * 2 ^ (119 + e) ≡ (2 * p + 1) * 2 ^ e * 2 ^ 119 = apart (2 * p + 1) 119 e in
      let l : 4 * X * (2 ^ 119 * 2 ^ 119) < ((2 * p + 1) * 2 ^ e * 2 ^ 119) * ((2 * p + 1) * 2 ^ e * 2 ^ 119) =
      subst (λ (y : ℕ). 4 * X * (2 ^ 119 * 2 ^ 119) < y * y) a (subst (λ (y : ℕ). y < ((2 * p + 1) * 2 ^ (119 + e)) * ((2 * p + 1) * 2 ^ (119 + e))) first-value (side-high b (119 + e) p n lo hi)) in
      quarter (2 * p + 1) (2 ^ e) h X half (cancel-high ((2 * p + 1) * 2 ^ e) (2 ^ 119) (4 * X) l)
    where
      quarter : (a E h X : ℕ) → E ≡ 2 * h → 4 * X < (a * E) * (a * E) → X < (a * h) * (a * h)
      quarter a E h X g l = omega (arith, subst (λ (y : ℕ). 4 * X < (a * y) * (a * y)) g l)

  -- the value under the second root
  second-value : (p : ℕ) → 0x800000 ≤ p → p < 0x1000000 → 4 * (magnitude (0x800000 * (119 + e) + p) * 2 ^ 149) ≡ 4 * (p * (2 * h)) * (2 ^ 134 * 2 ^ 134)
  second-value p lo hi =
      ap (λ (y : ℕ). 4 * (y * 2 ^ 149)) (mag-at (119 + e) p lo hi ∙ apart p 119 e ∙ ap (λ (y : ℕ). p * y * 2 ^ 119) half)
      ∙ ap (λ (y : ℕ). 4 * y) (mul_assoc (p * (2 * h)) (2 ^ 119) (2 ^ 149))
      ∙ four (p * (2 * h)) (2 ^ 119 * 2 ^ 149)

  both : (p q r : ℕ) → 0x800000 ≤ p → p < 0x1000000 → 0x800000 ≤ q → q < 0x1000000 → h ≤ q
      → Nearest b (0x800000 * (119 + e) + p) → Nearest (0x800000 * (119 + e) + p) (0x800000 * 134 + q)
      → ((q - 1) * (q - 1) * ((q - 1) * (q - 1)) < X) × (X < (q + 1) * (q + 1) * ((q + 1) * (q + 1)))
  both p q r plo phi qlo qhi hq n m =
      let v = second-value p plo phi in
      let d : ℕ = q - 1 in
      let c : ℕ = p - 1 in
      let qd : 0x800000 * 134 + q ≡ 0x800000 * suc 133 + (d + 1) = omega arith in
      let pc : 0x800000 * (119 + e) + p ≡ 0x800000 * suc (118 + e) + (c + 1) = omega arith in
      let m' : Nearest (0x800000 * (119 + e) + p) (0x800000 * suc 133 + (d + 1)) = subst (λ (y : ℕ). Nearest (0x800000 * (119 + e) + p) y) qd m in
      let n' : Nearest b (0x800000 * suc (118 + e) + (c + 1)) = subst (λ (y : ℕ). Nearest b y) pc n in
      let lo2 : (2 * d + 1) * (2 * d + 1) < 4 * (p * (2 * h)) =
      cancel-low (2 * d + 1) (2 ^ 134) (4 * (p * (2 * h))) (subst (λ (y : ℕ). ((2 * d + 1) * 2 ^ 134) * ((2 * d + 1) * 2 ^ 134) < y) v (side-low (0x800000 * (119 + e) + p) 133 d m' (omega arith) (omega arith))) in
      let hi2 : 4 * (p * (2 * h)) < (2 * q + 1) * (2 * q + 1) =
      cancel-high (2 * q + 1) (2 ^ 134) (4 * (p * (2 * h))) (subst (λ (y : ℕ). y < ((2 * q + 1) * 2 ^ 134) * ((2 * q + 1) * 2 ^ 134)) v (side-high (0x800000 * (119 + e) + p) 134 q m qlo qhi)) in (
        core-low d (p * (2 * h)) ((2 * c + 1) * h) h X (place p c h (omega arith)) (omega arith) (over d (p * (2 * h)) lo2) (first-low c n' (omega arith) (omega arith)),
        core-high q (p * (2 * h)) h X hq hi2 (subst (λ (y : ℕ). X < y * y) (place_up p h) (first-high p n plo phi)),
      )
    where
      place : (p c h : ℕ) → p ≡ c + 1 → (2 * c + 1) * h + h ≡ p * (2 * h)
      place p c h e = let z : (2 * c + 1) * h + h ≡ (c + 1) * (2 * h) = omega arith in z ∙ ap (λ (y : ℕ). y * (2 * h)) (sym e)

      place_up : (p h : ℕ) → (2 * p + 1) * h ≡ p * (2 * h) + h
      place_up p h = omega arith

      over : (d S : ℕ) → (2 * d + 1) * (2 * d + 1) < 4 * S → (2 * (d + 1)) * (2 * (d + 1)) + 1 < 4 * S + 4 * (d + 1)
      over d S l = omega arith

-- ---- the ends of the range, by computation

low_first : Nearest 0x4F800000 0x47800000
unfolding magnitude field
low_first = record { low = lit< tt; high = lit< tt; some = lit< tt; finite = lit< tt }

high-first : Nearest 0x517FFFFF 0x487FFFFF
unfolding magnitude field
high-first = record { low = lit< tt; high = lit< tt; some = lit< tt; finite = lit< tt }

low_second : Nearest 0x47800000 0x43800000
unfolding magnitude field
low_second = record { low = lit< tt; high = lit< tt; some = lit< tt; finite = lit< tt }

high-second : Nearest 0x487FFFFF 0x43FFFFFF
unfolding magnitude field
high-second = record { low = lit< tt; high = lit< tt; some = lit< tt; finite = lit< tt }

-- X times 2 ^ 60, for bits from those of 2 ^ 32 up
scaled-whole : (b : ℕ) → 0x4F800000 ≤ b → magnitude b ≡ (b % 0x800000 + 0x800000) * 2 ^ (b / 0x800000 - 90) * 2 ^ 89
scaled-whole b h =
    let x : ℕ = b / 0x800000 - 90 in
    let m : ℕ = b % 0x800000 + 0x800000 in
    let e : b ≡ 0x800000 * (89 + x) + m = omega arith in
    ap magnitude e ∙ mag-at (89 + x) m (omega arith) (omega arith) ∙ apart m 89 x

pub in_between : (b s r : ℕ) → Nearest b s → Nearest s r → 0x4F800000 ≤ b → b < 0x51800000 → Between b r
in_between b s r n m lo hi =
    let s-lo : 0x47800000 ≤ s = grows 0x4F800000 b 0x47800000 s lo low_first n in
    let s-hi : s ≤ 0x487FFFFF = grows b 0x517FFFFF s 0x487FFFFF (omega arith) n high-first in
    let r-lo : 0x43800000 ≤ r = grows 0x47800000 s 0x43800000 r s-lo low_second m in
    let r-hi : r ≤ 0x43FFFFFF = grows s 0x487FFFFF r 0x43FFFFFF s-hi m high-second in
    let q : ℕ = r - 0x43000000 in
    let X : ℕ = (b % 0x800000 + 0x800000) * 2 ^ (b / 0x800000 - 90) in
    let re : r ≡ 0x800000 * 134 + q = omega arith in
    let t : ((q - 1) * (q - 1) * ((q - 1) * (q - 1)) < X) × (X < (q + 1) * (q + 1) * ((q + 1) * (q + 1))) = elim (dec_le 0x48000000 s) [
      | yes g ↦
          let p : ℕ = s - 0x800000 * (119 + 24) in
          let se : s ≡ 0x800000 * (119 + 24) + p = omega arith in
          both b 24 0x800000 X refl (scaled-whole b lo) p q r (omega arith) (omega arith) (omega arith) (omega arith) (omega arith) (subst (Nearest b) se n) (subst (λ (y : ℕ). Nearest y (0x800000 * 134 + q)) se (subst (Nearest s) re m))
      | no g ↦
          let p : ℕ = s - 0x800000 * (119 + 23) in
          let se : s ≡ 0x800000 * (119 + 23) + p = omega arith in
          both b 23 0x400000 X refl (scaled-whole b lo) p q r (omega arith) (omega arith) (omega arith) (omega arith) (omega arith) (subst (Nearest b) se n) (subst (λ (y : ℕ). Nearest y (0x800000 * 134 + q)) se (subst (Nearest s) re m))
    ] in
    record { q = q; X = X; sum = re; from = omega arith; under = omega arith; value = scaled-whole b lo; low = t.0; high = t.1 }

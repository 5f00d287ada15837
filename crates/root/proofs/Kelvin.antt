-- The temperature: a difference of two multiples of 2 ^ -15 below 2 ^ 9 is exact. Assumes nothing.
use Rattle.std.proofs.Common.{◌≡◌, ℕ, ◌-◌, ◌*◌, ◌^◌, ◌<◌, ◌≤◌, Bool, true, false, cond, ltb, ℤ, sym, refl, ap, ◌∙◌, subst, true≢false, lt_of_lt_of_le, mul-le-mul_right, mul_assoc, mul_comm, lt_of_mul-lt-mul_right, mul-lt-mul_of_pos_right, mul-pos, lt_of_not-le, mul_right_comm, le_of_mul-le-mul_right, arith, lit≤, pow_pos, le-ltb, lt-ltb}
use native.Mathlib.Nat.{mul-sub}
use native.Mathlib.Decide.{dec_le}
use lib.Ieee.{Float, nan, inf, fin, binary32, up, down, round, sum, add, sub, neg}
use lib.Ieee.Exact.{HasValue, round_exact}
use lib.Ieee.Fits.{down_pos}
use Rattle.lists.specs.Pick.{pick}
use Rattle.root.proofs.Fractions.{refrac}

-- num / den is w * 2 ^ -15
exact : (s : Bool) (num den w : ℕ) → 0 < den → w < 0x1000000 → num * 0x8000 ≡ w * den → HasValue (round binary32 s num den) s w 0x8000
exact s num den w p small h =
    refrac (round binary32 s num den) s num den w 0x8000 p h
    (round_exact binary32 s num den w 134 p small (fine w small)
    (sym (mul_assoc num 0x8000 (2 ^ 134)) ∙ ap (λ (x : ℕ). x * 2 ^ 134) h ∙ mul_right_comm w den (2 ^ 134)))
  where
    fine : (w : ℕ) → w < 0x1000000 → w * 2 ^ 134 < 2 ^ 277
    fine w small = lt_trans' (mul-lt-mul_of_pos_right small (pow_pos 134))
      where
        lt_trans' : w * 2 ^ 134 < 0x1000000 * 2 ^ 134 → w * 2 ^ 134 < 2 ^ 277
        lt_trans' h = lt_of_lt_of_le h (lit≤ tt)

-- `sub`, written out
is : (m : ℕ) (e : ℤ) (n : ℕ) (d : ℤ) → sub binary32 (fin false m e) (fin false n d) ≡ cond (ltb (m * up e * down d) (n * up d * down e)) (round binary32 true (n * up d * down e - m * up e * down d) (down e * down d)) (round binary32 false (m * up e * down d - n * up d * down e) (down e * down d))
unfolding sub add neg sum
is m e n d = refl

-- the difference of a / 2 ^ 15 and b / 2 ^ 15
pub difference : (x y : Float) (a b : ℕ) → a < 0x1000000 → b < 0x1000000 → HasValue x false a 0x8000 → HasValue y false b 0x8000
    → HasValue (sub binary32 x y) (ltb a b) (pick (ltb a b) (b - a) (a - b)) 0x8000
difference nan y a b al bl h k = absurd h
difference (inf s) y a b al bl h k = absurd h
difference (fin s m e) nan a b al bl h k = absurd k
difference (fin s m e) (inf t) a b al bl h k = absurd k
difference (fin true m e) (fin t n d) a b al bl h k = absurd (true≢false h.0)
difference (fin false m e) (fin true n d) a b al bl h k = absurd (true≢false k.0)
difference (fin false m e) (fin false n d) a b al bl h k =
    subst (λ (v : Float). HasValue v (ltb a b) (pick (ltb a b) (b - a) (a - b)) 0x8000) (sym (is m e n d)) (go (dec_le b a))
  where
    A : ℕ
    A = m * up e * down d

    B : ℕ
    B = n * up d * down e

    C : ℕ
    C = down e * down d

    pc : 0 < C
    pc = mul-pos (down_pos e) (down_pos d)

    ea : A * 0x8000 ≡ a * C
    ea = mul_right_comm (m * up e) (down d) 0x8000 ∙ ap (λ (x : ℕ). x * down d) h.1 ∙ mul_assoc a (down e) (down d)

    eb : B * 0x8000 ≡ b * C
    eb = mul_right_comm (n * up d) (down e) 0x8000 ∙ ap (λ (x : ℕ). x * down e) k.1 ∙ mul_assoc b (down d) (down e) ∙ ap (λ (x : ℕ). b * x) (mul_comm (down d) (down e))

    -- omega takes the products as unknowns
    gap : (A B C a b : ℕ) → A * 0x8000 ≡ a * C → B * 0x8000 ≡ b * C → (B - A) * 0x8000 ≡ (b - a) * C
    gap A B C a b p q =
        mul_comm (B - A) 0x8000 ∙ mul-sub 0x8000 B A ∙ ap (λ (x : ℕ). x - 0x8000 * A) (mul_comm 0x8000 B ∙ q) ∙ ap (λ (x : ℕ). b * C - x) (mul_comm 0x8000 A ∙ p)
        ∙ ap (λ (x : ℕ). x - a * C) (mul_comm b C) ∙ ap (λ (x : ℕ). C * b - x) (mul_comm a C) ∙ sym (mul-sub C b a) ∙ mul_comm C (b - a)

    go : Dec (b ≤ a) → HasValue (cond (ltb A B) (round binary32 true (B - A) C) (round binary32 false (A - B) C)) (ltb a b) (pick (ltb a b) (b - a) (a - b)) 0x8000
    go (yes g) =
        let u : ltb a b ≡ false = le-ltb a b g in
        let l : B ≤ A = le_of_mul-le-mul_right (subst (λ (x : ℕ). x ≤ A * 0x8000) (sym eb) (subst (λ (x : ℕ). b * C ≤ x) (sym ea) (mul-le-mul_right C g))) (omega arith) in
        let w : ltb A B ≡ false = le-ltb A B l in
        subst (λ (t : Bool). HasValue (cond t (round binary32 true (B - A) C) (round binary32 false (A - B) C)) (ltb a b) (pick (ltb a b) (b - a) (a - b)) 0x8000) (sym w)
        (subst (λ (t : Bool). HasValue (round binary32 false (A - B) C) t (pick t (b - a) (a - b)) 0x8000) (sym u)
        (exact false (A - B) C (a - b) pc (omega arith) (gap B A C b a eb ea)))
    go (no f) =
        let g : a < b = lt_of_not-le f in
        let u : ltb a b ≡ true = lt-ltb a b g in
        let l : A < B = lt_of_mul-lt-mul_right 0x8000 (subst (λ (x : ℕ). x < B * 0x8000) (sym ea) (subst (λ (x : ℕ). a * C < x) (sym eb) (mul-lt-mul_of_pos_right g pc))) in
        let w : ltb A B ≡ true = lt-ltb A B l in
        subst (λ (t : Bool). HasValue (cond t (round binary32 true (B - A) C) (round binary32 false (A - B) C)) (ltb a b) (pick (ltb a b) (b - a) (a - b)) 0x8000) (sym w)
        (subst (λ (t : Bool). HasValue (round binary32 true (B - A) C) t (pick t (b - a) (a - b)) 0x8000) (sym u)
        (exact true (B - A) C (b - a) pc (omega arith) (gap A B C a b ea eb)))

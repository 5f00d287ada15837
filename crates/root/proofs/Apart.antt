-- No temperature is near both 2 ^ 32 and 2 ^ 33, and each of the two has one near it: so no constant meets demand 3. Assumes nothing.
use Rattle.std.proofs.Common.{◌≡◌, ℕ, ◌+◌, ◌-◌, ◌*◌, ◌/◌, ◌^◌, ◌<◌, ◌≤◌, true, false, ltb, sym, refl, ◌∙◌, true≢false, le_trans, lt_of_not-le, mul-one, not-le_of_lt, arith, lit<, lit≤, le-ltb, lt-ltb}
use native.Mathlib.Nat.{pow-le-pow_left}
use native.Mathlib.Decide.{dec_le}
use lib.Ieee.{Float, nan, inf, fin, up, down, of_bits, to_bits, sub}
use lib.Ieee.Exact.{HasValue}
use Rattle.lists.specs.Pick.{pick}
use Rattle.floats.specs.Floats.{power_of_two}
use Rattle.floats.proofs.Power.{power-value}
use Rattle.root.specs.Root.{magnitude, celsius}
use Rattle.root.specs.Demand.{Near4}
use Rattle.root.proofs.Fractions.{refrac, same_sign, same_number}

-- ---- the two temperatures, by computation

-- the q of a temperature: 32768 times the temperature, plus 8950579
ticks : Float → ℕ
ticks nan = 0
ticks (inf s) = 0
ticks (fin false m e) = 8950579 + m * up e * 32768 / down e
ticks (fin true m e) = 8950579 - m * up e * 32768 / down e

pub at-32 : Near4 (power_of_two 32) (celsius (power_of_two 32))
unfolding ticks celsius power_of_two sub of_bits to_bits magnitude
at-32 =
    record {
      q = ticks (celsius (power_of_two 32));
      X = 2 ^ 32 * 2 ^ 60;
      value = (refl, refl);
      degrees = (refl, refl);
      low = lit< tt;
      high = lit< tt;
    }

pub at-33 : Near4 (power_of_two 33) (celsius (power_of_two 33))
unfolding ticks celsius power_of_two sub of_bits to_bits magnitude
at-33 =
    record {
      q = ticks (celsius (power_of_two 33));
      X = 2 ^ 33 * 2 ^ 60;
      value = (refl, refl);
      degrees = (refl, refl);
      low = lit< tt;
      high = lit< tt;
    }

-- ---- each temperature has one q

one-q : (t : Float) (p q : ℕ)
    → HasValue t (ltb p 8950579) (pick (ltb p 8950579) (8950579 - p) (p - 8950579)) 32768
    → HasValue t (ltb q 8950579) (pick (ltb q 8950579) (8950579 - q) (q - 8950579)) 32768
    → p ≡ q
one-q t p q h k = go (same_sign t _ _ _ _ _ _ h k) (same_number t _ _ _ _ _ h k)
  where
    go : ltb p 8950579 ≡ ltb q 8950579 → pick (ltb p 8950579) (8950579 - p) (p - 8950579) ≡ pick (ltb q 8950579) (8950579 - q) (q - 8950579) → p ≡ q
    go s n = elim (dec_le 8950579 p) [
      | yes f ↦ elim (dec_le 8950579 q) [
        | yes g ↦ let e : p - 8950579 ≡ q - 8950579 = rw (le-ltb p 8950579 f, le-ltb q 8950579 g) at n in omega arith
        | no g ↦ absurd (true≢false (sym (lt-ltb q 8950579 (lt_of_not-le g)) ∙ sym s ∙ le-ltb p 8950579 f))
      ]
      | no f ↦ elim (dec_le 8950579 q) [
        | yes g ↦ absurd (true≢false (sym (lt-ltb p 8950579 (lt_of_not-le f)) ∙ s ∙ le-ltb q 8950579 g))
        | no g ↦ let e : 8950579 - p ≡ 8950579 - q = rw (lt-ltb p 8950579 (lt_of_not-le f), lt-ltb q 8950579 (lt_of_not-le g)) at n in omega (arith, lt_of_not-le f, lt_of_not-le g)
      ]
    ]

-- ---- no q is near both

power-is : (e X : ℕ) → e < 128 → HasValue (power_of_two e) false X (2 ^ 60) → X ≡ 2 ^ e * 2 ^ 60
power-is e X l h =
    same_number (power_of_two e) false false X (2 ^ e * 2 ^ 60) (2 ^ 60) h
    (refrac (power_of_two e) false (2 ^ e) 1 (2 ^ e * 2 ^ 60) (2 ^ 60) (omega arith) (sym (mul-one (2 ^ e * 2 ^ 60))) (power-value e l))

-- (of the four bounds two are enough)
pub no-q : (q : ℕ) → (q - 1) ^ 4 < 2 ^ 32 * 2 ^ 60 → 2 ^ 33 * 2 ^ 60 < (q + 1) ^ 4 → ⊥
no-q q low high =
    let l : q - 1 < 0x800000 = lt_of_not-le (λ g. not-le_of_lt low (pow-le-pow_left g 4)) in
    let r : q + 1 ≤ 0x800001 = omega arith in
    not-le_of_lt high (le_trans (pow-le-pow_left r 4) (lit≤ tt))

pub none-near-both : (t : Float) → Near4 (power_of_two 32) t → Near4 (power_of_two 33) t → ⊥
none-near-both t n m =
    no-q n.q
    (rw (power-is 32 n.X (omega arith) n.value) at n.low)
    (rw (power-is 33 m.X (omega arith) m.value, ← one-q t n.q m.q n.degrees m.degrees) at m.high)

-- the temperature is not constant
pub not-constant : celsius (power_of_two 32) ≡ celsius (power_of_two 33) → ⊥
not-constant e = none-near-both (celsius (power_of_two 32)) at-32 (rw (← e) at at-33)

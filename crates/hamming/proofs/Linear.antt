-- Parity is linear: over the exclusive or of two words it is the sum of theirs, modulo 2.
-- Assumes nothing.
use mathlib.Core.Path.{◌≡◌, refl, sym, ap, ap₂, ◌∙◌, subst}
use Prim.Native.Nat.{ℕ, zero, suc, ◌+◌, ◌/◌, ◌%◌, ◌^◌, ◌<◌}
use native.Mathlib.Nat.{mod-lt, zero-lt-suc, add-mod, mod-add-mod, add-mod-mod, pow-suc, div-lt_iff_lt-mul}
use native.Mathlib.Omega.{arith}
use lib.Bits.{bit_and, bit_xor, and_mod, xor_mod, and_shr, xor_shr}
use lib.Count.{ones, ones_in, ones_step}
use lib.Arith.{lt-one}
use Rattle.hamming.specs.Word.{parity}
use Rattle.hamming.proofs.Xor.{bit}

two_pos : zero < 2
two_pos = zero-lt-suc 1

xor-bits : (x y z : ℕ) → x < 2 → y < 2 → z < 2 → bit_and (bit_xor x y) z ≡ (bit_and x z + bit_and y z) % 2
xor-bits x y z hx hy hz =
    bit (λ (x : ℕ). bit_and (bit_xor x y) z ≡ (bit_and x z + bit_and y z) % 2)
    (bit (λ (y : ℕ). bit_and (bit_xor 0 y) z ≡ (bit_and 0 z + bit_and y z) % 2)
    refl
    (bit (λ (z : ℕ). bit_and (bit_xor 0 1) z ≡ (bit_and 0 z + bit_and 1 z) % 2) refl refl z hz) y hy)
    (bit (λ (y : ℕ). bit_and (bit_xor 1 y) z ≡ (bit_and 1 z + bit_and y z) % 2)
    (bit (λ (z : ℕ). bit_and (bit_xor 1 0) z ≡ (bit_and 1 z + bit_and 0 z) % 2) refl refl z hz)
    (bit (λ (z : ℕ). bit_and (bit_xor 1 1) z ≡ (bit_and 1 z + bit_and 1 z) % 2) refl refl z hz) y hy) x hx

low : (m a b : ℕ) → bit_and (bit_xor a b) m % 2 ≡ (bit_and a m % 2 + bit_and b m % 2) % 2
low m a b =
    and_mod (bit_xor a b) m 1 ∙ ap (λ (x : ℕ). bit_and x (m % 2)) (xor_mod a b 1)
    ∙ xor-bits (a % 2) (b % 2) (m % 2) (mod-lt a two_pos) (mod-lt b two_pos) (mod-lt m two_pos)
    ∙ sym (ap₂ (λ (x y : ℕ). (x + y) % 2) (and_mod a m 1) (and_mod b m 1))

high : (m a b : ℕ) → bit_and (bit_xor a b) m / 2 ≡ bit_and (bit_xor (a / 2) (b / 2)) (m / 2)
high m a b = and_shr (bit_xor a b) m 1 ∙ ap (λ (x : ℕ). bit_and x (m / 2)) (xor_shr a b 1)

swap : (x y z u : ℕ) → x + y + (z + u) ≡ x + z + (y + u)
swap x y z u = omega arith

sum : (p q x y z u : ℕ) → p ≡ (x + y) % 2 → q % 2 ≡ (z % 2 + u % 2) % 2 → (p + q) % 2 ≡ ((x + z) % 2 + (y + u) % 2) % 2
sum p q x y z u e f =
    ap (λ (n : ℕ). (n + q) % 2) e ∙ mod-add-mod (x + y) 2 q ∙ sym (add-mod-mod (x + y) q 2)
    ∙ ap (λ (n : ℕ). (x + y + n) % 2) (f ∙ sym (add-mod z u 2)) ∙ add-mod-mod (x + y) (z + u) 2
    ∙ ap (λ (n : ℕ). n % 2) (swap x y z u) ∙ add-mod (x + z) (y + u) 2

pub in-xor : (k m a b : ℕ) → ones_in k (bit_and (bit_xor a b) m) % 2 ≡ (ones_in k (bit_and a m) % 2 + ones_in k (bit_and b m) % 2) % 2
unfolding ones_in
in-xor zero m a b = refl
in-xor (suc k) m a b =
    let e = in-xor k (m / 2) (a / 2) (b / 2) in
    let h : ones_in k (bit_and (bit_xor a b) m / 2) % 2 ≡ (ones_in k (bit_and a m / 2) % 2 + ones_in k (bit_and b m / 2) % 2) % 2 =
    ap (λ (x : ℕ). ones_in k x % 2) (high m a b) ∙ e
    ∙ sym (ap₂ (λ (x y : ℕ). (ones_in k x % 2 + ones_in k y % 2) % 2) (and_shr a m 1) (and_shr b m 1)) in
    sum (bit_and (bit_xor a b) m % 2) (ones_in k (bit_and (bit_xor a b) m / 2)) (bit_and a m % 2) (bit_and b m % 2) (ones_in k (bit_and a m / 2)) (ones_in k (bit_and b m / 2)) (low m a b) h

pub parity-xor : (m a b : ℕ) → parity m (bit_xor a b) ≡ (parity m a + parity m b) % 2
unfolding parity
parity-xor m a b = in-xor 16 m a b

pub parity-lt : (m a : ℕ) → parity m a < 2
unfolding parity
parity-lt m a = mod-lt (ones_in 16 (bit_and a m)) two_pos

-- a number below 2 ^ k has all its ones among the low k bits
pub ones-in : (k n : ℕ) → n < 2 ^ k → ones n ≡ ones_in k n
unfolding ones ones_in
ones-in zero n h = ap ones (lt-one h)
ones-in (suc k) n h = ones_step n ∙ ap (λ (x : ℕ). n % 2 + x) (ones-in k (n / 2) ((div-lt_iff_lt-mul two_pos).1 (subst (λ (x : ℕ). n < x) (pow-suc 2 k) h)))

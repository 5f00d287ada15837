-- The syndrome of a word: for each check bit, the parity over the bits it covers and itself. It is linear, and 0 exactly for the codewords.
-- Assumes nothing.
use mathlib.Core.Path.{◌≡◌, refl, sym, ap, ap₂, ◌∙◌, subst}
use mathlib.Core.Bool.{Bool, true, false}
use Prim.Native.Nat.{ℕ, ◌+◌, ◌*◌, ◌/◌, ◌%◌, ◌^◌, ◌<◌}
use native.Mathlib.Nat.{add_comm, mod-lt, mod-eq_of_lt, lt_of_le_of_lt}
use native.Mathlib.Omega.{arith}
use lib.Bits.{bit_and, bit_xor, and_le_l, and_mod, xor_block, xor_mod, xor_self, xor_lt, xor_shifted}
use lib.Count.{ones_in}
use lib.Dec.{T, eqb, eqb→eq, lit<}
use borrow.Author.Tests.{eq-eqb, ne_eqb, eqb-true, eqb-false}
use Rattle.lists.proofs.Every.{every, at}
use Rattle.hamming.specs.Word.{parity, with_four, encoded, codeword}
use Rattle.hamming.specs.Inner.{syndrome_of}
use Rattle.hamming.proofs.Xor.{bit, xor-bit, xor_same}
use Rattle.hamming.proofs.Linear.{parity-xor, parity-lt}
use Rattle.hamming.proofs.Put.{with-four-lt}

pub syn-lt : (w : ℕ) → syndrome_of w < 32
unfolding syndrome_of
syn-lt w = omega (arith, parity-lt 0xFFFF w, parity-lt 0x47F0 w, parity-lt 0x278E w, parity-lt 0x166D w, parity-lt 0x0D5B w)

one_bit : (m a b : ℕ) → parity m (bit_xor a b) ≡ bit_xor (parity m a) (parity m b)
one_bit m a b = parity-xor m a b ∙ xor-bit (parity m a) (parity m b) (parity-lt m a) (parity-lt m b)

more-bits : (p q r m a b : ℕ) → r ≡ bit_xor p q → r * 2 + parity m (bit_xor a b) ≡ bit_xor (p * 2 + parity m a) (q * 2 + parity m b)
more-bits p q r m a b e =
    ap₂ (λ (x y : ℕ). x * 2 + y) e (one_bit m a b) ∙ sym (xor_block 1 p q (parity m a) (parity m b) (parity-lt m a) (parity-lt m b))

pub syn-xor : (a b : ℕ) → syndrome_of (bit_xor a b) ≡ bit_xor (syndrome_of a) (syndrome_of b)
unfolding syndrome_of
syn-xor a b =
    more-bits _ _ _ 0x0D5B a b (more-bits _ _ _ 0x166D a b (more-bits _ _ _ 0x278E a b (more-bits _ _ _ 0x47F0 a b (one_bit 0xFFFF a b))))

-- ---- the codewords

-- the low 11 bits of a codeword are its data
pub data-of-encoded : (d : ℕ) → d < 2048 → encoded d % 2048 ≡ d
unfolding encoded with_four
data-of-encoded d h = omega arith

pub encoded-lt : (d : ℕ) → d < 2048 → encoded d < 65536
unfolding encoded
encoded-lt d h = omega (arith, with-four-lt d h, parity-lt 0x7FFF (with_four d))

-- mask bits above the bits of a number have no effect
masked : (k m w : ℕ) → w < 2 ^ k → parity m w ≡ parity (m % 2 ^ k) w
unfolding parity
masked k m w h =
    ap (λ (n : ℕ). ones_in 16 n % 2)
    (sym (mod-eq_of_lt (lt_of_le_of_lt (and_le_l w m) h)) ∙ and_mod w m k ∙ ap (λ (n : ℕ). bit_and n (m % 2 ^ k)) (mod-eq_of_lt h))

-- a parity and a check bit equal to it add up to an even number
even : (p q r s : ℕ) → p < 2 → q ≡ (r + s) % 2 → r ≡ p → s ≡ p → q ≡ 0
even p q r s h e f g = omega arith

-- of the check bits P0 to P3, each mask covers only its own
own-right : ℕ → ℕ → ℕ → Bool
own-right m k c = eqb (parity m (c * 2048)) (c / k % 2)

own-tests : T (every (own-right 0x0D5B 1) 5 0) × T (every (own-right 0x166D 2) 5 0) × T (every (own-right 0x278E 4) 5 0) × T (every (own-right 0x47F0 8) 5 0)
unfolding own-right parity ones_in
own-tests = (tt, tt, tt, tt)

-- the same for P4
top : (p : ℕ) → p < 2 → parity 0xFFFF (p * 2 ^ 15) ≡ p
unfolding parity ones_in
top = bit (λ (p : ℕ). parity 0xFFFF (p * 2 ^ 15) ≡ p) refl refl

module _ (d : ℕ) (h : d < 2048) where
  abbrev checks : ℕ
  checks = encoded d / 2048

  few : checks < 32
  few = let e = encoded-lt d h in omega arith

  digits : (checks / 1 % 2 ≡ parity 0x055B d) × (checks / 2 % 2 ≡ parity 0x066D d) × (checks / 4 % 2 ≡ parity 0x078E d) × (checks / 8 % 2 ≡ parity 0x07F0 d)
  unfolding encoded with_four
  digits =
      let a = parity-lt 0x055B d in
      let b = parity-lt 0x066D d in
      let c = parity-lt 0x078E d in
      let e = parity-lt 0x07F0 d in
      (omega arith, omega arith, omega arith, omega arith)

  -- the parity of a codeword is the sum of those of its check bits and its data, modulo 2
  adds : (m : ℕ) → parity m (encoded d) ≡ (parity m (checks * 2048) + parity m d) % 2
  adds m =
      ap (parity m) (sym (xor_shifted checks 11 d h ∙ (let e = data-of-encoded d h in let q : checks * 2048 + d ≡ encoded d = omega arith in q)))
      ∙ parity-xor m (checks * 2048) d

  zero-at : (m k : ℕ) → T (every (own-right m k) 5 0) → checks / k % 2 ≡ parity (m % 2048) d → parity m (encoded d) ≡ 0
  unfolding own-right
  zero-at m k t e =
      even (parity (m % 2048) d) _ _ _ (parity-lt (m % 2048) d) (adds m)
      (eqb→eq _ (checks / k % 2) (at (own-right m k) 5 t checks few) ∙ e) (masked 11 m d h)

  last : parity 0xFFFF (encoded d) ≡ 0
  unfolding encoded
  last =
      let w = with_four d in
      let p = parity 0x7FFF w in
      even p _ _ _ (parity-lt 0x7FFF w)
      (ap (parity 0xFFFF) (sym (xor_shifted p 15 w (with-four-lt d h) ∙ add_comm (p * 2 ^ 15) w)) ∙ parity-xor 0xFFFF (p * 2 ^ 15) w)
      (top p (parity-lt 0x7FFF w)) (masked 15 0xFFFF w (with-four-lt d h))

  pub syn-encoded : syndrome_of (encoded d) ≡ 0
  unfolding syndrome_of
  syn-encoded =
      omega (
        arith,
        last,
        zero-at 0x0D5B 1 own-tests.0 digits.0,
        zero-at 0x166D 2 own-tests.1 digits.1,
        zero-at 0x278E 4 own-tests.2 digits.2,
        zero-at 0x47F0 8 own-tests.3 digits.3,
      )

abbrev imp : Bool → Bool → Bool
imp true b = b
imp false b = true

imp_use : (a b : Bool) → T (imp a b) → a ≡ true → T b
imp_use true b t e = t
imp_use false b t e = absurd (subst T (sym e) tt)

-- check bits without data have syndrome 0 only if they are all 0
tops-right : ℕ → Bool
tops-right c = imp (eqb (syndrome_of (c * 2048)) 0) (eqb c 0)

tops : (c : ℕ) → c < 32 → syndrome_of (c * 2048) ≡ 0 → c ≡ 0
unfolding tops-right syndrome_of parity ones_in
tops c h e = eqb→eq c 0 (imp_use (eqb (syndrome_of (c * 2048)) 0) (eqb c 0) (at tops-right 5 tt c h) (eq-eqb (syndrome_of (c * 2048)) 0 e))

pub codeword-of-syn : (w : ℕ) → w < 65536 → syndrome_of w ≡ 0 → w ≡ encoded (w % 2048)
codeword-of-syn w h z =
    let hd : w % 2048 < 2048 = mod-lt w (lit< tt) in
    let e = encoded (w % 2048) in
    let x = bit_xor w e in
    let xm : x % 2048 ≡ 0 = xor_mod w e 11 ∙ ap (λ (n : ℕ). bit_xor (w % 2048) n) (data-of-encoded (w % 2048) hd) ∙ xor_self (w % 2048) in
    let xl : x < 65536 = xor_lt 16 w e h (encoded-lt (w % 2048) hd) in
    let xe : x / 2048 * 2048 ≡ x = omega arith in
    let xs : syndrome_of x ≡ 0 = syn-xor w e ∙ ap₂ bit_xor z (syn-encoded (w % 2048) hd) in
    let c0 : x / 2048 ≡ 0 = tops (x / 2048) (omega arith) (ap syndrome_of xe ∙ xs) in
    xor_same w e (omega arith)

pub codeword-syn : (w : ℕ) → w < 65536 → codeword w ≡ eqb (syndrome_of w) 0
unfolding codeword
codeword-syn w h = same w (encoded (w % 2048)) (syndrome_of w) 0 (λ e. ap syndrome_of e ∙ syn-encoded (w % 2048) (mod-lt w (lit< tt))) (codeword-of-syn w h)
  where
    same : (a b c d : ℕ) → (a ≡ b → c ≡ d) → (c ≡ d → a ≡ b) → eqb a b ≡ eqb c d
    same a b c d f g = go (eqb c d) refl
      where
        go : (t : Bool) → eqb c d ≡ t → eqb a b ≡ t
        go true e = eq-eqb a b (g (eqb-true c d e))
        go false e = ne_eqb a b (λ q. eqb-false c d e (f q))

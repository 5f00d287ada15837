-- Codewords, decided from their two bytes. The XOR of both bytes under their masks has the parity of the word under the mask; a word is not a codeword
-- if one of its five parities is odd. Assumes nothing.
use mathlib.Core.Path.{◌≡◌, refl, sym, ap, ap₂, ◌∙◌}
use mathlib.Core.Bool.{Bool, true, false}
use Prim.Native.Nat.{ℕ, ◌+◌, ◌*◌, ◌%◌, ◌<◌}
use native.Mathlib.Nat.{add_comm, add-mod, mod-eq_of_lt}
use native.Mathlib.Omega.{arith}
use lib.Bits.{bit_and, bit_or, bit_xor, and_block, and_lt, and_mask, or_zero_r, xor_lt}
use lib.Count.{ones, ones_in, ones_cat}
use lib.Dec.{eqb}
use borrow.Author.Tests.{ne_eqb, eqb-true, eqb-false}
use Rattle.lists.specs.Pick.{pick}
use Rattle.hamming.specs.Word.{parity, not_codeword}
use Rattle.hamming.specs.Inner.{syndrome_of, odd_byte}
use Rattle.hamming.proofs.Xor.{bit}
use Rattle.hamming.proofs.Linear.{in-xor, ones-in, parity-lt}
use Rattle.hamming.proofs.Codes.{codeword-syn}

-- all ones of a byte are among its low eight bits
whole : (x : ℕ) → x < 256 → ones x ≡ ones_in 8 (bit_and x 255)
whole x h = ones-in 8 x h ∙ ap (ones_in 8) (sym (and_mask x 8 ∙ mod-eq_of_lt h))

odd-xor : (x y : ℕ) → x < 256 → y < 256 → odd_byte (bit_xor x y) ≡ (ones x + ones y) % 2
odd-xor x y hx hy =
    ap (λ (n : ℕ). n % 2) (whole (bit_xor x y) (xor_lt 8 x y hx hy)) ∙ in-xor 8 255 x y
    ∙ sym (ap₂ (λ (m n : ℕ). (m % 2 + n % 2) % 2) (whole x hx) (whole y hy)) ∙ sym (add-mod (ones x) (ones y) 2)

module _ (high low : ℕ) (hh : high < 256) (hl : low < 256) where
  pub parity-bytes : (mh ml : ℕ) → mh < 256 → ml < 256 → odd_byte (bit_xor (bit_and low ml) (bit_and high mh)) ≡ parity (mh * 256 + ml) (high * 256 + low)
  unfolding parity
  parity-bytes mh ml gh gl =
      let x = bit_and high mh in
      let y = bit_and low ml in
      let hx : x < 256 = and_lt 8 high mh hh gh in
      let hy : y < 256 = and_lt 8 low ml hl gl in
      odd-xor y x hy hx ∙ ap (λ (n : ℕ). n % 2) (add_comm (ones y) (ones x) ∙ sym (ones_cat 8 x y hy) ∙ ones-in 16 (x * 256 + y) (omega arith)
      ∙ ap (ones_in 16) (sym (and_block 8 high mh low ml hl gl)))

  pub parity-whole : odd_byte (bit_xor low high) ≡ parity 0xFFFF (high * 256 + low)
  parity-whole =
      sym (ap₂ (λ (x y : ℕ). odd_byte (bit_xor x y)) (and_mask low 8 ∙ mod-eq_of_lt hl) (and_mask high 8 ∙ mod-eq_of_lt hh))
      ∙ parity-bytes 255 255 (omega arith) (omega arith)

-- 0 if s is 0, else 1
abbrev some : ℕ → ℕ
some s = pick (eqb s 0) 0 1

one_bit : (p : ℕ) → p < 2 → p ≡ some p
one_bit p h = bit (λ (p : ℕ). p ≡ some p) refl refl p h

or-one : (b : Bool) → bit_or (pick b 0 1) 1 ≡ 1
or-one true = refl
or-one false = refl

twice : (s : ℕ) (b : Bool) → eqb s 0 ≡ b → b ≡ eqb (s * 2 + 0) 0
twice s true e = sym (ap (λ (n : ℕ). eqb (n * 2 + 0) 0) (eqb-true s 0 e))
twice s false e = sym (ne_eqb (s * 2 + 0) 0 (λ z. omega (arith, eqb-false s 0 e)))

-- the step for one more binary digit
more : (s p : ℕ) → p < 2 → bit_or (some s) p ≡ some (s * 2 + p)
more s p h =
    bit (λ (p : ℕ). bit_or (some s) p ≡ some (s * 2 + p))
    (or_zero_r (some s) ∙ ap (λ (b : Bool). pick b 0 1) (twice s (eqb s 0) refl))
    (or-one (eqb s 0) ∙ sym (ap (λ (b : Bool). pick b 0 1) (ne_eqb (s * 2 + 1) 0 (λ z. omega arith)))) p h

pub any-odd : (w : ℕ) → w < 65536
    → bit_or (bit_or (bit_or (bit_or (parity 0xFFFF w) (parity 0x47F0 w)) (parity 0x278E w)) (parity 0x166D w)) (parity 0x0D5B w) ≡ not_codeword w
unfolding syndrome_of
any-odd w h =
    let a = parity 0xFFFF w in let b = parity 0x47F0 w in let c = parity 0x278E w in let d = parity 0x166D w in let e = parity 0x0D5B w in
    ap (λ (x : ℕ). bit_or (bit_or (bit_or (bit_or x b) c) d) e) (one_bit a (parity-lt 0xFFFF w))
    ∙ ap (λ (x : ℕ). bit_or (bit_or (bit_or x c) d) e) (more a b (parity-lt 0x47F0 w))
    ∙ ap (λ (x : ℕ). bit_or (bit_or x d) e) (more (a * 2 + b) c (parity-lt 0x278E w))
    ∙ ap (λ (x : ℕ). bit_or x e) (more ((a * 2 + b) * 2 + c) d (parity-lt 0x166D w))
    ∙ more (((a * 2 + b) * 2 + c) * 2 + d) e (parity-lt 0x0D5B w)
    ∙ ap (λ (x : Bool). pick x 0 1) (sym (codeword-syn w h))

-- A codeword with none, one, two or three of its bits flipped. Flips add up in the syndrome, so each claim is a test over bit numbers alone.
-- Assumes nothing.
use mathlib.Core.Path.{◌≡◌, refl, sym, ap, ◌∙◌}
use mathlib.Core.Bool.{Bool, true, false, not, ◌||◌, or-true, true≢false}
use mathlib.Core.Logic.{inl, inr}
use Prim.Native.Nat.{ℕ, ◌+◌, ◌/◌, ◌%◌, ◌^◌, ◌<◌}
use native.Mathlib.Nat.{mod-lt, zero-lt-suc}
use native.Mathlib.Omega.{arith}
use lib.Bits.{bit_xor, xor_mod, xor_shr, xor_zero_r}
use lib.Count.{ones_in}
use lib.Dec.{T, eqb, leb, eqb→eq}
use borrow.Author.Tests.{eq-eqb, ne_eqb, eqb-true, eqb-false}
use Rattle.lists.specs.Pick.{pick}
use Rattle.lists.specs.First.{first_from}
use Rattle.lists.proofs.Every.{both, both_left, both_right, at, at2}
use Rattle.hamming.specs.Word.{parity, encoded, codeword, data_of, flip, place, Said, says, damaged, mended, decoded, is_said, accepted, odd_ones}
use Rattle.hamming.specs.Inner.{syndrome_of}
use Rattle.hamming.proofs.Xor.{bit, xor-twice}
use Rattle.hamming.proofs.Linear.{parity-xor, parity-lt}
use Rattle.hamming.proofs.Codes.{syn-encoded, data-of-encoded, encoded-lt, codeword-syn}
use Rattle.hamming.proofs.Laws.{col, syn-flip, flip-lt, place_by, place-by, decoded_by, decoded-by, not_t, or-use, away, mended-at, AtMostOne, says_is, odd-by, accepted-is}

-- ---- none

-- encoding and then decoding returns the data
pub clean : (d : ℕ) → d < 2048 → decoded (encoded d) ≡ says d
clean d h =
    decoded-by (encoded d) (encoded-lt d h) ∙ ap (λ (s : ℕ). decoded_by s (encoded d)) (syn-encoded d h) ∙ ap says (data-of-encoded d h)

-- ---- one

one_right : ℕ → Bool
one_right k = both (not (eqb (col k) 0)) (eqb (place_by (col k)) k)

one-test : (k : ℕ) → k < 16 → T (one_right k)
unfolding one_right place_by first_from
one-test k h = at one_right 4 tt k h

module _ (d k : ℕ) (h : d < 2048) (hk : k < 16) where
  one-syn : syndrome_of (flip k (encoded d)) ≡ col k
  one-syn = syn-flip k (encoded d) hk ∙ ap (λ (n : ℕ). bit_xor n (col k)) (syn-encoded d h)

  one-lt : flip k (encoded d) < 65536
  one-lt = flip-lt k (encoded d) hk (encoded-lt d h)

  one_place : place_by (col k) ≡ k
  unfolding one_right
  one_place = eqb→eq (place_by (col k)) k (both_right (not (eqb (col k) 0)) (eqb (place_by (col k)) k) (one-test k hk))

  -- any one of the sixteen flips decodes to the data
  pub one-flip : decoded (flip k (encoded d)) ≡ says d
  unfolding one_right
  one-flip =
      away (flip k (encoded d)) (col k) one-lt one-syn (both_left (not (eqb (col k) 0)) (eqb (place_by (col k)) k) (one-test k hk))
      ∙ ap (mended (flip k (encoded d))) one_place ∙ mended-at (flip k (encoded d)) k hk
      ∙ ap (λ (n : ℕ). says (data_of n)) (xor-twice (encoded d) (2 ^ k)) ∙ ap says (data-of-encoded d h)

  -- decoding finds the bit that was flipped
  pub place-flip : place (flip k (encoded d)) ≡ k
  place-flip = place-by (flip k (encoded d)) one-lt ∙ ap place_by one-syn ∙ one_place

  -- a codeword with one flipped bit is not a codeword
  pub stray-flip : codeword (flip k (encoded d)) ≡ false
  unfolding one_right
  stray-flip =
      codeword-syn (flip k (encoded d)) one-lt ∙ ap (λ (s : ℕ). eqb s 0) one-syn
      ∙ not_t (eqb (col k) 0) (both_left (not (eqb (col k) 0)) (eqb (place_by (col k)) k) (one-test k hk))

-- ---- two

abbrev two_bits : ℕ → ℕ → ℕ
two_bits j k = bit_xor (col j) (col k)

two-right : ℕ → ℕ → Bool
two-right j k = eqb j k || both (not (eqb (two_bits j k) 0)) (eqb (place_by (two_bits j k)) 16)

two-test : (j k : ℕ) → j < 16 → k < 16 → (j ≡ k → ⊥) → T (both (not (eqb (two_bits j k) 0)) (eqb (place_by (two_bits j k)) 16))
unfolding two-right place_by first_from
two-test j k hj hk ne =
    or-use (eqb j k) (both (not (eqb (two_bits j k) 0)) (eqb (place_by (two_bits j k)) 16)) (at2 two-right 4 4 tt j k hj hk) (λ t. ne (eqb→eq j k t))

two-syn : (d j k : ℕ) → d < 2048 → j < 16 → k < 16 → syndrome_of (flip k (flip j (encoded d))) ≡ two_bits j k
two-syn d j k h hj hk = syn-flip k (flip j (encoded d)) hk ∙ ap (λ (n : ℕ). bit_xor n (col k)) (one-syn d j h hj)

-- a codeword with two flipped bits is damaged
pub two-flips : (d j k : ℕ) → d < 2048 → j < 16 → k < 16 → (j ≡ k → ⊥) → decoded (flip k (flip j (encoded d))) ≡ damaged
two-flips d j k h hj hk ne =
    let s = two_bits j k in
    let w = flip k (flip j (encoded d)) in
    away w s (flip-lt k (flip j (encoded d)) hk (one-lt d j h hj)) (two-syn d j k h hj hk) (both_left (not (eqb s 0)) (eqb (place_by s) 16) (two-test j k hj hk ne))
    ∙ ap (mended w) (eqb→eq (place_by s) 16 (both_right (not (eqb s 0)) (eqb (place_by s) 16) (two-test j k hj hk ne)))

-- ---- three: an odd number of ones, so the word is accepted; and two of its bits differ from the codeword's, so it is not one flip from it

abbrev digit : ℕ → ℕ → ℕ
digit n w = w / 2 ^ n % 2

digit-right : ℕ → ℕ → Bool
digit-right n k = eqb (digit n (2 ^ k)) (pick (eqb n k) 1 0)

digit-test : (n k : ℕ) → n < 16 → k < 16 → digit n (2 ^ k) ≡ pick (eqb n k) 1 0
unfolding digit-right
digit-test n k hn hk = eqb→eq (digit n (2 ^ k)) (pick (eqb n k) 1 0) (at2 digit-right 4 4 tt n k hn hk)

digit-flip : (n k w : ℕ) → n < 16 → k < 16 → digit n (flip k w) ≡ bit_xor (digit n w) (pick (eqb n k) 1 0)
digit-flip n k w hn hk =
    ap (λ (x : ℕ). x % 2) (xor_shr w (2 ^ k) n) ∙ xor_mod (w / 2 ^ n) (2 ^ k / 2 ^ n) 1 ∙ ap (bit_xor (digit n w)) (digit-test n k hn hk)

-- a flip keeps every other bit
keeps : (n k w : ℕ) → n < 16 → k < 16 → (n ≡ k → ⊥) → digit n (flip k w) ≡ digit n w
keeps n k w hn hk ne =
    digit-flip n k w hn hk ∙ ap (λ (b : Bool). bit_xor (digit n w) (pick b 1 0)) (ne_eqb n k ne) ∙ xor_zero_r (digit n w)

-- a flip changes its own bit
turns : (n w : ℕ) → n < 16 → digit n (flip n w) ≡ digit n w → ⊥
turns n w hn e =
    bit (λ (x : ℕ). bit_xor x 1 ≡ x → ⊥) (λ q. let z : ◌≡◌ {A = ℕ} 1 0 = q in omega arith) (λ q. let z : ◌≡◌ {A = ℕ} 0 1 = q in omega arith)
    (digit n w) (mod-lt (w / 2 ^ n) (zero-lt-suc 1))
    (ap (λ (b : Bool). bit_xor (digit n w) (pick b 1 0)) (sym (eq-eqb n n refl)) ∙ sym (digit-flip n n w hn hn) ∙ e)

-- if w and e differ at bit n and one flip turns e into w, that flip is of bit n
must-be : (n p w e : ℕ) → n < 16 → p < 16 → (digit n w ≡ digit n e → ⊥) → w ≡ flip p e → p ≡ n
must-be n p w e hn hp d q = go (eqb n p) refl
  where
    go : (b : Bool) → eqb n p ≡ b → p ≡ n
    go true t = sym (eqb-true n p t)
    go false t = absurd (d (ap (digit n) q ∙ keeps n p e hn hp (eqb-false n p t)))

odd-right : ℕ → Bool
odd-right k = eqb (odd_ones (2 ^ k)) 1

odd-flip : (k w : ℕ) → k < 16 → odd_ones (flip k w) ≡ (odd_ones w + 1) % 2
unfolding odd-right parity ones_in
odd-flip k w h = parity-xor 0xFFFF w (2 ^ k) ∙ ap (λ (x : ℕ). (odd_ones w + x) % 2) (eqb→eq (odd_ones (2 ^ k)) 1 (at odd-right 4 tt k h))

even-code : (d : ℕ) → d < 2048 → odd_ones (encoded d) ≡ 0
even-code d h =
    bit (λ (x : ℕ). eqb x 1 ≡ false → x ≡ 0) (λ e. refl) (λ e. absurd (true≢false e)) (odd_ones (encoded d)) (parity-lt 0xFFFF (encoded d))
    (sym (odd-by (encoded d)) ∙ ap (leb 16) (syn-encoded d h))

said_of : (s : Said) → is_said s ≡ true → (d : ℕ) × (s ≡ says d)
said_of (says d) e = (d, refl)
said_of damaged e = absurd (true≢false (sym e))

-- w decodes to data other than d
pub record Wrongly (w d : ℕ) : Type 0 where
  pub other : ℕ
  pub decodes : decoded w ≡ says other
  pub differs : other ≡ d → ⊥

module _ (d i j k : ℕ) (h : d < 2048) (hi : i < 16) (hj : j < 16) (hk : k < 16) (ij : i ≡ j → ⊥) (ik : i ≡ k → ⊥) (jk : j ≡ k → ⊥) where
  abbrev thrice : ℕ
  thrice = flip k (flip j (flip i (encoded d)))

  thrice-lt : thrice < 65536
  thrice-lt = flip-lt k (flip j (flip i (encoded d))) hk (flip-lt j (flip i (encoded d)) hj (one-lt d i h hi))

  thrice-odd : odd_ones thrice ≡ 1
  thrice-odd =
      odd-flip k (flip j (flip i (encoded d))) hk
      ∙ ap (λ (x : ℕ). (x + 1) % 2) (odd-flip j (flip i (encoded d)) hj ∙ ap (λ (x : ℕ). (x + 1) % 2) (odd-flip i (encoded d) hi ∙ ap (λ (x : ℕ). (x + 1) % 2) (even-code d h)))

  is-accepted : is_said (decoded thrice) ≡ true
  unfolding accepted
  is-accepted = accepted-is thrice thrice-lt ∙ ap (λ (x : ℕ). codeword thrice || eqb x 1) thrice-odd ∙ or-true (codeword thrice)

  at_i : digit i thrice ≡ digit i (encoded d) → ⊥
  at_i e = turns i (encoded d) hi (sym (keeps i k (flip j (flip i (encoded d))) hi hk ik ∙ keeps i j (flip i (encoded d)) hi hj ij) ∙ e)

  at_j : digit j thrice ≡ digit j (encoded d) → ⊥
  at_j e =
      turns j (flip i (encoded d)) hj
      (sym (keeps j k (flip j (flip i (encoded d))) hj hk jk) ∙ e ∙ sym (keeps j i (encoded d) hj hi (λ q. ij (sym q))))

  not-one : AtMostOne thrice d → ⊥
  not-one (inl e) = at_i (ap (digit i) e)
  not-one (inr z) =
      ij (sym (must-be i z.0 thrice (encoded d) hi z.1 at_i z.2) ∙ must-be j z.0 thrice (encoded d) hj z.1 at_j z.2)

  -- a codeword with three flipped bits is accepted, and never decodes to its data
  pub three-flips : Wrongly thrice d
  three-flips =
      let s = said_of (decoded thrice) is-accepted in
      record { other = s.0; decodes = s.1; differs = λ e. not-one (says_is thrice d (s.1 ∙ ap says e)) }

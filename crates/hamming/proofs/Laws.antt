-- What the syndrome of a word determines, what an accepted word decodes to, and which words are accepted. Assumes nothing.
use mathlib.Core.Path.{◌≡◌, refl, sym, ap, ap₂, ◌∙◌}
use mathlib.Core.Bool.{Bool, true, false, not, ◌||◌}
use mathlib.Core.Logic.{◌⊎◌, inl, inr}
use mathlib.Core.List.{List, [], ◌∷◌}
use Prim.Native.Nat.{ℕ, ◌+◌, ◌*◌, ◌^◌, ◌<◌}
use native.Mathlib.Omega.{arith}
use lib.Bits.{bit_xor, xor_lt}
use lib.Count.{ones_in}
use lib.Dec.{T, eqb, leb, ltb, eqb→eq}
use lib.ListN.{get_or}
use lib.Pow.{pow-lt}
use borrow.Author.Tests.{eqb-true, lt-leb, le-leb, ltb-true, lt-ltb}
use Rattle.lists.specs.Pick.{pick}
use Rattle.lists.specs.First.{first_from}
use Rattle.lists.proofs.First.{is-first, first-same}
use Rattle.lists.proofs.Every.{at}
use Rattle.hamming.specs.Word.{parity, encoded, codeword, data_of, flip, place, Said, says, damaged, mended, decoded, is_said, accepted, odd_ones}
use Rattle.hamming.specs.Inner.{syndrome_of}
use Rattle.hamming.proofs.Xor.{bit, xor-twice}
use Rattle.hamming.proofs.Linear.{parity-lt}
use Rattle.hamming.proofs.Codes.{syn-lt, syn-xor, codeword-syn}

-- ---- the syndrome of one bit, and of a flip

-- the syndromes of the sixteen single bits, bit 0 first
abbrev pub columns : List ℕ
columns = 19 ∷ 21 ∷ 22 ∷ 23 ∷ 25 ∷ 26 ∷ 27 ∷ 28 ∷ 29 ∷ 30 ∷ 31 ∷ 17 ∷ 18 ∷ 20 ∷ 24 ∷ 16 ∷ []

abbrev pub col : ℕ → ℕ
col k = get_or columns k 0

col-right : ℕ → Bool
col-right k = eqb (syndrome_of (2 ^ k)) (col k)

pub syn-bit : (k : ℕ) → k < 16 → syndrome_of (2 ^ k) ≡ col k
unfolding col-right syndrome_of parity ones_in
syn-bit k h = eqb→eq (syndrome_of (2 ^ k)) (col k) (at col-right 4 tt k h)

pub syn-flip : (k w : ℕ) → k < 16 → syndrome_of (flip k w) ≡ bit_xor (syndrome_of w) (col k)
syn-flip k w h = syn-xor w (2 ^ k) ∙ ap (bit_xor (syndrome_of w)) (syn-bit k h)

pub flip-lt : (k w : ℕ) → k < 16 → w < 65536 → flip k w < 65536
flip-lt k w hk h = xor_lt 16 w (2 ^ k) h (pow-lt hk)

-- ---- decoding by the syndrome

-- the number of the flipped bit by the syndrome; 16 if there is none
unfoldable pub place_by : ℕ → ℕ
place_by s = first_from (λ (k : ℕ). eqb (bit_xor s (col k)) 0) 0 16

abbrev pub decoded_by : ℕ → ℕ → Said
decoded_by s w = pick (eqb s 0) (says (data_of w)) (mended w (place_by s))

pub place-by : (w : ℕ) → w < 65536 → place w ≡ place_by (syndrome_of w)
unfolding place place_by
place-by w h =
    first-same (λ (k : ℕ). codeword (flip k w)) (λ (k : ℕ). eqb (bit_xor (syndrome_of w) (col k)) 0) 0 16
    (λ k hk. codeword-syn (flip k w) (flip-lt k w hk h) ∙ ap (λ (n : ℕ). eqb n 0) (syn-flip k w hk))

pub decoded-by : (w : ℕ) → w < 65536 → decoded w ≡ decoded_by (syndrome_of w) w
unfolding decoded
decoded-by w h =
    ap₂ (λ (b : Bool) (k : ℕ). pick b (says (data_of w)) (mended w k)) (codeword-syn w h) (place-by w h)

pub not_t : (b : Bool) → T (not b) → b ≡ false
not_t true t = absurd t
not_t false t = refl

pub or-use : (a b : Bool) → T (a || b) → (T a → ⊥) → T b
or-use true b t n = absurd (n tt)
or-use false b t n = t

-- a word whose syndrome is not 0 is mended at the bit given by the syndrome
pub away : (w s : ℕ) → w < 65536 → syndrome_of w ≡ s → T (not (eqb s 0)) → decoded w ≡ mended w (place_by s)
away w s h e n =
    decoded-by w h ∙ ap (λ (x : ℕ). decoded_by x w) e
    ∙ ap (λ (b : Bool). pick b (says (data_of w)) (mended w (place_by s))) (not_t (eqb s 0) n)

-- a mended word decodes to the data of the word with that bit flipped
pub mended-at : (w k : ℕ) → k < 16 → mended w k ≡ says (data_of (flip k w))
mended-at w k h = ap (λ (b : Bool). pick b (says (data_of (flip k w))) damaged) (lt-ltb k 16 h)

-- ---- an accepted word decodes to the data of a codeword at most one flip away

place-right : (w : ℕ) → place w < 16 → codeword (flip (place w) w) ≡ true
unfolding place
place-right w h = (is-first (λ (k : ℕ). codeword (flip k w)) 0 16).at h

pub code_of : (w : ℕ) → codeword w ≡ true → w ≡ encoded (data_of w)
unfolding codeword
code_of w e = eqb-true w (encoded (data_of w)) e

-- w is the codeword of d, or that codeword with one bit flipped
abbrev pub AtMostOne : ℕ → ℕ → Type 0
AtMostOne w d = (w ≡ encoded d) ⊎ ((k : ℕ) × (k < 16) × (w ≡ flip k (encoded d)))

says_same : (c d : ℕ) → says c ≡ says d → c ≡ d
says_same c d e = cc

damaged-says : (d : ℕ) → damaged ≡ says d → ⊥
damaged-says d e = let z : ◌≡◌ {A = ℕ} 0 1 = cc in omega arith

pub says_is : (w d : ℕ) → decoded w ≡ says d → AtMostOne w d
unfolding decoded
says_is w d e = go (codeword w) refl e
  where
    at_place : (b : Bool) → ltb (place w) 16 ≡ b → pick b (says (data_of (flip (place w) w))) damaged ≡ says d → AtMostOne w d
    at_place true l e =
        let h : place w < 16 = ltb-true (place w) 16 l in
        inr (place w, h, sym (xor-twice w (2 ^ place w)) ∙ ap (flip (place w)) (code_of (flip (place w) w) (place-right w h) ∙ ap encoded (says_same (data_of (flip (place w) w)) d e)))
    at_place false l e = absurd (damaged-says d e)

    go : (b : Bool) → codeword w ≡ b → pick b (says (data_of w)) (mended w (place w)) ≡ says d → AtMostOne w d
    go true c e = inl (code_of w c ∙ ap encoded (says_same (data_of w) d e))
    go false c e = at_place (ltb (place w) 16) refl e

-- ---- which words are accepted

same : Bool → Bool → Bool
same true b = b
same false b = not b

same-eq : (a b : Bool) → T (same a b) → a ≡ b
unfolding same
same-eq true true t = refl
same-eq true false t = absurd t
same-eq false true t = absurd t
same-eq false false t = refl

acc-right : ℕ → Bool
acc-right s = same (eqb s 0 || ltb (place_by s) 16) (eqb s 0 || leb 16 s)

acc-test : (s : ℕ) → s < 32 → (eqb s 0 || ltb (place_by s) 16) ≡ (eqb s 0 || leb 16 s)
unfolding acc-right same place_by first_from
acc-test s h = same-eq (eqb s 0 || ltb (place_by s) 16) (eqb s 0 || leb 16 s) (at acc-right 5 tt s h)

said : (b : Bool) (k w d : ℕ) → is_said (pick b (says d) (mended w k)) ≡ (b || ltb k 16)
said true k w d = refl
said false k w d = placed (ltb k 16)
  where
    placed : (c : Bool) → is_said (pick c (says (data_of (flip k w))) damaged) ≡ c
    placed true = refl
    placed false = refl

pub accepted-by : (w : ℕ) → w < 65536 → accepted w ≡ (eqb (syndrome_of w) 0 || leb 16 (syndrome_of w))
unfolding accepted
accepted-by w h =
    ap is_said (decoded-by w h) ∙ said (eqb (syndrome_of w) 0) (place_by (syndrome_of w)) w (data_of w) ∙ acc-test (syndrome_of w) (syn-lt w)

pub odd-by : (w : ℕ) → leb 16 (syndrome_of w) ≡ eqb (odd_ones w) 1
unfolding syndrome_of
odd-by w =
    go (parity 0x47F0 w) (parity 0x278E w) (parity 0x166D w) (parity 0x0D5B w)
    (parity-lt 0x47F0 w) (parity-lt 0x278E w) (parity-lt 0x166D w) (parity-lt 0x0D5B w) (parity 0xFFFF w) (parity-lt 0xFFFF w)
  where
    go : (a b c d : ℕ) → a < 2 → b < 2 → c < 2 → d < 2 → (p : ℕ) → p < 2 → leb 16 ((((p * 2 + a) * 2 + b) * 2 + c) * 2 + d) ≡ eqb p 1
    go a b c d ha hb hc hd =
        bit (λ (p : ℕ). leb 16 ((((p * 2 + a) * 2 + b) * 2 + c) * 2 + d) ≡ eqb p 1)
        (lt-leb 16 ((((0 * 2 + a) * 2 + b) * 2 + c) * 2 + d) (omega arith)) (le-leb 16 ((((1 * 2 + a) * 2 + b) * 2 + c) * 2 + d) (omega arith))

-- a word is accepted exactly if it is a codeword or has an odd number of ones
pub accepted-is : (w : ℕ) → w < 65536 → accepted w ≡ (codeword w || eqb (odd_ones w) 1)
accepted-is w h = accepted-by w h ∙ ap₂ ◌||◌ (sym (codeword-syn w h)) (odd-by w)

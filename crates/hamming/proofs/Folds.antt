-- Five parities at once: each byte of a word is copied under the five masks, one byte for each, and each of these bytes is folded onto its lowest bit.
-- Folding is linear, so each of the word's two bytes is tested on its own. Assumes nothing.
use mathlib.Core.Path.{◌≡◌, sym, ap, ap₂, ◌∙◌}
use mathlib.Core.Bool.{Bool}
use Prim.Native.Nat.{ℕ, ◌*◌, ◌/◌, ◌%◌, ◌^◌, ◌<◌}
use native.Mathlib.Nat.{mod-lt, div-add-mod'}
use native.Mathlib.Omega.{arith}
use lib.Bits.{bit_and, bit_xor, xor_comm, xor_shr, xor_shifted}
use lib.Count.{ones_in}
use lib.Dec.{eqb, eqb→eq, lit<}
use Rattle.lists.proofs.Every.{at, at2}
use Rattle.hamming.specs.Word.{parity}
use Rattle.hamming.specs.Inner.{syndrome_of, spread}
use Rattle.hamming.proofs.Xor.{xor-swap, and_xor}
use Rattle.hamming.proofs.Codes.{syn-xor, syn-lt}

-- the constants of the code
abbrev each : ℕ
each = 0x0101010101

abbrev fold : ℕ → ℕ → ℕ
fold k x = bit_xor x (x / 2 ^ k)

abbrev pub folded : ℕ → ℕ
folded x = bit_and (fold 1 (fold 2 (fold 4 x))) each

abbrev pub low-laid : ℕ → ℕ
low-laid n = bit_and (n * each) 0xFFF08E6D5B

abbrev pub high-laid : ℕ → ℕ
high-laid n = bit_and (n * each) 0xFF4727160D

fold-xor : (k a b : ℕ) → fold k (bit_xor a b) ≡ bit_xor (fold k a) (fold k b)
fold-xor k a b = ap (bit_xor (bit_xor a b)) (xor_shr a b k) ∙ xor-swap a b (a / 2 ^ k) (b / 2 ^ k)

folded-xor : (a b : ℕ) → folded (bit_xor a b) ≡ bit_xor (folded a) (folded b)
folded-xor a b =
    ap (λ (x : ℕ). bit_and x each) (ap (λ (x : ℕ). fold 1 (fold 2 x)) (fold-xor 4 a b) ∙ ap (fold 1) (fold-xor 2 (fold 4 a) (fold 4 b)) ∙ fold-xor 1 (fold 2 (fold 4 a)) (fold 2 (fold 4 b)))
    ∙ and_xor each (fold 1 (fold 2 (fold 4 a))) (fold 1 (fold 2 (fold 4 b)))

low-right : ℕ → Bool
low-right n = eqb (folded (low-laid n)) (spread (syndrome_of n))

high-right : ℕ → Bool
high-right n = eqb (folded (high-laid n)) (spread (syndrome_of (n * 256)))

spread-right : ℕ → ℕ → Bool
spread-right a b = eqb (bit_xor (spread a) (spread b)) (spread (bit_xor a b))

by-low : (n : ℕ) → n < 256 → folded (low-laid n) ≡ spread (syndrome_of n)
unfolding low-right spread syndrome_of parity ones_in
by-low n h = eqb→eq (folded (low-laid n)) (spread (syndrome_of n)) (at low-right 8 tt n h)

by_high : (n : ℕ) → n < 256 → folded (high-laid n) ≡ spread (syndrome_of (n * 256))
unfolding high-right spread syndrome_of parity ones_in
by_high n h = eqb→eq (folded (high-laid n)) (spread (syndrome_of (n * 256))) (at high-right 8 tt n h)

spread-xor : (a b : ℕ) → a < 32 → b < 32 → bit_xor (spread a) (spread b) ≡ spread (bit_xor a b)
unfolding spread-right spread
spread-xor a b ha hb = eqb→eq (bit_xor (spread a) (spread b)) (spread (bit_xor a b)) (at2 spread-right 5 5 tt a b ha hb)

pub folded-is : (w : ℕ) → w < 65536 → folded (bit_xor (low-laid (w % 256)) (high-laid (w / 256))) ≡ spread (syndrome_of w)
folded-is w h =
    let l = w % 256 in
    let u = w / 256 in
    let hl : l < 256 = mod-lt w (lit< tt) in
    folded-xor (low-laid l) (high-laid u)
    ∙ ap₂ bit_xor (by-low l hl) (by_high u (omega arith))
    ∙ spread-xor (syndrome_of l) (syndrome_of (u * 256)) (syn-lt l) (syn-lt (u * 256))
    ∙ ap spread (sym (syn-xor l (u * 256)) ∙ ap syndrome_of (xor_comm l (u * 256) ∙ xor_shifted u 8 l hl ∙ div-add-mod' w 256))

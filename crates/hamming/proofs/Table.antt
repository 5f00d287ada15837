-- The meaning of a syndrome: 0 is a codeword, 1 to 15 is damaged (no flip makes a codeword), 16 to 31 determines the flipped bit. Assumes nothing.
use mathlib.Core.Path.{◌≡◌, sym, ap, ◌∙◌, subst⁻¹}
use mathlib.Core.Bool.{Bool, true, false, ◌||◌}
use Prim.Native.Nat.{ℕ, ◌*◌, ◌/◌, ◌%◌, ◌^◌, ◌<◌, ◌≤◌}
use native.Mathlib.Nat.{not-le_of_lt, mod-lt}
use native.Mathlib.Omega.{arith}
use lib.Dec.{T, eqb, ltb, eqb→eq, ltb→lt, lit<}
use borrow.Author.Tests.{ne_eqb}
use Rattle.lists.specs.First.{first_from}
use Rattle.lists.proofs.Every.{at}
use Rattle.hamming.specs.Word.{codeword, place}
use Rattle.hamming.specs.Inner.{syndrome_of, spread}
use Rattle.hamming.proofs.Codes.{syn-lt, codeword-syn}
use Rattle.hamming.proofs.Laws.{place_by, place-by, or-use}

-- the flipped bit for the syndrome 16 + n: hexadecimal digit n of the code's constant
abbrev pub pointed : ℕ → ℕ
pointed n = 0xA987654E321D0CBF / 2 ^ (n * 4) % 16

pub pointed-lt : (n : ℕ) → pointed n < 16
pointed-lt n = mod-lt (0xA987654E321D0CBF / 2 ^ (n * 4)) (lit< tt)

low-right : ℕ → Bool
low-right s = eqb s 0 || eqb (place_by s) 16

high-right : ℕ → Bool
high-right s = ltb s 16 || eqb (place_by s) (pointed (s % 16))

low-test : (s : ℕ) → s < 16 → T (low-right s)
unfolding low-right place_by first_from
low-test s h = at low-right 4 tt s h

high-test : (s : ℕ) → s < 32 → T (high-right s)
unfolding high-right place_by first_from
high-test s h = at high-right 5 tt s h

pub at_zero : (w : ℕ) → w < 65536 → syndrome_of w ≡ 0 → codeword w ≡ true
at_zero w h e = codeword-syn w h ∙ ap (λ (s : ℕ). eqb s 0) e

pub not-zero : (w : ℕ) → w < 65536 → (syndrome_of w ≡ 0 → ⊥) → codeword w ≡ false
not-zero w h n = codeword-syn w h ∙ ne_eqb (syndrome_of w) 0 n

pub at_low : (w : ℕ) → w < 65536 → (syndrome_of w ≡ 0 → ⊥) → syndrome_of w < 16 → place w ≡ 16
unfolding low-right
at_low w h n l =
    let s = syndrome_of w in
    place-by w h ∙ eqb→eq (place_by s) 16 (or-use (eqb s 0) (eqb (place_by s) 16) (low-test s l) (λ t. n (eqb→eq s 0 t)))

pub at_high : (w : ℕ) → w < 65536 → 16 ≤ syndrome_of w → place w ≡ pointed (syndrome_of w % 16)
unfolding high-right
at_high w h g =
    let s = syndrome_of w in
    place-by w h
    ∙ eqb→eq (place_by s) (pointed (s % 16)) (or-use (ltb s 16) (eqb (place_by s) (pointed (s % 16))) (high-test s (syn-lt w)) (λ q. not-le_of_lt (ltb→lt s 16 q) g))

-- ---- the same for a syndrome with each digit in a byte of its own

pub spread-lt : (s : ℕ) → s < 32 → spread s < 2 ^ 33
unfolding spread
spread-lt s h = omega arith

pub zero-spread : (s : ℕ) → s ≡ 0 → spread s ≡ 0
unfolding spread
zero-spread s e = ap spread e

pub spread-low : (s : ℕ) → s < 32 → spread s < 2 ^ 32 → s < 16
unfolding spread
spread-low s h l = omega arith

pub spread-high : (s : ℕ) → 2 ^ 32 ≤ spread s → 16 ≤ s
unfolding spread
spread-high s g = omega arith

gather-right : ℕ → Bool
gather-right s = eqb (spread s * 0x01020408 / 2 ^ 24 % 16) (s % 16)

-- the code's multiplication gathers the lower four digits again
pub gathered : (s : ℕ) → s < 32 → spread s * 0x01020408 / 2 ^ 24 % 16 ≡ s % 16
unfolding gather-right spread
gathered s h = eqb→eq (spread s * 0x01020408 / 2 ^ 24 % 16) (s % 16) (at gather-right 5 tt s h)

pub spread-zero : (s : ℕ) → s < 32 → spread s ≡ 0 → s ≡ 0
spread-zero s h e =
    let g : 0 ≡ s % 16 = ap (λ (x : ℕ). x * 0x01020408 / 2 ^ 24 % 16) (sym e) ∙ gathered s h in
    let l = spread-low s h (subst⁻¹ (λ (x : ℕ). x < 2 ^ 32) e (lit< tt)) in
    omega arith

-- `hamming::check` meets its contract: the syndrome determines each of its results. Assumes nothing.
use borrow.Author.Rules.{rules}
use mathlib.Core.Path.{◌≡◌, refl, sym, ap, ap₂, ◌∙◌}
use mathlib.Core.Bool.{Bool, true, false}
use Prim.Native.Nat.{ℕ, ◌*◌, ◌/◌, ◌%◌, ◌^◌, ◌<◌, ◌≤◌}
use native.Mathlib.Omega.{arith}
use native.Mathlib.Nat.{one-mul}
use lib.Bits.{bit_xor}
use lib.Dec.{lit<}
use lib.Pow.{shl_exact}
use borrow.Author.Tests.{lt-ltb}
use Rattle.lists.specs.Pick.{pick}
use Rattle.refusal.specs.declared.Refusal.TheVariants.{DamagedWord}
use Rattle.hamming.specs.Word.{data_of, codeword, flip, place}
use Rattle.hamming.specs.Inner.{syndrome_of, spread}
use Rattle.hamming.specs.Answer.{mended_answer, check_answer}
use Rattle.std.specs.Prelude.{Ok, Err}
use Rattle.hamming.specs.declared.Checked.TheVariants.{Clean, Mended}
use Rattle.hamming.proofs.Codes.{syn-lt}
use Rattle.hamming.proofs.Table.{pointed, pointed-lt, at_zero, not-zero, at_low, at_high, spread-lt, spread-zero, zero-spread, spread-low, spread-high, gathered}
use Rattle.hamming.proofs.check.Goals as goal

-- the result, from whether the word is a codeword and from the bit whose flip makes it one
answers : (w k : ℕ) (b : Bool) → codeword w ≡ b → place w ≡ k → pick b (Ok (Clean (data_of w))) (mended_answer w k) ≡ check_answer w
unfolding check_answer
answers w k b e f = sym (ap₂ (λ (x : Bool) (n : ℕ). pick x (Ok (Clean (data_of w))) (mended_answer w n)) e f)

pub returns-then-odd-eq0 : goal.returns-then-odd-eq0
returns-then-odd-eq0 c =
    let w = c.args.word in
    let e = c.odd_bytes-odd.ensures in
    answers w (place w) true (at_zero w c.ranges.word.fits (spread-zero (syndrome_of w) (syn-lt w) (sym e ∙ c.if-odd-eq0.true))) refl

pub returns-then-odd-lt-P4 : goal.returns-then-odd-lt-P4
returns-then-odd-lt-P4 c =
    let w = c.args.word in
    let e = c.odd_bytes-odd.ensures in
    let h = c.ranges.word.fits in
    let l : spread (syndrome_of w) < 2 ^ 32 = omega arith in
    let n : (syndrome_of w ≡ 0 → ⊥) = λ z. c.if-odd-eq0.false (e ∙ zero-spread (syndrome_of w) z) in
    answers w 16 false (not-zero w h n) (at_low w h n (spread-low (syndrome_of w) (syn-lt w) l))

pub overflow_mul-value : goal.overflow_mul-value
overflow_mul-value c =
    let w = c.args.word in
    let e = c.odd_bytes-odd.ensures in
    let l = spread-lt (syndrome_of w) (syn-lt w) in
    search rules

at-bit : (w k : ℕ) → k < 16 → mended_answer w k ≡ Ok (Mended (data_of (flip k w)) k)
at-bit w k h = ap (λ (b : Bool). pick b (Ok (Mended (data_of (flip k w)) k)) (Err (DamagedWord 0 w))) (lt-ltb k 16 h)

pub returns : goal.returns
returns c =
    let w = c.args.word in
    let e = c.odd_bytes-odd.ensures in
    let h = c.ranges.word.fits in
    let g : 2 ^ 32 ≤ spread (syndrome_of w) = omega arith in
    let n : (syndrome_of w ≡ 0 → ⊥) = λ z. c.if-odd-eq0.false (e ∙ zero-spread (syndrome_of w) z) in
    let q = ap (λ (x : ℕ). x * 0x01020408 / 2 ^ 24 % 16) e ∙ gathered (syndrome_of w) (syn-lt w) in
    let b = pointed (syndrome_of w % 16) in
    let l = pointed-lt (syndrome_of w % 16) in
    ap (λ (n : ℕ). Ok (Mended (bit_xor w (1 * 2 ^ pointed n % 65536) % 2048) (pointed n))) q
    ∙ ap (λ (m : ℕ). Ok (Mended (data_of (bit_xor w m)) b)) (shl_exact 1 b 16 (lit< tt) (omega arith) ∙ one-mul (2 ^ b))
    ∙ sym (at-bit w b l)
    ∙ answers w b false (not-zero w h n) (at_high w h (spread-high (syndrome_of w) g))

-- Placing a bit above the others by a shift and OR is an addition.
-- Assumes nothing.
use mathlib.Core.Path.{◌≡◌, ap, ◌∙◌}
use Prim.Native.Nat.{ℕ, ◌+◌, ◌*◌, ◌%◌, ◌^◌, ◌<◌, ◌≤◌}
use native.Mathlib.Nat.{add_comm}
use native.Mathlib.Omega.{arith}
use lib.Bits.{bit_or, or_shifted_r}
use lib.Pow.{shl_exact}
use lib.Dec.{lit≤}
use Rattle.hamming.specs.Word.{parity, with_four}
use Rattle.hamming.proofs.Linear.{parity-lt}

pub put : (k w p : ℕ) → 1 + k ≤ 16 → w < 2 ^ k → p < 2 → bit_or w (p * 2 ^ k % 65536) ≡ w + p * 2 ^ k
put k w p hk hw hp = ap (bit_or w) (shl_exact 1 k 16 hp hk) ∙ or_shifted_r p k w hw ∙ add_comm (p * 2 ^ k) w

-- the code's check bits P0 to P3 give `with_four`
pub four : (d : ℕ) → d < 2048
    → bit_or (bit_or (bit_or (bit_or d (parity 0x055B d * 2048 % 65536)) (parity 0x066D d * 4096 % 65536)) (parity 0x078E d * 8192 % 65536)) (parity 0x07F0 d * 16384 % 65536)
    ≡ with_four d
unfolding with_four
four d h =
    let h0 = parity-lt 0x055B d in let h1 = parity-lt 0x066D d in let h2 = parity-lt 0x078E d in
    ap (λ (x : ℕ). bit_or x (parity 0x07F0 d * 16384 % 65536))
    (ap (λ (x : ℕ). bit_or x (parity 0x078E d * 8192 % 65536))
    (ap (λ (x : ℕ). bit_or x (parity 0x066D d * 4096 % 65536)) (put 11 d (parity 0x055B d) (lit≤ tt) h h0)
    ∙ put 12 (d + parity 0x055B d * 2 ^ 11) (parity 0x066D d) (lit≤ tt) (omega arith) h1)
    ∙ put 13 (d + parity 0x055B d * 2 ^ 11 + parity 0x066D d * 2 ^ 12) (parity 0x078E d) (lit≤ tt) (omega arith) h2)
    ∙ put 14 (d + parity 0x055B d * 2 ^ 11 + parity 0x066D d * 2 ^ 12 + parity 0x078E d * 2 ^ 13) (parity 0x07F0 d) (lit≤ tt) (omega arith) (parity-lt 0x07F0 d)

pub with-four-lt : (d : ℕ) → d < 2048 → with_four d < 2 ^ 15
unfolding with_four
with-four-lt d h = omega (arith, parity-lt 0x055B d, parity-lt 0x066D d, parity-lt 0x078E d, parity-lt 0x07F0 d)

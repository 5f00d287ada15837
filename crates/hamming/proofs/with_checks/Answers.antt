-- `hamming::with_checks` meets its contract: each check bit is placed above the others, so OR is addition. Assumes nothing.
use mathlib.Core.Path.{◌≡◌, ap, ap₂, ◌∙◌}
use Prim.Native.Nat.{ℕ, ◌*◌, ◌%◌, ◌<◌}
use lib.Bits.{bit_or}
use lib.Dec.{lit≤}
use Rattle.hamming.specs.Word.{parity, with_four, encoded}
use Rattle.hamming.proofs.Linear.{parity-lt}
use Rattle.hamming.proofs.Put.{put, four, with-four-lt}
use Rattle.hamming.proofs.with_checks.Goals as goal

pub returns : goal.returns
unfolding encoded
returns c =
    let d = c.args.«data» in
    let h : d < 2048 = c.requires in
    let e : bit_or (bit_or (bit_or (bit_or d (c.odd-p0.result * 2048 % 65536)) (c.odd-p1.result * 4096 % 65536))
    (c.odd-p2.result * 8192 % 65536)) (c.odd-p3.result * 16384 % 65536) ≡ with_four d = simp (
      c.odd-p0.ensures,
      c.odd-p1.ensures,
      c.odd-p2.ensures,
      c.odd-p3.ensures,
    ) (four d h) in
    ap₂ (λ (w p : ℕ). bit_or w (p * 32768 % 65536)) e (c.odd-p4.ensures ∙ ap (parity 0x7FFF) e)
    ∙ put 15 (with_four d) (parity 0x7FFF (with_four d)) (lit≤ tt) (with-four-lt d h) (parity-lt 0x7FFF (with_four d))

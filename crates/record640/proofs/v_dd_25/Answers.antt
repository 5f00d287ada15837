-- `record640::v_dd_25` meets its contract: each step stays within i16. Assumes nothing.
use borrow.Author.Tests.{lt-ltb}
use mathlib.Core.Path.{◌≡◌, sym, ap, ◌∙◌}
use Prim.Native.Nat.{ℕ, zero, suc, ◌+◌, ◌-◌, ◌*◌, ◌%◌, ◌<◌}
use native.Mathlib.Nat.{mod-lt}
use native.Mathlib.Omega.{arith}
use lib.IntN.{ℤ, pos, negsuc, neg_ℤ, ◌-ℤ◌, ◌*ℤ◌}
use mir.Syntax.{w16}
use mir.Val.{to_z, of_z}
use mir.ValLaws.{to_z_pos}
use Rattle.util.proofs.Range.{back16}
use Rattle.record640.specs.Record.{v_dd25_of}
use Rattle.record640.proofs.v_dd_25.Goals as goal
use Rattle.record640.proofs.v_dd_25.Goals.{Start}

minus_is : (b : ℕ) → b < 256 → pos b -ℤ pos 256 ≡ negsuc (255 - b)
minus_is b h = rw (lt-ltb b 256 h) (ap negsuc (omega arith))

below : (m : ℕ) → 0 < m → neg_ℤ (pos m) ≡ negsuc (m - 1)
below zero h = absurd (let q : ⊥ = omega arith in q)
below (suc m) h = ap negsuc (omega arith)

times-is : (k : ℕ) → negsuc k *ℤ pos 32 ≡ negsuc (k * 32 + 31)
times-is k = below (suc k * 32) (omega arith) ∙ ap negsuc (omega arith)

less-is : (k : ℕ) → negsuc k -ℤ pos 8192 ≡ negsuc (k + 8192)
less-is k = ap negsuc (omega arith)

module _ (c : Start) where
  abbrev b : ℕ
  b = c.args.word % 256

  byte : b < 256
  byte = mod-lt c.args.word (omega arith)

  first : to_z w16 b -ℤ pos 256 ≡ negsuc (255 - b)
  first = ap (λ (z : ℤ). z -ℤ pos 256) (to_z_pos w16 b (let h = byte in omega arith)) ∙ minus_is b byte

  second : to_z w16 (of_z w16 (to_z w16 b -ℤ pos 256)) *ℤ pos 32 ≡ negsuc ((255 - b) * 32 + 31)
  second = ap (λ (z : ℤ). to_z w16 (of_z w16 z) *ℤ pos 32) first ∙ ap (λ (z : ℤ). z *ℤ pos 32) (back16 (negsuc (255 - b)) (omega arith)) ∙ times-is (255 - b)

  third : to_z w16 (of_z w16 (to_z w16 (of_z w16 (to_z w16 b -ℤ pos 256)) *ℤ pos 32)) -ℤ pos 8192 ≡ negsuc ((255 - b) * 32 + 31 + 8192)
  third = ap (λ (z : ℤ). to_z w16 (of_z w16 z) -ℤ pos 8192) second ∙ ap (λ (z : ℤ). z -ℤ pos 8192) (back16 (negsuc ((255 - b) * 32 + 31)) (omega arith)) ∙ less-is ((255 - b) * 32 + 31)

  meant : v_dd25_of c.args.word ≡ negsuc ((255 - b) * 32 + 31 + 8192)
  unfolding v_dd25_of
  meant = ap (λ (z : ℤ). z *ℤ pos 32 -ℤ pos 8192) (minus_is b byte) ∙ ap (λ (z : ℤ). z -ℤ pos 8192) (times-is (255 - b)) ∙ less-is ((255 - b) * 32 + 31)

pub returns : goal.returns
returns c = ap (λ (z : ℤ). to_z w16 (of_z w16 z)) (third c) ∙ back16 (negsuc ((255 - b c) * 32 + 31 + 8192)) (omega arith) ∙ sym (meant c)

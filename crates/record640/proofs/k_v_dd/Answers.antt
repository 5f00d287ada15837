-- `record640::k_v_dd` meets its contract: 32 times a signed number of 8 bits fits an i16. Assumes nothing.
use borrow.Author.Rules.{sfits_of}
use mathlib.Core.Path.{ap, ◌∙◌}
use Prim.Native.Nat.{ℕ, zero, suc, ◌*◌, ◌/◌, ◌<◌, ◌≤◌}
use native.Mathlib.Omega.{arith}
use lib.Dec.{lit≤}
use lib.IntN.{ℤ, pos, negsuc, neg_ℤ, ◌*ℤ◌}
use lib.Signed.{mag}
use mir.Syntax.{w16}
use mir.Val.{to_z, of_z}
use Rattle.util.specs.Fields.{signed}
use Rattle.util.proofs.Width.{stands, signed_back}
use Rattle.util.proofs.Range.{back16}
use Rattle.record640.specs.Record.{k_v_dd_of}
use Rattle.record640.proofs.k_v_dd.Goals as goal
use Rattle.record640.proofs.k_v_dd.Goals.{After-i16_from_bits}

minus : (r : ℕ) → mag (neg_ℤ (pos r)) ≤ r
minus zero = omega arith
minus (suc r) = omega arith

times_32 : (z : ℤ) → mag z < 128 → mag (z *ℤ pos 32) < 32768
times_32 (pos n) h = omega arith
times_32 (negsuc n) h = let l = minus (suc n * 32) in omega arith

abbrev byte : After-i16_from_bits → ℕ
byte c = c.args.word / 256

pub overflow_mul-result : goal.overflow_mul-result
overflow_mul-result c = rw ((ap (λ (z : ℤ). to_z w16 (of_z w16 z)) (c.i16_from_bits.ensures ∙ ap (signed 8) c.wide.ensures) ∙ signed_back 8 (byte c) (lit≤ tt) (lit≤ tt))) (sfits_of (times_32 (signed 8 (byte c)) (((stands 8 (lit≤ tt)).range (byte c)))))

pub returns : goal.returns
unfolding k_v_dd_of
returns c = rw ((ap (λ (z : ℤ). to_z w16 (of_z w16 z)) (c.i16_from_bits.ensures ∙ ap (signed 8) c.wide.ensures) ∙ signed_back 8 (byte c) (lit≤ tt) (lit≤ tt))) (back16 (signed 8 (byte c) *ℤ pos 32) (times_32 (signed 8 (byte c)) (((stands 8 (lit≤ tt)).range (byte c)))))

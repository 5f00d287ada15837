-- `record640::offset_cp` meets its contract: the sum of signed numbers of 10 and 6 bits fits an i16. Assumes nothing.
use borrow.Author.Rules.{sfits_of}
use mathlib.Core.Path.{◌≡◌, ap, ◌∙◌}
use Prim.Native.Nat.{ℕ, ◌/◌, ◌<◌}
use native.Mathlib.Omega.{arith}
use lib.Dec.{lit≤}
use lib.IntN.{ℤ, ◌+ℤ◌}
use lib.Signed.{mag}
use mir.Syntax.{w16}
use mir.Val.{to_z, of_z}
use Rattle.util.specs.Fields.{signed}
use Rattle.util.proofs.Width.{stands, signed_back}
use Rattle.util.proofs.Range.{back16, sum-mag}
use Rattle.record640.specs.Record.{offset_cps_of}
use Rattle.record640.proofs.offset_cp.Goals as goal

small : (n : ℕ) → mag (signed 10 n +ℤ signed 6 (n / 1024)) < 1000
small n =
    let l = sum-mag 511 31 543 (signed 10 n) (signed 6 (n / 1024)) (omega arith) (let h = (stands 10 (lit≤ tt)).range n in omega arith) (let h = (stands 6 (lit≤ tt)).range (n / 1024) in omega arith) in
    omega arith

pub overflow_add-result : goal.overflow_add-result
overflow_add-result c =
    let n = c.args.word in
    let first : to_z w16 (of_z w16 c.i16_from_bits-first.result) ≡ signed 10 n =
    ap (λ (z : ℤ). to_z w16 (of_z w16 z)) (c.i16_from_bits-first.ensures ∙ ap (signed 10) c.wide.ensures) ∙ signed_back 10 _ (lit≤ tt) (lit≤ tt) in
    let delta : to_z w16 (of_z w16 c.i16_from_bits.result) ≡ signed 6 (n / 1024) =
    ap (λ (z : ℤ). to_z w16 (of_z w16 z)) (c.i16_from_bits.ensures ∙ ap (signed 6) c.wide-2.ensures) ∙ signed_back 6 _ (lit≤ tt) (lit≤ tt) in
    rw (first, delta) (sfits_of (omega (arith, small n)))

pub returns : goal.returns
unfolding offset_cps_of
returns c =
    let n = c.args.word in
    let first : to_z w16 (of_z w16 c.i16_from_bits-first.result) ≡ signed 10 n =
    ap (λ (z : ℤ). to_z w16 (of_z w16 z)) (c.i16_from_bits-first.ensures ∙ ap (signed 10) c.wide.ensures) ∙ signed_back 10 _ (lit≤ tt) (lit≤ tt) in
    let delta : to_z w16 (of_z w16 c.i16_from_bits.result) ≡ signed 6 (n / 1024) =
    ap (λ (z : ℤ). to_z w16 (of_z w16 z)) (c.i16_from_bits.ensures ∙ ap (signed 6) c.wide-2.ensures) ∙ signed_back 6 _ (lit≤ tt) (lit≤ tt) in
    rw (first, delta, back16 (signed 10 n +ℤ signed 6 (n / 1024)) (omega (arith, small n)))

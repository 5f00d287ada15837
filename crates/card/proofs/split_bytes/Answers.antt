-- `card::split_bytes` meets its contract: in each iteration both arrays hold the bytes of the words before the current one. Assumes nothing.
use mathlib.Core.Path.{ap}
use Prim.Native.Nat.{ℕ, ◌/◌, ◌%◌}
use Rattle.lists.proofs.Fill.{start, one_more, done}
use Rattle.card.proofs.split_bytes.Goals as goal

pub loop-i-init : goal.loop-i-init
loop-i-init c = (start _ _ _, start _ _ _)

pub loop-i-preserved : goal.loop-i-preserved
loop-i-preserved c =
    let l = c.loop-i in
    let h = c.loop-i-test.true in
    let e = c.word_by_one_load-word.ensures in
    (one_more _ l.invariant.0 h (ap (λ (w : ℕ). w / 256) e), one_more _ l.invariant.1 h (ap (λ (w : ℕ). w % 256) e))

pub returns : goal.returns
returns c =
    let l = c.loop-i in
    record { high_after = done _ l.invariant.0 c.loop-i-test.false; low_after = done _ l.invariant.1 c.loop-i-test.false }

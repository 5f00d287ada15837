-- `roots::pattern_of` meets its contract: if no highest bit is set, b is normal and both guesses are the digits of its roots. Assumes nothing.
use Rattle.std.proofs.Common.{ℕ, ◌+◌, ◌*◌, ◌/◌, ◌%◌, subst, arith}
use lib.Bits.{bit_or, or_lt}
use Rattle.root.specs.Whole.{Rounds}
use Rattle.root.proofs.Squares.{or-below}
use Rattle.roots.proofs.Found.{found}
use Rattle.roots.proofs.pattern_of.Goals as goal

pub overflow_cast-wrong : goal.overflow_cast-wrong
overflow_cast-wrong c = omega (arith, or_lt 64 c.astray.result c.astray-2.result (omega arith) (omega arith))

pub returns-then-wrong-odd-lt2147483648 : goal.returns-then-wrong-odd-lt2147483648
returns-then-wrong-odd-lt2147483648 c =
    let t = c in
    let s = t in
    let d = s in
    let start = d in
    let w = d.wrapping_add_u32-w.result in
    let all = or-below {a = bit_or s.astray.result s.astray-2.result / 0x100000000} {b = bit_or t.wrapping_sub_u32.result t.wrapping_sub_u32-2.result} c.if-wrong-odd-lt2147483648.true in
    let wrong = or-below {a = s.astray.result} {b = s.astray-2.result} {n = 0x8000000000000000} (omega arith) in
    let odd = or-below {a = t.wrapping_sub_u32.result} {b = t.wrapping_sub_u32-2.result} all.1 in
    found start.args.b w d.digits-q.result d.digits-p.result (omega arith) (omega arith) (omega arith) (omega arith) (omega arith)
    (subst (λ (m : ℕ). Rounds (m * (0x800000 + 0x800000 * (w / 0x800000 % 2))) d.digits-q.result) s.digits.ensures (s.astray.ensures wrong.0))
    (s.astray-2.ensures wrong.1)

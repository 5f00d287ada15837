-- Powers of two: their bits and their values. Assumes nothing.
use Prim.Native.Nat.{ℕ, suc, ◌+◌, ◌-◌, ◌*◌, ◌/◌, ◌%◌, ◌^◌, ◌≤◌, ◌<◌}
use native.Mathlib.Omega.{arith}
use mathlib.Core.Path.{◌≡◌, refl, sym, ap, ap₂, ◌∙◌, subst}
use mathlib.Core.Bool.{Bool, false, cond}
use lib.Count.{count_trailing_zeros}
use lib.IntN.{pos, negsuc}
use lib.Ieee.{Float, inf, fin, binary32, of_bits, of_fields, odd, minus}
use lib.Ieee.Exact.{HasValue}
use borrow.Author.Tests.{lt-ltb, le-ltb, lt-leb, le-leb, ne_eqb}
use Rattle.lists.specs.Pick.{pick}
use Rattle.floats.specs.Floats.{power_of_two}

pub power_below : (e : ℕ) → e < 128 → power_of_two e ≡ fin false 1 (pos e)
unfolding power_of_two
power_below e h = ap (λ (b : Bool). pick b (fin false 1 (pos e)) (inf false)) (lt-ltb e 128 h)

pub power-above : (e : ℕ) → 128 ≤ e → power_of_two e ≡ inf false
unfolding power_of_two
power-above e h = ap (λ (b : Bool). pick b (fin false 1 (pos e)) (inf false)) (le-ltb e 128 h)

-- below 2 ^ 128 the power is exact
pub power-value : (e : ℕ) → e < 128 → HasValue (power_of_two e) false (2 ^ e) 1
power-value e h = subst (λ (x : Float). HasValue x false (2 ^ e) 1) (sym (power_below e h)) (refl, omega arith)

pub infinity-bits : of_bits binary32 0x7F800000 ≡ inf false
unfolding of_bits
infinity-bits = refl

-- the exponent field of 2 ^ e is e + 127, and its fraction field is 0
fields : (e : ℕ) → e < 128 → of_bits binary32 ((e + 127) * 0x800000) ≡ of_fields binary32 false (suc (e + 126)) 0
unfolding of_bits
fields e h =
    ap₂ (λ (s : Bool) (x : ℕ). of_fields binary32 s x ((e + 127) * 0x800000 % 0x800000)) (lt-leb 0x80000000 ((e + 127) * 0x800000) (omega arith)) (let x : (e + 127) * 0x800000 % 0x80000000 / 0x800000 ≡ suc (e + 126) = omega arith in x)
    ∙ ap (of_fields binary32 false (suc (e + 126))) (let z : (e + 127) * 0x800000 % 0x800000 ≡ 0 = omega arith in z)

by-fields : (e : ℕ) → e < 128 → of_fields binary32 false (suc (e + 126)) 0 ≡ fin false 1 (minus (e + 126 + 23) 149)
unfolding of_fields odd count_trailing_zeros
by-fields e h =
    ap (λ (t : Bool). cond t (inf false) (fin false 1 (minus (e + 126 + 23) 149))) (ne_eqb (suc (e + 126)) 255 (λ q. let z : ⊥ = omega arith in z))

exponent : (e : ℕ) → minus (e + 126 + 23) 149 ≡ pos e
exponent e =
    ap (λ (t : Bool). cond t (pos (e + 126 + 23 - 149)) (negsuc (149 - suc (e + 126 + 23)))) (le-leb 149 (e + 126 + 23) (omega arith))
    ∙ ap pos (let z : e + 126 + 23 - 149 ≡ e = omega arith in z)

pub power-bits : (e : ℕ) → e < 128 → of_bits binary32 ((e + 127) * 0x800000) ≡ power_of_two e
power-bits e h = fields e h ∙ by-fields e h ∙ ap (fin false 1) (exponent e) ∙ sym (power_below e h)

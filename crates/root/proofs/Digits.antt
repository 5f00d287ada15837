-- The significands of two roots, the second taken of the first, make the bits of the fourth root. Assumes nothing.
use Rattle.std.proofs.Common.{◌≡◌, ℕ, ◌+◌, ◌*◌, ◌/◌, ◌%◌, ◌^◌, ◌<◌, ◌≤◌, sym, refl, ap, ◌∙◌, subst, mul_assoc, arith, pow-add}
use Rattle.root.specs.Root.{magnitude, root_pattern}
use Rattle.root.specs.Whole.{Digits, Twice, Lifted}
use Rattle.root.proofs.Patterns.{Scaled, Nearest}
use Rattle.root.proofs.Magnitude.{mag-at, nearest-of}
use Rattle.root.proofs.Unique.{is-root}

at : (m k q : ℕ) → Digits m k q → Scaled m k (0x800000 * (k / 2) + q)
at m k q d = record { q = q; sum = refl; from = d.from; under = d.under; rounds = d.rounds }

-- the first root in the form that `Lifted` has
again : (k q : ℕ) → 0x800000 ≤ q → q < 0x1000000 → magnitude (0x800000 * (k / 2) + q) * 2 ^ 149 ≡ q * 2 ^ (k / 2 + 126 + 23)
again k q lo hi =
    let e : k / 2 + 149 ≡ k / 2 + 126 + 23 = omega arith in
    ap (λ (x : ℕ). x * 2 ^ 149) (mag-at (k / 2) q lo hi) ∙ mul_assoc q (2 ^ (k / 2)) (2 ^ 149) ∙ ap (λ (x : ℕ). q * x) (sym (pow-add 2 (k / 2) 149)) ∙ ap (λ (x : ℕ). q * 2 ^ x) e

pub fourth : (b w r : ℕ) → Lifted b w → Twice w r → (r ≡ root_pattern (root_pattern b)) × (r < 0x7F800000)
fourth b w r l z =
    let m : ℕ = w % 0x800000 + 0x800000 in
    let k : ℕ = w / 0x800000 in
    let s : ℕ = 0x800000 * (k / 2) + z.q in
    let n : Nearest b s = nearest-of b m k s l.value (omega arith) (omega arith) (omega (arith, l.under)) (at m k z.q z.first) in
    let t : ℕ = 0x800000 * ((k / 2 + 126) / 2) + z.p in
    let o : Nearest s t = nearest-of s z.q (k / 2 + 126) t (again k z.q z.first.from z.first.under) z.first.from z.first.under (omega (arith, l.under)) (at z.q (k / 2 + 126) z.p z.second) in
    (z.sum ∙ is-root s t o ∙ ap root_pattern (is-root b s n), subst (λ (x : ℕ). x < 0x7F800000) (sym z.sum) o.finite)

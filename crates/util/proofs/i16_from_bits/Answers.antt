-- `util::i16_from_bits` meets its contract: low bits below the half are the number itself; otherwise the number is -1 - (2 ^ k - 1 - low).
-- Assumes nothing.
use mathlib.Core.Path.{◌≡◌, sym, ap, ◌∙◌, subst}
use Prim.Native.Nat.{ℕ, suc, ◌-◌, ◌*◌, ◌/◌, ◌%◌, ◌^◌, ◌<◌, ◌≤◌}
use native.Mathlib.Nat.{mod-lt}
use native.Mathlib.Omega.{arith}
use lib.IntN.{ℤ, pos, negsuc, ◌-ℤ◌}
use lib.Pow.{pow_pos, pow_mono}
use mir.Syntax.{w16}
use mir.Val.{SFits, to_z}
use mir.ValLaws.{to_z_pos, to_z-of_z}
use Rattle.util.specs.Fields.{signed}
use Rattle.util.proofs.Shift.{one_shifted}
use Rattle.util.proofs.Width.{twice, signed_low, signed_high, minus_one}
use Rattle.util.proofs.i16_from_bits.Goals as goal

-- 2 ^ k, as the code computes it
abbrev full : ℕ → ℕ
full k = 1 * 2 ^ k % 4294967296

-- the low k bits of n, as the code computes them
abbrev low : ℕ → ℕ → ℕ
low k n = n % full k

module _ (k n : ℕ) (some : 1 ≤ k) (most : k ≤ 16) where
  is-full : full k ≡ 2 ^ k
  is-full = one_shifted 32 k (omega arith)

  is-low : low k n ≡ n % 2 ^ k
  is-low = ap (λ (m : ℕ). n % m) is-full

  positive : 0 < full k
  positive = subst (λ (m : ℕ). 0 < m) (sym is-full) (pow_pos k)

  halves : (full k ≡ 2 ^ (k - 1) * 2) × (2 ^ (k - 1) ≤ 2 ^ 15)
  halves = (is-full ∙ twice k some, pow_mono {i = k - 1} {j = 15} (omega arith))

  under : low k n < full k
  under = mod-lt n positive

  below : low k n < full k / 2 → (low k n < 2 ^ 15) × (n % 2 ^ k < 2 ^ (k - 1))
  below h = let t = halves in let e = is-low in (omega arith, omega arith)

  above : full k / 2 ≤ low k n → (full k - 1 - low k n < 2 ^ 15) × (2 ^ (k - 1) ≤ n % 2 ^ k) × (full k - 1 - low k n ≡ 2 ^ k - suc (n % 2 ^ k))
  above h = let t = halves in let e = is-low in let f = is-full in let u = under in (omega arith, omega arith, omega arith)

  -- the difference that the code computes
  value : full k / 2 ≤ low k n → negsuc 0 -ℤ to_z w16 (full k - 1 - low k n) ≡ negsuc (full k - 1 - low k n)
  value h = ap (λ (z : ℤ). negsuc 0 -ℤ z) (to_z_pos w16 (full k - 1 - low k n) (above h).0) ∙ minus_one (full k - 1 - low k n)

  in-range : full k / 2 ≤ low k n → SFits w16 (negsuc 0 -ℤ to_z w16 (full k - 1 - low k n))
  in-range h = subst (λ (z : ℤ). SFits w16 z) (sym (value h)) (record { sfits = (above h).0 })

  low-case : low k n < full k / 2 → to_z w16 (low k n) ≡ signed k n
  low-case h = to_z_pos w16 (low k n) (below h).0 ∙ ap pos is-low ∙ sym (signed_low k n (below h).1)

  high-case : full k / 2 ≤ low k n → negsuc 0 -ℤ to_z w16 (full k - 1 - low k n) ≡ signed k n
  high-case h = value h ∙ ap negsuc (above h).2 ∙ sym (signed_high k n (above h).1)

pub returns-then-low-full : goal.returns-then-low-full
returns-then-low-full c = low-case c.args.num_bits c.args.word c.requires.0 c.requires.1 c.if-low-full.true

pub returns-else-low-full : goal.returns-else-low-full
returns-else-low-full c =
    let k = c.args.num_bits in
    let n = c.args.word in
    to_z-of_z w16 (negsuc 0 -ℤ to_z w16 (full k - 1 - low k n)) (in-range k n c.requires.0 c.requires.1 c.if-low-full.false)
    ∙ high-case k n c.requires.0 c.requires.1 c.if-low-full.false

-- The range coefficients, step by step as in document 02: 1 at the basic range, each above it from the one below, each below it from the one above.
-- Assumes nothing.
use Rattle.std.proofs.Common.{◌≡◌, ℕ, suc, ◌+◌, ◌-◌, ◌<◌, ◌≤◌, Bool, true, false, ltb, List, ℤ, refl, ◌∙◌, arith, ltb-false, le-ltb}
use lib.Ieee.{Float}
use Rattle.lists.specs.Pick.{pick}
use Rattle.floats.specs.Floats.{◌⊗◌, ◌⊘◌}
use Rattle.floats.specs.Constants.{one}
use Rattle.ranges.specs.Coefficients.{growth, above, below, coefficient_at}

module _ (t : List ℤ) (k : List Float) (b : ℕ) where
  is-above : (r : ℕ) → b ≤ r → coefficient_at t k b r ≡ above t k b (r - b)
  unfolding coefficient_at
  is-above r h = rw (le-ltb r b h)

  is_below : (r : ℕ) (c : Bool) → ltb r b ≡ c → r ≤ b → pick c (below t k b (b - r)) (above t k b (r - b)) ≡ below t k b (b - r)
  unfolding above below
  is_below r true e h = refl
  is_below r false e h =
      let l = ltb-false r b e in
      let d : b - r ≡ 0 = omega arith in
      let u : r - b ≡ 0 = omega arith in
      rw (d, u)

  pub at-basic : coefficient_at t k b b ≡ one
  unfolding above
  at-basic = is-above b (omega arith) ∙ (let e : b - b ≡ 0 = omega arith in rw e)

  pub next-above : (r : ℕ) → b ≤ r → coefficient_at t k b (r + 1) ≡ coefficient_at t k b r ⊗ growth t k r
  unfolding above
  next-above r h =
      let e : r + 1 - b ≡ suc (r - b) = omega arith in
      let o : b + (r - b) ≡ r = omega arith in
      rw (is-above (r + 1) (omega arith), is-above r h, e, o)

  pub next-below : (r : ℕ) → r < b → coefficient_at t k b r ≡ coefficient_at t k b (r + 1) ⊘ growth t k r
  unfolding coefficient_at below
  next-below r h =
      let e : b - r ≡ suc (b - (r + 1)) = omega arith in
      let o : b - suc (b - (r + 1)) ≡ r = omega arith in
      rw (is_below r (ltb r b) refl (omega arith), is_below (r + 1) (ltb (r + 1) b) refl (omega arith), e, o)

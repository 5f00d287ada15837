-- Refusal 5 exactly when, and the first pixel: by the laws of the first index with a property. Assumes nothing.
use Prim.Native.Nat.{ℕ, ◌<◌}
use mathlib.Core.Path.{◌≡◌, refl, sym, ◌∙◌}
use mathlib.Core.Bool.{Bool, true, false, true≢false}
use native.Mathlib.Omega.{arith}
use borrow.Author.Tests.{ltb-true, ltb-false}
use lib.Dec.{ltb}
use Rattle.lists.specs.Pick.{pick}
use Rattle.lists.specs.First.{First}
use Rattle.lists.proofs.First as first
use Rattle.util.specs.Fields.{in_i16}
use Rattle.sums640.specs.Sums.{pixel_count, offset_at, alpha_base_at, alpha_rest_at, k_ta_sum_at, outside_at, first_outside}
use Rattle.sums640.specs.First.{Inside, Judged, FirstIs}

-- one test passed, and the rest
passed : (b r : Bool) → pick b r true ≡ false → (b ≡ true) × (r ≡ false)
passed true r e = (refl, e)
passed false r e = absurd (true≢false e)

module _ (w : ℕ → ℕ) (pixel : ℕ) where
  inside : outside_at w pixel ≡ false → Inside w pixel
  unfolding outside_at
  inside e =
      let a = passed (in_i16 (offset_at w pixel)) _ e in
      let b = passed (in_i16 (alpha_base_at w pixel)) _ a.1 in
      let c = passed (in_i16 (alpha_rest_at w pixel)) _ b.1 in
      let d = passed (in_i16 (k_ta_sum_at w pixel)) _ c.1 in record { offset = a.0; alpha_base = b.0; alpha_rest = c.0; k_ta_sum = d.0 }

  pub passes : Inside w pixel → outside_at w pixel ≡ false
  unfolding outside_at
  passes i = rw (i.offset, i.alpha_base, i.alpha_rest, i.k_ta_sum)

  pub judged : Judged w pixel
  judged = record { inside = inside; outside = λ e i. true≢false (sym e ∙ passes i) }

module _ (w : ℕ → ℕ) where
  is-first : First (outside_at w) 0 pixel_count (first_outside w)
  unfolding first_outside
  is-first = first.is-first (outside_at w) 0 pixel_count

  only : (b : Bool) → ltb (first_outside w) pixel_count ≡ b → ((pixel : ℕ) → pixel < pixel_count → outside_at w pixel ≡ false) → first_outside w ≡ pixel_count
  only true e f = let h = ltb-true (first_outside w) pixel_count e in absurd (true≢false (sym (is-first.at h) ∙ f (first_outside w) h))
  only false e f = let h = ltb-false (first_outside w) pixel_count e in let l = is-first.within in omega arith

  pub first-is : FirstIs w
  first-is = record {
    none = λ e pixel h. is-first.before pixel (omega arith) (omega arith);
    only = only (ltb (first_outside w) pixel_count) refl;
    within = is-first.within;
    at = is-first.at;
    before = λ pixel h. is-first.before pixel (omega arith) h;
  }

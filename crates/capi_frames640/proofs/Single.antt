-- The promise of the mask call determines its result; for the frame calls that is `single-out` of `capi_frames`, which is about any `Writes`.
-- Assumes nothing.
use Prim.Native.Nat.{ℕ}
use mathlib.Core.Path.{◌≡◌, ap, sym, ◌∙◌}
use mathlib.Core.List.{List}
use Rattle.capi_cards.specs.declared.Outcome.{Outcome}
use Rattle.capi_cards.specs.Border.{outcome_of}
use Rattle.rows640.specs.declared.Pattern.{Pattern}
use Rattle.rows640.proofs.Mask.{single}
use Rattle.capi_frames640.specs.Border.{Masking}

pub single-mask : (subpage : ℕ) (p : Pattern) (d x y : List ℕ) (r q : Outcome) → Masking subpage p d x r → Masking subpage p d y q → (r ≡ q) × (x ≡ y)
single-mask subpage p d x y r q m n =
    let e = single subpage p d x y _ _ m.masks n.masks in
    (m.out ∙ ap outcome_of e.0 ∙ sym n.out, e.1)

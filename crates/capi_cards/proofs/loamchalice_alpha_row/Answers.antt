-- `capi_cards::loamchalice_alpha_row` meets its contract: an empty row, or one of the six. Assumes nothing.
use mathlib.Core.Path.{◌≡◌, sym, ap, ◌∙◌}
use mathlib.Core.List.{List}
use native.Mathlib.Omega.{arith}
use Prim.Native.Nat.{ℕ, ◌≤◌}
use lib.ListN.{length}
use Rattle.eeprom.specs.Parts.{row_of}
use Rattle.capi_cards.proofs.Rows.{row-none, row_low, row-some}
use Rattle.capi_cards.proofs.loamchalice_alpha_row.Goals as goal

-- a row that is not empty is one of six
low : (image part : List ℕ) (row : ℕ) → part ≡ row_of image row → (length part ≡ 0 → ⊥) → row ≤ 5
low image part row e f = row_low image row (λ n. f (ap length e ∙ n))

pub returns-then-length-eq0 : goal.returns-then-length-eq0
returns-then-length-eq0 c =
    let e = row-none _ _ (ap length (sym c.alpha_row-part.ensures) ∙ c.if-length-eq0.true) in
    record { value = e.0; image_value = e.1 }

pub overflow_mul-result : goal.overflow_mul-result
overflow_mul-result c = let h = low _ _ _ c.alpha_row-part.ensures c.if-length-eq0.false in record { fits = omega (arith, h) }

pub overflow_add-result : goal.overflow_add-result
overflow_add-result c = let h = low _ _ _ c.alpha_row-part.ensures c.if-length-eq0.false in record { fits = omega (arith, h) }

pub returns : goal.returns
returns c =
    let e = row-some c.args.image.now c.args.row (λ n. c.if-length-eq0.false (ap length c.alpha_row-part.ensures ∙ n)) in
    record { value = rw c.alpha_row-part.ensures e.0; image_value = rw c.alpha_row-part.ensures e.1 }

-- `formulas::pixel_answer` meets its contract: a pixel is lost exactly if its temperature is NaN. Assumes nothing.
use mathlib.Core.Path.{sym, ap}
use mathlib.Core.Bool.{Bool}
use Rattle.lists.specs.Pick.{pick}
use Rattle.floats.proofs.Nan.{differs, agrees}
use Rattle.formulas.specs.declared.Pixel.TheVariants.{Temperature, Lost}
use Rattle.formulas.proofs.pixel_answer.Goals as goal

pub returns-then-t : goal.returns-then-t
returns-then-t c =
    let a = c.args in
    sym (ap (λ (b : Bool). pick b (Lost a.v_ir) (Temperature a.t)) (differs a.t c.if-t.true))

pub returns-else-t : goal.returns-else-t
returns-else-t c =
    let a = c.args in
    sym (ap (λ (b : Bool). pick b (Lost a.v_ir) (Temperature a.t)) (agrees a.t c.if-t.false))

-- `pixels::answer_bits` meets its contract: each pixel has a temperature, or the pattern and a flag. Assumes nothing.
use borrow.Author.Rules.{rules}
use mathlib.Core.Path.{sym, ap, ◌∙◌}
use Rattle.lists.proofs.Each.{begun, entered, all-entered}
use Rattle.pixels.specs.Pixels.{answer_bits}
use Rattle.formulas.specs.declared.Pixel.{Pixel}
use Rattle.pixels.specs.Blocks.{lost_flag}
use Rattle.pixels.proofs.Lost.{lost-flag, told-flag}
use Rattle.pixels.proofs.answer_bits.Goals as goal

pub loop-i-init : goal.loop-i-init
loop-i-init c = (begun _, begun _)

pub loop-i-preserved-in_default : goal.loop-i-preserved-in_default
loop-i-preserved-in_default c =
    let e = sym (c.pixel_answer-answer.ensures) ∙ c.in_default.is in
    let p = sym (ap answer_bits e) in
    (entered c.loop-i.invariant.0 (search rules) (search rules) p, entered c.loop-i.invariant.1 (search rules) (search rules) (sym lost-flag ∙ ap lost_flag p))

pub loop-i-preserved : goal.loop-i-preserved
loop-i-preserved c =
    let e = sym (c.pixel_answer-answer.ensures) ∙ c.in-Temperature.is in
    let f = told-flag _ _ _ (c.shared_slice_known-in-loop-i-2-1.given c.loop-i.i) e in (
      entered c.loop-i.invariant.0 (search rules) (search rules) (c.to_bits.ensures ∙ sym (ap answer_bits e)),
      entered c.loop-i.invariant.1 (search rules) (search rules) (sym f ∙ sym (ap (λ (p : Pixel). lost_flag (answer_bits p)) e)),
    )

pub returns : goal.returns
returns c = record { bits_are = all-entered c.loop-i.invariant.0 (search rules); flags_are = all-entered c.loop-i.invariant.1 (search rules) }

-- `pixels::temperature_block` meets its contract: what the inner roots are taken of, the roots, the final values, and their temperatures. Assumes nothing.
use mathlib.Core.Path.{ap, ◌∙◌}
use Rattle.root.specs.Root.{root, celsius}
use Rattle.pixels.proofs.Temperatures.{rooted}
use Rattle.pixels.proofs.temperature_block.Goals as goal

pub returns : goal.returns
returns c = record {
  at = λ i h.
      c.degrees_block.ensures.at i h
      ∙ ap celsius (c.final_values.ensures.at i h ∙ rooted _ _ _ _ (c.fourth_roots.ensures.at i h ∙ ap root (c.under_roots.ensures.at i h)));
}

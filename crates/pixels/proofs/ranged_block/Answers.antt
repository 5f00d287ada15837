-- `pixels::ranged_block` meets its contract: basic temperatures, their ranges, and the temperatures by those. Assumes nothing.
use borrow.Author.Rules.{rules}
use mathlib.Core.Path.{ap, ◌∙◌}
use lib.ListN.{get_or-replicate}
use Rattle.root.specs.Root.{celsius}
use Rattle.roots.specs.Many.{side}
use Rattle.pixels.proofs.Temperatures.{ranged, range-within}
use Rattle.pixels.proofs.ranged_block.Goals as goal

pub find_ranges-requires : goal.find_ranges-requires
find_ranges-requires c = (search rules, search rules, search rules, record { at = λ i h. get_or-replicate side i 0 0 h })

pub ranged_values-requires : goal.ranged_values-requires
ranged_values-requires c =
    let p = c.requires.ranges_nonzero in
    record {
      side_in_bounds = (search rules, search rules, search rules, search rules);
      by_index = λ i h.
          let e = c.find_ranges.ensures.at i h in
          (range-within _ _ _ e p.0 _ p.1, range-within _ _ _ e p.0 _ p.2, range-within _ _ _ e p.0 _ p.3);
    }

pub returns : goal.returns
returns c = record {
  at = λ i h.
      c.degrees_block.ensures.at i h
      ∙ ap celsius (c.ranged_values.ensures.at i h ∙ ranged _ c.args.ranges _ _ _ (c.temperature_block.ensures.at i h) (c.find_ranges.ensures.at i h));
}

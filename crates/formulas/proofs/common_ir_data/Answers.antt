-- `formulas::common_ir_data` meets its contract: by its callees' contracts. Assumes nothing.
use borrow.Author.Rules.{rules}
use Rattle.formulas.specs.Frame.{common_of}
use Rattle.formulas.proofs.common_ir_data.Goals as goal

pub returns : goal.returns
unfolding common_of
returns c =
    rw (
      c.v_dd.ensures,
      c.ambient_temperature.ensures,
      c.v_ptat_art-art.ensures,
      c.delta_v-delta.ensures,
    ) (search rules)

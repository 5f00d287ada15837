-- The arguments that C passes to an MLX90640's frame call, and the result of its mask call. Assumes nothing.
use Rattle.std.specs.Prelude.{ℕ, ◌≡◌, List, eqb, ⊤, Result}
use Rattle.lists.specs.Pick.{pick}
use Rattle.refusal.specs.declared.Refusal.{Refusal}
use Rattle.rows640.specs.declared.Pattern.{Pattern}
use Rattle.rows640.specs.declared.Pattern.TheVariants.{Chess, Interleave}
use Rattle.rows640.specs.Mask.{Masks}
use Rattle.frames640.specs.declared.Input as frame
use Rattle.capi_record.specs.Record.{subpage_of}
use Rattle.capi_cards.specs.declared.Outcome.{Outcome}
use Rattle.capi_cards.specs.Border.{outcome_of}
use Rattle.capi_frames.specs.Border.{ram_in, settings_in}
use Rattle.capi_frames640.specs.declared.Input640.{Input640}

-- the access pattern of a number: 0 is interleave, any other number chess, as the bit of the camera's control register
abbrev pub pattern_of : ℕ → Pattern
pattern_of n = pick (eqb n 0) Interleave Chess

-- the inputs of a frame, from C's
abbrev pub input_in : Input640 → frame.Input
input_in f = record { settings = settings_in f.settings; ram = ram_in f.ram; subpage = subpage_of f.subpage; pattern = pattern_of f.pattern }

-- some inner verdict meets `Masks` for the subpage, the pattern and the mask before and after; and C's result is that one, converted
pub record Masking (subpage : ℕ) (p : Pattern) (before after : List ℕ) (r : Outcome) : Type 0 where
  pub inner : Result ⊤ Refusal
  pub masks : Masks subpage p before after inner
  pub out : r ≡ outcome_of inner

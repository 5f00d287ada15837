-- `floats::to_bits` meets its contract: only NaN differs from itself, and any other value has exactly one pattern of bits.
-- Assumes nothing.
use mathlib.Core.Path.{sym, ap, ◌∙◌, subst}
use lib.Dec.{T}
use lib.Ieee.{binary32, to_bits}
use lib.Ieee.Compare.{differs_from_itself}
use Rattle.floats.proofs.Nan.{same-no-nan, nan-bits}
use Rattle.floats.proofs.to_bits.Goals as goal

pub returns-then-x : goal.returns-then-x
returns-then-x c = sym (ap (to_bits binary32) (differs_from_itself _ (subst T (sym c.if-x.true) tt)) ∙ nan-bits)

pub float_to_bits-result : goal.float_to_bits-result
float_to_bits-result c = same-no-nan _ c.if-x.false

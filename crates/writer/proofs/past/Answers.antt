-- `writer::past` meets its contract: a checked word adds one. Assumes nothing.
use mathlib.Core.Path.{sym, ◌∙◌}
use native.Mathlib.Omega.{arith}
use Rattle.listing.proofs.Index.{counted-lt, counted_next}
use Rattle.writer.proofs.past.Goals as goal

pub overflow_add-result : goal.overflow_add-result
overflow_add-result c = let s = c in let l = counted-lt s.args.word s.args.before s.requires.1 in let h = s.requires.0 in omega arith

pub returns-then-is_checked : goal.returns-then-is_checked
returns-then-is_checked c = let s = c in counted_next _ _ s.requires.1 _ (sym c.is_checked.ensures ∙ c.if-is_checked.true)

pub returns-else-is_checked : goal.returns-else-is_checked
returns-else-is_checked c =
    let s = c in
    let e = counted_next _ _ s.requires.1 _ (sym c.is_checked.ensures ∙ c.if-is_checked.false) in
    omega arith

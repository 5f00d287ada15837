-- `offsets::fill_offsets` meets its contract: it fills entry after entry. Assumes nothing.
use borrow.Author.Rules.{sfits_of}
use mathlib.Core.Path.{sym, ◌∙◌, subst}
use Prim.Native.Nat.{ℕ, ◌<◌}
use native.Mathlib.Omega.{arith}
use mir.Syntax.{w32}
use mir.Facts.{to_z-of_z}
use Rattle.lists.proofs.Fill as fill
use Rattle.lists.proofs.Fill.{Filling}
use Rattle.offsets.specs.Offsets.{scales}
use Rattle.offsets.proofs.Range.{scale-is}
use Rattle.offsets.proofs.fill_offsets.Goals as goal

pub loop-i-init : goal.loop-i-init
loop-i-init c = fill.start _ _ _

pub loop-i-preserved : goal.loop-i-preserved
loop-i-preserved c =
    fill.one_more _ c.loop-i.invariant c.loop-i-test.true (to_z-of_z {w = w32} (sfits_of c.offset_at.type_inv) ∙ c.offset_at.ensures)

pub returns : goal.returns
returns c = fill.done _ c.loop-i.invariant c.loop-i-test.false

pub offset_at-requires : goal.offset_at-requires
offset_at-requires c =
    let e = c.read_basis-basis.ensures in
    (omega arith, e, subst (λ (k : ℕ). k < scales) (sym (scale-is _ _ e)) c.requires.words_bound)

-- `tables::fill_k` meets its contract: it fills pixel after pixel. Assumes nothing.
use mathlib.Core.Path.{sym, ap, ap₂, ◌∙◌}
use Prim.Native.Nat.{ℕ}
use lib.IntN.{ℤ}
use mir.Facts.{to_z-of_z}
use mir.Syntax.{w16}
use Rattle.lists.proofs.Fill as fill
use Rattle.lists.proofs.Fill.{Filling}
use Rattle.map.proofs.Words.{k-pixel-at}
use Rattle.card.specs.Inner.{at}
use Rattle.tables.specs.declared.KBasis.{KBasis}
use Rattle.tables.specs.Tables.{raw_of, k_at}
use Rattle.tables.specs.Inner.{basis_of, k_of}
use Rattle.tables.proofs.fill_k.Goals as goal

pub loop-i-init : goal.loop-i-init
loop-i-init c = fill.start _ _ _

pub loop-i-preserved : goal.loop-i-preserved
unfolding k_at
loop-i-preserved c =
    let l = c.loop-i in
    let b = c in
    let a = b.args in
    let t = c.loop-i-test.true in
    fill.one_more _ l.invariant t
    (c.k_of.ensures
    ∙ ap₂ (λ (z : ℤ) (s : KBasis). k_of z s) (to_z-of_z {w = w16} (record { sfits = c.raw_of.type_inv }) ∙ c.raw_of.ensures) b.read_k_basis-basis.ensures
    ∙ ap (λ (k : ℕ). k_of (raw_of a.which (at a.words.now k)) (basis_of (at a.words.now) a.which)) (sym (k-pixel-at l.i t)))

pub returns : goal.returns
returns c = fill.done _ c.loop-i.invariant c.loop-i-test.false

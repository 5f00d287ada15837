-- `tables::row_reference` meets its contract, for an even row (upper bits) and an odd one (lower bits). Assumes nothing.
use borrow.Author.Tests.{eq-eqb, ne_eqb}
use mathlib.Core.Path.{ap₂, ◌∙◌}
use Prim.Native.Nat.{ℕ, ◌+◌, ◌/◌, ◌%◌, ◌^◌, ◌<◌}
use native.Mathlib.Omega.{arith}
use lib.IntN.{pos}
use Rattle.floats.specs.Floats.{over}
use Rattle.map.proofs.Words.{row-scale-at, row-maximum-at}
use Rattle.card.specs.declared.Field.{Field}
use Rattle.util.specs.declared.Pair.{Pair}
use Rattle.tables.specs.Tables.{reference}
use Rattle.tables.proofs.row_reference.Goals as goal

upper : (n : ℕ) → n < 2048 → n / 2 ^ 5 < 2048
upper n h = omega arith

lower : (n : ℕ) → n < 2048 → n % 2 ^ 5 < 2048
lower n h = omega arith

pub returns-then-row-eq0 : goal.returns-then-row-eq0
unfolding reference
returns-then-row-eq0 c =
    let s = c in
    let row = s.args.row in
    rw (row-maximum-at row s.requires.0, row-scale-at (row / 2) (let h = s.requires.0 in omega arith), eq-eqb _ _ c.if-row-eq0.true)
    (c.reference_of.ensures
    ∙ ap₂ (λ (m : Field ℕ) (p : Field Pair). over (pos m.value) (p.value.upper + 20)) c.plain-maximum.ensures c.split-scales.ensures)

pub returns-else-row-eq0 : goal.returns-else-row-eq0
unfolding reference
returns-else-row-eq0 c =
    let s = c in
    let row = s.args.row in
    rw (row-maximum-at row s.requires.0, row-scale-at (row / 2) (let h = s.requires.0 in omega arith), ne_eqb _ _ c.if-row-eq0.false)
    (c.reference_of-else-row-eq0.ensures
    ∙ ap₂ (λ (m : Field ℕ) (p : Field Pair). over (pos m.value) (p.value.lower + 20)) c.plain-maximum.ensures c.split-scales.ensures)

-- `sums640::shared_at` meets its contract: the field of the number's word determines which part of the list its index is in. Assumes nothing.
use mathlib.Core.Path.{◌≡◌, sym, ap, ◌∙◌}
use Prim.Native.Nat.{ℕ, ◌-◌, ◌<◌, ◌≤◌}
use native.Mathlib.Omega.{arith}
use mir.Syntax.{w32}
use mir.Facts.{to_z-of_z}
use borrow.Author.Tests.{lt-ltb, le-ltb}
use Rattle.map640.specs.Map.{field_of}
use Rattle.sums640.specs.Inner.{row_from, column_from, shared_at}
use Rattle.sums640.specs.Sums.{average_at}
use Rattle.sums640.proofs.Words as words
use borrow.Author.Rules.{rules}
use Rattle.sums640.proofs.shared_at.Goals as goal

-- so the case of the definition is known
module _ (w : ℕ → ℕ) (k : ℕ) where
  offset-row : k < 24 → row_from w 16 k ≡ shared_at w k
  unfolding shared_at
  offset-row h = rw (lt-ltb k 56 (omega arith), lt-ltb k 24 h)

  offset-column : (24 ≤ k) × (k < 56) → column_from w 16 (k - 24) ≡ shared_at w k
  unfolding shared_at
  offset-column h = rw (lt-ltb k 56 h.1, le-ltb k 24 h.0)

  alpha-row : (56 ≤ k) × (k < 80) → row_from w 32 (k - 56) ≡ shared_at w k
  unfolding shared_at
  alpha-row h = rw (le-ltb k 56 h.0, lt-ltb k 112 (omega arith), lt-ltb (k - 56) 24 (omega arith))

  alpha-column : (80 ≤ k) × (k < 112) → column_from w 32 (k - 80) ≡ shared_at w k
  unfolding shared_at
  alpha-column h = let e : k - 56 - 24 ≡ k - 80 = omega arith in rw (le-ltb k 56 (omega arith), lt-ltb k 112 h.1, le-ltb (k - 56) 24 (omega arith), e)

  average : (112 ≤ k) × (k < 116) → average_at w (k - 112) ≡ shared_at w k
  unfolding shared_at
  average h = rw (le-ltb k 56 (omega arith), le-ltb k 112 h.0)

pub row_sum-requires : goal.row_sum-requires
row_sum-requires c =
    let h : (0 ≤ c.args.index) × (c.args.index < 24) = words.offset-rows c.requires.0 (sym c.in-OffsetRow.is ∙ (c.field_of-field.ensures ∙ ap field_of c.shared_word.ensures)) in
    search rules

pub overflow_sub-index : goal.overflow_sub-index
overflow_sub-index c =
    let h : (24 ≤ c.args.index) × (c.args.index < 56) = words.offset-columns c.requires.0 (sym c.in-OffsetColumn.is ∙ (c.field_of-field.ensures ∙ ap field_of c.shared_word.ensures)) in
    omega arith

pub column-requires : goal.column-requires
column-requires c =
    let h : (24 ≤ c.args.index) × (c.args.index < 56) = words.offset-columns c.requires.0 (sym c.in-OffsetColumn.is ∙ (c.field_of-field.ensures ∙ ap field_of c.shared_word.ensures)) in
    search rules

pub overflow_sub-index-in-AlphaRow : goal.overflow_sub-index-in-AlphaRow
overflow_sub-index-in-AlphaRow c =
    let h : (56 ≤ c.args.index) × (c.args.index < 80) = words.alpha-rows c.requires.0 (sym c.in-AlphaRow.is ∙ (c.field_of-field.ensures ∙ ap field_of c.shared_word.ensures)) in
    omega arith

pub row_sum-requires-in-AlphaRow : goal.row_sum-requires-in-AlphaRow
row_sum-requires-in-AlphaRow c =
    let h : (56 ≤ c.args.index) × (c.args.index < 80) = words.alpha-rows c.requires.0 (sym c.in-AlphaRow.is ∙ (c.field_of-field.ensures ∙ ap field_of c.shared_word.ensures)) in
    search rules

pub overflow_sub-index-in-AlphaColumn : goal.overflow_sub-index-in-AlphaColumn
overflow_sub-index-in-AlphaColumn c =
    let h : (80 ≤ c.args.index) × (c.args.index < 112) = words.alpha-columns c.requires.0 (sym c.in-AlphaColumn.is ∙ (c.field_of-field.ensures ∙ ap field_of c.shared_word.ensures)) in
    omega arith

pub column-requires-in-AlphaColumn : goal.column-requires-in-AlphaColumn
column-requires-in-AlphaColumn c =
    let h : (80 ≤ c.args.index) × (c.args.index < 112) = words.alpha-columns c.requires.0 (sym c.in-AlphaColumn.is ∙ (c.field_of-field.ensures ∙ ap field_of c.shared_word.ensures)) in
    search rules

pub overflow_sub-index-in-KTaAverage : goal.overflow_sub-index-in-KTaAverage
overflow_sub-index-in-KTaAverage c =
    let h : (112 ≤ c.args.index) × (c.args.index < 116) = words.averages c.requires.0 (sym c.in-KTaAverage.is ∙ (c.field_of-field.ensures ∙ ap field_of c.shared_word.ensures)) in
    omega arith

pub k_ta_average-requires : goal.k_ta_average-requires
k_ta_average-requires c =
    let h : (112 ≤ c.args.index) × (c.args.index < 116) = words.averages c.requires.0 (sym c.in-KTaAverage.is ∙ (c.field_of-field.ensures ∙ ap field_of c.shared_word.ensures)) in
    search rules

pub returns-in-OffsetRow : goal.returns-in-OffsetRow
returns-in-OffsetRow c = to_z-of_z {w = w32} (record { sfits = c.row_sum.type_inv }) ∙ c.row_sum.ensures ∙ offset-row _ _ (((words.offset-rows c.requires.0 (sym c.in-OffsetRow.is ∙ (c.field_of-field.ensures ∙ ap field_of c.shared_word.ensures))).1))

pub returns-in-OffsetColumn : goal.returns-in-OffsetColumn
returns-in-OffsetColumn c = to_z-of_z {w = w32} (record { sfits = c.column.type_inv }) ∙ c.column.ensures ∙ offset-column _ _ ((words.offset-columns c.requires.0 (sym c.in-OffsetColumn.is ∙ (c.field_of-field.ensures ∙ ap field_of c.shared_word.ensures))))

pub returns-in-AlphaRow : goal.returns-in-AlphaRow
returns-in-AlphaRow c = to_z-of_z {w = w32} (record { sfits = c.row_sum-in-AlphaRow.type_inv }) ∙ c.row_sum-in-AlphaRow.ensures ∙ alpha-row _ _ ((words.alpha-rows c.requires.0 (sym c.in-AlphaRow.is ∙ (c.field_of-field.ensures ∙ ap field_of c.shared_word.ensures))))

pub returns-in-AlphaColumn : goal.returns-in-AlphaColumn
returns-in-AlphaColumn c = to_z-of_z {w = w32} (record { sfits = c.column-in-AlphaColumn.type_inv }) ∙ c.column-in-AlphaColumn.ensures ∙ alpha-column _ _ ((words.alpha-columns c.requires.0 (sym c.in-AlphaColumn.is ∙ (c.field_of-field.ensures ∙ ap field_of c.shared_word.ensures))))

pub returns-in-KTaAverage : goal.returns-in-KTaAverage
returns-in-KTaAverage c = to_z-of_z {w = w32} (record { sfits = c.k_ta_average.type_inv }) ∙ c.k_ta_average.ensures ∙ average _ _ ((words.averages c.requires.0 (sym c.in-KTaAverage.is ∙ (c.field_of-field.ensures ∙ ap field_of c.shared_word.ensures))))

pub returns-in_default : goal.returns-in_default
returns-in_default c =
    let d = c.in_default in
    absurd (words.no_other c.field_of-field.result c.requires.0 (c.field_of-field.ensures ∙ ap field_of c.shared_word.ensures) d.not-OffsetRow d.not-OffsetColumn d.not-AlphaRow d.not-AlphaColumn d.not-KTaAverage)

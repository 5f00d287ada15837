-- `filter::push` meets its contract: the oldest reading is read and replaced, and the sum and the counter are updated. Assumes nothing.
use borrow.Author.Rules.{rules}
use mathlib.Core.Path.{◌≡◌, refl, ap₂, ◌∙◌}
use Prim.Native.Nat.{◌%◌}
use lib.IntN.{ℤ, pos, ◌+ℤ◌, ◌-ℤ◌}
use lib.ListN.{get_or}
use mir.Facts.{to_z-of_z}
use mir.Syntax.{w16, w32}
use mir.Val.{to_z, of_z}
use Rattle.filter.specs.Filter.{kept, pushed}
use Rattle.filter.proofs.push.Goals as goal

pub returns : goal.returns
unfolding pushed
returns c =
    let a = c.args in
    let s = c.moved_sum-sum in
    let oldest = get_or a.filter.readings (a.filter.turn % 16) (pos 0) in
    let old : to_z w16 (of_z w16 oldest) ≡ oldest = to_z-of_z {w = w16} (search rules) in
    let sum : to_z w32 (of_z w32 a.filter.sum) ≡ a.filter.sum = to_z-of_z {w = w32} (search rules) in
    let reading : to_z w16 (of_z w16 a.reading) ≡ a.reading = to_z-of_z {w = w16} (search rules) in
    let back : to_z w32 (of_z w32 s.result) ≡ s.result = to_z-of_z {w = w32} (search rules) in
    let whole : s.result ≡ kept a.filter.sum +ℤ (a.reading -ℤ oldest) = s.ensures ∙ ap₂ (λ (x y : ℤ). kept x +ℤ y) sum (ap₂ ◌-ℤ◌ reading old) in
    rw (back, whole, c.next_turn.ensures, reading) refl

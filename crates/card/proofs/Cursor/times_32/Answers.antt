-- `card::Cursor::times_32` meets its contract: 32 times a signed number of 11 bits fits an i16. Assumes nothing.
use mathlib.Core.Path.{◌≡◌, ap, ◌∙◌, sym, subst}
use mathlib.Core.List.{List}
use Prim.Native.Nat.{ℕ}
use lib.Dec.{lit≤}
use lib.IntN.{ℤ, pos, ◌*ℤ◌}
use lib.ListN.{get_or}
use mir.Syntax.{w16}
use mir.Val.{SFits, to_z, of_z}
use Rattle.util.specs.Fields.{signed}
use Rattle.util.proofs.Width.{signed_back}
use Rattle.card.specs.declared.Field.{Field}
use Rattle.card.specs.Inner.{signed_at}
use Rattle.card.proofs.Times.{times-fits, times-back}
use Rattle.card.proofs.Cursor.times_32.Goals as goal

value : (words : List ℕ) (k : ℕ) (r : Field ℤ) → r ≡ signed_at words k → to_z w16 (of_z w16 r.value) ≡ signed 11 (get_or words k 0)
value words k r e = ap (λ (r : Field ℤ). to_z w16 (of_z w16 r.value)) e ∙ signed_back 11 (get_or words k 0) (lit≤ tt) (lit≤ tt)

pub overflow_mul-result : goal.overflow_mul-result
overflow_mul-result c =
    let word = get_or c.args.words.now c.args.self.word 0 in
    subst (λ (z : ℤ). SFits w16 (z *ℤ pos 32)) (sym (value c.args.words.now c.args.self.word c.signed-field.result c.signed-field.ensures)) (times-fits word)

pub returns : goal.returns
returns c =
    let word = get_or c.args.words.now c.args.self.word 0 in
    let made : ℤ → Field ℤ = λ z. record { value = z; next = c.signed-field.result.next } in
    let moved : Field ℤ → Field ℤ = λ r. record { value = signed 11 word *ℤ pos 32; next = r.next } in
    ap (λ (z : ℤ). made (to_z w16 (of_z w16 (z *ℤ pos 32)))) (value c.args.words.now c.args.self.word c.signed-field.result c.signed-field.ensures)
    ∙ ap made (times-back word)
    ∙ ap moved c.signed-field.ensures

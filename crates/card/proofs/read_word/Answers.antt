-- `card::read_word` meets its contract, for each result of the check and for an unchecked word. Assumes nothing.
use mathlib.Core.Path.{◌≡◌, sym, ap, ◌∙◌}
use Prim.Native.Nat.{ℕ}
use Rattle.hamming.specs.Answer.{check_answer}
use Rattle.std.specs.Prelude.{Result, Ok}
use Rattle.refusal.specs.declared.Refusal.{Refusal}
use Rattle.hamming.specs.declared.Checked.{Checked}
use Rattle.card.proofs.Reading.{unchecked, clean, mended, refused}
use Rattle.card.proofs.read_word.Goals as goal

-- a checked word, and the result of its check
answered : {w' : ℕ} {x : Result Checked Refusal} {w : ℕ} (a : Result Checked Refusal) → x ≡ check_answer w' → w' ≡ w → x ≡ a → check_answer w ≡ a
answered a e f g = sym (e ∙ ap check_answer f) ∙ g

pub returns-then-not-is_checked : goal.returns-then-not-is_checked
returns-then-not-is_checked c = unchecked c.args.image.now c.args.word (sym c.is_checked.ensures ∙ c.if-not-is_checked.true)

pub returns-in-Ok-Clean : goal.returns-in-Ok-Clean
returns-in-Ok-Clean c =
    clean c.args.image.now c.args.word (sym c.is_checked.ensures ∙ c.if-not-is_checked.false) _ (answered _ c.check.ensures c.word_at.ensures (c.in-Ok-Clean.is ∙ ap Ok c.in-Ok-Clean.field-0-is))

pub returns-in-Ok-Mended : goal.returns-in-Ok-Mended
returns-in-Ok-Mended c =
    mended c.args.image.now c.args.word (sym c.is_checked.ensures ∙ c.if-not-is_checked.false) _ _ (answered _ c.check.ensures c.word_at.ensures (c.in-Ok-Mended.is ∙ ap Ok c.in-Ok-Mended.field-0-is))

pub returns-in-Err : goal.returns-in-Err
returns-in-Err c =
    refused c.args.image.now c.args.word (sym c.is_checked.ensures ∙ c.if-not-is_checked.false) _ (answered _ c.check.ensures c.word_at.ensures c.in-Err.is)

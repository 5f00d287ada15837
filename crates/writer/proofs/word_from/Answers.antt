-- `writer::word_from` meets its contract: the word's index is within its list. Assumes nothing.
use mathlib.Core.Path.{sym, ap, ◌∙◌}
use Prim.Native.Nat.{ℕ}
use native.Mathlib.Omega.{arith}
use lib.ListN.{get_or}
use Rattle.hamming.specs.Word.{encoded}
use Rattle.listing.specs.Index.{lists}
use Rattle.writer.proofs.From.{from-checked, from-unchecked}
use Rattle.listing.proofs.Index.{counted-lt, other-index, in-first, in-second}
use Rattle.writer.proofs.word_from.Goals as goal

pub returns-then-is_checked : goal.returns-then-is_checked
returns-then-is_checked c =
    c.codeword.ensures ∙ ap (λ (i : ℕ). encoded (get_or c.args.«data».now i 0)) c.requires.word_lt_card_words.1
    ∙ sym (from-checked (lists c.args.«data».now c.args.others.now) c.args.word (sym c.is_checked.ensures ∙ c.if-is_checked.true))

pub returns-else-is_checked : goal.returns-else-is_checked
returns-else-is_checked c =
    ap (λ (i : ℕ). get_or c.args.others.now i 0) (other-index c.args.word c.args.before c.requires.word_lt_card_words.1)
    ∙ sym (from-unchecked (lists c.args.«data».now c.args.others.now) c.args.word (sym c.is_checked.ensures ∙ c.if-is_checked.false))

pub codeword-requires : goal.codeword-requires
codeword-requires c =
    let r = c.requires.word_lt_card_words in
    c.requires.fit.small _ (in-first c.args.word c.args.before r.1 r.0 (sym c.is_checked.ensures ∙ c.if-is_checked.true))

pub offset_bounds-data-before : goal.offset_bounds-data-before
offset_bounds-data-before c =
    let r = c.requires.word_lt_card_words in
    let l = in-first c.args.word c.args.before r.1 r.0 (sym c.is_checked.ensures ∙ c.if-is_checked.true) in
    omega arith

pub bounds-data-before : goal.bounds-data-before
bounds-data-before c =
    let r = c.requires.word_lt_card_words in
    let l = in-first c.args.word c.args.before r.1 r.0 (sym c.is_checked.ensures ∙ c.if-is_checked.true) in
    let e = c.requires.fit.checked in
    omega arith

pub overflow_sub-index : goal.overflow_sub-index
overflow_sub-index c = counted-lt c.args.word c.args.before c.requires.word_lt_card_words.1

pub bounds-others-index : goal.bounds-others-index
bounds-others-index c =
    let r = c.requires.word_lt_card_words in
    let l = in-second c.args.word c.args.before r.1 r.0 (sym c.is_checked.ensures ∙ c.if-is_checked.false) in
    let e = c.requires.fit.unchecked in
    omega arith

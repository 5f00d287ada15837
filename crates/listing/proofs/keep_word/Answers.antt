-- `listing::keep_word` meets its contract: the word's index is within its list. Assumes nothing.
use mathlib.Core.Path.{refl, sym, ap, ◌∙◌}
use mathlib.Core.Bool.{not}
use Prim.Native.Nat.{◌-◌}
use native.Mathlib.Omega.{arith}
use lib.ListN.{get_or}
use Rattle.util.specs.Words.{word_at}
use Rattle.map.specs.Map.{checked}
use Rattle.listing.specs.Index.{unchecked}
use Rattle.listing.proofs.Index.{counted-lt, counted_next, other-index, in-first, in-second}
use Rattle.listing.proofs.Kept.{stored, left}
use Rattle.listing.proofs.keep_word.Goals as goal

pub bounds-data-before : goal.bounds-data-before
bounds-data-before c =
    let l = in-first c.args.word c.args.before c.requires.word_lt_card_words.1 c.requires.word_lt_card_words.0 (sym c.is_checked.ensures ∙ c.if-is_checked.true) in
    let h = c.requires.checked_words_in_bounds.0 in
    omega arith

pub bounds-others-index : goal.bounds-others-index
bounds-others-index c =
    let l = in-second c.args.word c.args.before c.requires.word_lt_card_words.1 c.requires.word_lt_card_words.0 (sym c.is_checked.ensures ∙ c.if-is_checked.false) in
    let h = c.requires.checked_words_in_bounds.1 in
    omega arith

pub offset_bounds-data-before : goal.offset_bounds-data-before
offset_bounds-data-before c =
    let l = in-first c.args.word c.args.before c.requires.word_lt_card_words.1 c.requires.word_lt_card_words.0 (sym c.is_checked.ensures ∙ c.if-is_checked.true) in
    let h = c.requires.checked_words_in_bounds.0 in
    omega arith

pub overflow_add-result : goal.overflow_add-result
overflow_add-result c =
    let l = in-first c.args.word c.args.before c.requires.word_lt_card_words.1 c.requires.word_lt_card_words.0 (sym c.is_checked.ensures ∙ c.if-is_checked.true) in
    let h = c.requires.checked_words_in_bounds.0 in
    omega arith

pub overflow_sub-index : goal.overflow_sub-index
overflow_sub-index c = counted-lt c.args.word c.args.before c.requires.word_lt_card_words.1

pub returns-then-is_checked : goal.returns-then-is_checked
returns-then-is_checked c =
    let w = c.args.word in
    let e = sym c.is_checked.ensures ∙ c.if-is_checked.true in
    let p = c.requires.word_lt_card_words.1 in
    record {
      value = counted_next _ _ p _ e;
      data_after = stored checked w (get_or c.args.words.now w 0) c.args.«data».now c.args.before _ e p refl;
      others_after = left unchecked w (word_at c.args.image.now w) c.args.others.now (ap not e);
    }

pub returns-else-is_checked : goal.returns-else-is_checked
returns-else-is_checked c =
    let w = c.args.word in
    let e = sym c.is_checked.ensures ∙ c.if-is_checked.false in
    let p = c.requires.word_lt_card_words.1 in
    record {
      value = let n = counted_next _ _ p _ e in omega arith;
      data_after = left checked w (get_or c.args.words.now w 0) c.args.«data».now e;
      others_after = stored unchecked w (word_at c.args.image.now w) c.args.others.now (w - c.args.before) _ (ap not e) (other-index _ _ p) c.word_at.ensures;
    }

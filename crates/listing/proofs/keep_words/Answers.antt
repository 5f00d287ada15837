-- `listing::keep_words` meets its contract: it stores word after word, each in its list. Assumes nothing.
use mathlib.Core.Path.{◌≡◌, sym, ap, ◌∙◌, subst}
use mathlib.Core.List.{List}
use Prim.Native.Nat.{ℕ, ◌+◌}
use native.Mathlib.Nat.{le_of_eq}
use native.Mathlib.Omega.{arith}
use lib.ListN.{get_or}
use Rattle.lists.proofs.Fill as fill
use Rattle.lists.proofs.Fill.{Filling}
use Rattle.util.specs.Words.{word_at}
use Rattle.map.specs.Map.{card_words, checked_words, checked}
use Rattle.listing.specs.Index.{unchecked, unchecked_words, list_index}
use Rattle.listing.proofs.Index.{index-zero, checked-all, unchecked-all}
use Rattle.listing.proofs.Kept.{entry, kept_more}
use Rattle.listing.proofs.keep_words.Goals as goal

pub loop-word-init : goal.loop-word-init
loop-word-init c = record {
  within = omega arith;
  counted = sym (index-zero checked);
  first = subst (Filling _ _ _ _) (sym (index-zero checked)) (fill.start _ _ _);
  second = subst (Filling _ _ _ _) (sym (index-zero unchecked)) (fill.start _ _ _);
}

pub keep_word-before-requires : goal.keep_word-before-requires
keep_word-before-requires c =
    let t = c in
    let l = t.loop-word in
    let p = t.requires in
    record {
      image_bytes_in_bounds = p.image_bytes_in_bounds;
      checked_words_in_bounds = (
        let e = l.invariant.first.long in let h = p.checked_words_in_bounds.0 in omega arith,
        let e = l.invariant.second.long in let h = p.checked_words_in_bounds.1 in omega arith,
      );
      word_lt_card_words = (t.loop-word-test.true, l.invariant.counted);
    }

pub loop-word-preserved : goal.loop-word-preserved
loop-word-preserved c =
    let k = c in
    let t = k in
    let l = t.loop-word in
    let a = t.args in
    record {
      within = let h = t.loop-word-test.true in omega arith;
      counted = k.keep_word-before.ensures.value;
      first =
          subst (λ (d : List ℕ). Filling (entry checked (λ n. get_or a.words.now n 0)) checked_words a.«data».now d (list_index checked (l.word + 1)))
          (sym k.keep_word-before.ensures.data_after)
          (kept_more checked (λ n. get_or a.words.now n 0) checked_words checked-all l.word t.loop-word-test.true l.invariant.first);
      second =
          subst (λ (d : List ℕ). Filling (entry unchecked (word_at a.image.now)) unchecked_words a.others.now d (list_index unchecked (l.word + 1)))
          (sym k.keep_word-before.ensures.others_after)
          (kept_more unchecked (word_at a.image.now) unchecked_words unchecked-all l.word t.loop-word-test.true l.invariant.second);
    }

pub returns : goal.returns
returns c =
    let l = c.loop-word in
    let e : l.word ≡ card_words = let w = l.invariant.within in let h = c.loop-word-test.false in omega arith in
    record {
      data_after = fill.done _ l.invariant.first (le_of_eq (sym (ap (list_index checked) e ∙ checked-all)));
      others_after = fill.done _ l.invariant.second (le_of_eq (sym (ap (list_index unchecked) e ∙ unchecked-all)));
    }

-- `writer::put_words` meets its contract: it writes word after word. Assumes nothing.
use mathlib.Core.Path.{sym, subst}
use mathlib.Core.List.{List}
use Prim.Native.Nat.{ℕ, ◌+◌, ◌*◌}
use native.Mathlib.Omega.{arith}
use Rattle.lists.proofs.Fill as fill
use Rattle.lists.proofs.Fill.{Filling}
use Rattle.map.specs.Map.{image_bytes, checked}
use Rattle.listing.specs.Index.{lists}
use Rattle.writer.specs.Write.{word_from, byte_of, image_from}
use Rattle.listing.proofs.Index.{index-zero}
use Rattle.writer.proofs.Bytes.{word_more}
use Rattle.writer.proofs.put_words.Goals as goal

pub loop-word-init : goal.loop-word-init
loop-word-init c = record { put = fill.start _ _ _; counted = sym (index-zero checked) }

pub loop-word-preserved : goal.loop-word-preserved
loop-word-preserved c =
    let p = c in
    let l = p in
    let a = l.args in
    record {
      put =
          subst (λ (d : List ℕ). Filling (byte_of (word_from (lists a.«data».now a.others.now))) image_bytes a.image.now d ((l.loop-word.word + 1) * 2))
          (sym p.put_word.ensures)
          (word_more (word_from (lists a.«data».now a.others.now)) l.loop-word.word p.word_from.result l.loop-word.invariant.put
          p.loop-word-test.true p.word_from.ensures);
      counted = c.past-before.ensures;
    }

pub returns : goal.returns
unfolding image_from
returns c =
    let l = c.loop-word in
    fill.done _ l.invariant.put (let h = c.loop-word-test.false in omega arith)

pub word_from-requires : goal.word_from-requires
word_from-requires c = record { fit = c.requires.fit; word_lt_card_words = (c.loop-word-test.true, c.loop-word.invariant.counted) }

pub put_word-requires : goal.put_word-requires
put_word-requires c =
    let e = c.loop-word.invariant.put.long in
    let h = c.requires.image_bytes_in_bounds in
    omega arith

pub past-before-requires : goal.past-before-requires
past-before-requires c = (c.loop-word-test.true, c.loop-word.invariant.counted)

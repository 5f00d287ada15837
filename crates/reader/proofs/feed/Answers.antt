-- `reader::feed` meets its contract. In each iteration the bytes kept are those of the piece so far; once no byte is stored any more, the remaining bytes
-- change nothing. Assumes nothing.
use borrow.Author.Tests.{le-leb, lt-leb}
use mathlib.Core.Path.{◌≡◌, refl, sym, ◌∙◌, subst}
use mathlib.Core.Bool.{true, false}
use mathlib.Core.List.{List}
use Prim.Native.Nat.{ℕ, ◌+◌, ◌<◌, ◌≤◌}
use lib.ListN.{length, get_or, take, drop}
use lib.Seq.{take_all}
use Rattle.std.specs.Prelude.{is_err}
use Rattle.map.specs.Map.{card_words, image_bytes}
use Rattle.reader.specs.declared.Kept.{Kept}
use Rattle.reader.specs.Bytes.{Held, held, Keeps, verdict_on, taking, one_more, fed}
use Rattle.reader.proofs.Fold.{one_further, goes_on}
use Rattle.reader.proofs.Taking.{taken, has-damage, no-damage, after-damage, past-card}
use Rattle.reader.proofs.feed.Goals as goal

-- the bytes kept so far, after the first i bytes of a piece
module _ (h : Held) (piece : List ℕ) (i : ℕ) {image : List ℕ} {kept : Kept} (k : Keeps image kept (fed h (take i piece))) where
  stopped : is_err kept.verdict ≡ true → Keeps image kept (fed h piece)
  stopped e = subst (Keeps image kept) (sym (after-damage (drop i piece) _ (has-damage _ (rw k.verdict at e))) ∙ goes_on one_more h piece i) k

  module _ (e : is_err kept.verdict ≡ false) where
    full : image_bytes ≤ kept.count → Keeps image kept (fed h piece)
    full l = subst (Keeps image kept) (sym (past-card (drop i piece) _ (no-damage _ (rw k.verdict at e)) (le-leb _ _ (rw k.count at l))) ∙ goes_on one_more h piece i) k

    next : kept.count < image_bytes → i < length piece → {image' : List ℕ} {kept' : Kept} → Keeps image' kept' (taking image kept.count (get_or piece i 0))
        → Keeps image' kept' (fed h (take (i + 1) piece))
    next l n {image'} {kept'} t =
        subst (Keeps image' kept')
        (taken _ _ (no-damage _ (rw k.verdict at e)) (lt-leb _ _ (rw k.count at l)) ∙ sym (one_further one_more h piece i 0 n))
        (rw (k.image_is, k.count) at t)

  whole : length piece ≤ i → Keeps image kept (fed h piece)
  whole n = rw (take_all i piece n) at k

pub loop-byte-init : goal.loop-byte-init
unfolding verdict_on
loop-byte-init c = record { image_is = refl; count = refl; verdict = refl }

pub returns-then-is_err : goal.returns-then-is_err
returns-then-is_err c =
    let l = c.loop-byte in
    stopped (held c.args.image.now c.args.count card_words) c.args.piece.now l.byte-index l.invariant (sym c.is_err.ensures.value ∙ c.if-is_err.true)

pub returns-then-kept-ge-IMAGE_BYTES : goal.returns-then-kept-ge-IMAGE_BYTES
returns-then-kept-ge-IMAGE_BYTES c =
    let l = c.loop-byte in
    full (held c.args.image.now c.args.count card_words) c.args.piece.now l.byte-index l.invariant (sym c.is_err.ensures.value ∙ c.if-is_err.false)
    c.if-kept-ge-IMAGE_BYTES.true

pub loop-byte-preserved : goal.loop-byte-preserved
loop-byte-preserved c =
    let l = c.loop-byte in
    next (held c.args.image.now c.args.count card_words) c.args.piece.now l.byte-index l.invariant (sym c.is_err.ensures.value ∙ c.if-is_err.false)
    c.if-kept-ge-IMAGE_BYTES.false c.loop-byte-test.true c.one-kept.ensures

pub returns : goal.returns
returns c =
    let l = c.loop-byte in
    whole (held c.args.image.now c.args.count card_words) c.args.piece.now l.byte-index l.invariant c.loop-byte-test.false

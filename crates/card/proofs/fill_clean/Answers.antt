-- `card::fill_clean` meets its contract: in each iteration the words before the current one are filled. Assumes nothing.
use borrow.Author.Rules.{rules}
use mathlib.Core.Path.{◌≡◌, ap, ◌∙◌}
use Prim.Native.Nat.{◌<◌}
use native.Mathlib.Omega.{arith}
use Rattle.card.specs.Inner.{Clean}
use Rattle.card.specs.declared.Read.{Read}
use Rattle.hamming.specs.Word.{data_of}
use Rattle.card.proofs.Data.{was-read}
use Rattle.card.proofs.Stretch.{clean-word, start, one-filled}
use Rattle.card.proofs.fill_clean.Goals as goal

pub loop-i-init : goal.loop-i-init
loop-i-init c = (omega arith, start _ _ _)

pub loop-i-preserved : goal.loop-i-preserved
loop-i-preserved c =
    let s = c in
    let l = c.loop-i in
    let p : Clean s.args.image.now s.args.first s.args.n = s.requires.1 in
    let h : l.i < s.args.n = search rules in
    (omega arith, one-filled _ _ _ l.invariant.1 (ap data_of c.word_by_one_load.ensures ∙ ap (λ (r : Read). r.value) (was-read _ _ (clean-word _ _ _ p l.i h)).1))

pub returns : goal.returns
returns c = let l = c.loop-i in let e : l.i ≡ c.args.n = omega arith in rw e at l.invariant.1

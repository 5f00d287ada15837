-- `card::are_codewords` meets its contract: if `any` stays 0, each word that was tested is a codeword. Assumes nothing.
use borrow.Author.Rules.{rules}
use mathlib.Core.Path.{◌≡◌, ap, ◌∙◌}
use Prim.Native.Nat.{◌<◌}
use native.Mathlib.Omega.{arith}
use borrow.Author.Tests.{eqb-true}
use Rattle.hamming.specs.Word.{not_codeword}
use Rattle.card.proofs.Stretch.{of-bytes, one-looked}
use Rattle.card.proofs.are_codewords.Goals as goal

pub loop-i-init : goal.loop-i-init
loop-i-init c = record { within = omega arith; clean = λ z. record { at = λ k h. absurd (let p : ⊥ = omega arith in p) } }

pub loop-i-preserved : goal.loop-i-preserved
loop-i-preserved c =
    let l = c.loop-i in
    let s = c in
    let h : l.i < s.args.n = search rules in
    let e = of-bytes _ _ _ _ _ s.split_bytes.ensures.high_after s.split_bytes.ensures.low_after (search rules) (search rules) l.i h in
    one-looked _ l.invariant h (c.not_codeword-any.ensures ∙ ap not_codeword e)

pub returns : goal.returns
returns c = λ e.
    let l = c.loop-i in
    let n : l.i ≡ c.args.n = omega arith in
    rw n at (l.invariant.clean (eqb-true l.any 0 e))

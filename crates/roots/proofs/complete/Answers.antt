-- `roots::complete` meets its contract: an entry that is not 0 is the root already. Assumes nothing.
use Rattle.std.proofs.Common.{◌≡◌, refl, ◌∙◌, arith, length-set, get_or-set_other}
use lib.Ieee.{nan}
use Rattle.lists.proofs.Each.{none, one_kept, one_more}
use Rattle.roots.specs.Many.{side}
use Rattle.roots.proofs.Open.{kept-root}
use Rattle.roots.proofs.complete.Goals as goal

pub loop-i-init : goal.loop-i-init
loop-i-init c = (omega arith, refl, none _, λ k h. refl)

pub loop-i-preserved-then-roots-i : goal.loop-i-preserved-then-roots-i
loop-i-preserved-then-roots-i c =
    let l = c.loop-i in
    let a = c in (
      omega arith,
      l.invariant.1,
      one_kept l.invariant.2 (kept-root a.args.x.now l.i _ (rw (l.invariant.3 l.i (omega arith)) (a.requires.1.at l.i (omega arith))) c.if-roots-i.true),
      λ k h. l.invariant.3 k (omega arith),
    )

pub loop-i-preserved : goal.loop-i-preserved
loop-i-preserved c =
    let l = c.loop-i in (
      omega arith,
      simp length-set l.invariant.1,
      one_more l.invariant.2 (omega arith) c.fourth_root.ensures,
      λ k h. get_or-set_other l.roots l.i k c.fourth_root.result nan (λ e. omega arith) ∙ l.invariant.3 k (omega arith),
    )

pub returns : goal.returns
returns c = let e : c.loop-i.i ≡ side = omega arith in rw e at c.loop-i.invariant.2

use Rattle.std.proofs.Common.{rules, refl, length}
use Rattle.std.proofs.lemmas.Option.{slice_get_read}
use Rattle.stream.proofs.Passing.{begun, one-more}
use Rattle.stream.proofs.expected.Expected.all_same.Goals as goal

pub loop-number-init : goal.loop-number-init
loop-number-init g c = begun c.args.self.now.within

pub loop-number-preserved : goal.loop-number-preserved
loop-number-preserved g c = one-more c.loop-number.invariant c.in_ok-same.ensures.passes
    (slice_get_read c.args.numbers.now (length c.args.numbers.now) c.loop-number.number-index c.number-item.result refl (search rules) (search rules))
    c.in_ok-same.ensures.same

use Rattle.std.proofs.Common.{rules, refl, ◌∙◌}
use Rattle.std.proofs.lemmas.Grind.{or_after_shift}
use Rattle.stream.proofs.word_at.Goals as goal

pub returns : goal.returns
returns c = or_after_shift c.from.result 65536 4294967296 c.from-2.result refl (search rules) (search rules) ∙ search rules

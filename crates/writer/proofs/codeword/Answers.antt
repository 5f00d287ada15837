-- `writer::codeword` meets its contract: data that fit 11 bits are not refused. Assumes nothing.
use mathlib.Core.Path.{sym, ◌∙◌}
use Rattle.writer.proofs.Codes.{encode-fits, same_word, no_word}
use Rattle.writer.proofs.codeword.Goals as goal

pub returns-in-Ok : goal.returns-in-Ok
returns-in-Ok c = same_word _ _ (sym c.in-Ok.is ∙ c.encode.ensures ∙ encode-fits _ c.requires)

pub returns-in-Err : goal.returns-in-Err
returns-in-Err c = absurd (no_word _ _ (sym c.in-Err.is ∙ c.encode.ensures ∙ encode-fits _ c.requires))

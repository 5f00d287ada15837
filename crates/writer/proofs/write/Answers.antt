-- `writer::write` meets its contract: the gate decides, and if it passes the words are written. Assumes nothing.
use mathlib.Core.Path.{refl, sym, ◌∙◌}
use Rattle.std.proofs.lemmas.Result.{err_from_is_err_and}
use Rattle.writer.proofs.Opened.{opened}
use Rattle.writer.proofs.write.Goals as goal

pub returns-in_err-write_gate : goal.returns-in_err-write_gate
returns-in_err-write_gate c =
    let p = err_from_is_err_and c.from_residual.result c.from_residual.ensures.1 in
    record { verdict = rw (p.1, p.2) (sym c.in_err-write_gate.was ∙ c.write_gate.ensures); image = rw (p.1) refl }

pub put_words-requires : goal.put_words-requires
put_words-requires c =
    let o = opened _ _ (sym c.write_gate.ensures ∙ c.in_ok-write_gate.was) in
    record { fit = o.0; image_bytes_in_bounds = o.1 }

pub returns : goal.returns
returns c = record { verdict = sym c.in_ok-write_gate.was ∙ c.write_gate.ensures; image = c.put_words.ensures }

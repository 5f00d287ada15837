-- `scrub::scrub` meets its contract: the gate decides, and if it passes the image is scrubbed. Assumes nothing.
use Rattle.std.proofs.Common.{refl, sym, ◌∙◌}
use Rattle.std.proofs.lemmas.Result.{err_from_is_err_and}
use Rattle.scrub.specs.Scrub.{lent}
use Rattle.scrub.proofs.Opened.{opened}
use Rattle.scrub.proofs.scrub.Goals as goal

pub returns-in_err-gate : goal.returns-in_err-gate
returns-in_err-gate c =
    let p = err_from_is_err_and c.from_residual.result c.from_residual.ensures.1 in
    let e = sym c.gate.ensures ∙ c.in_err-gate.was in
    record { result = rw (p.1, p.2, e) refl; left = rw e refl }

pub scrub_words-requires : goal.scrub_words-requires
scrub_words-requires c =
    let a = c.args in
    let l = opened (lent a.image.now a.changed.now a.damaged.now) (sym c.gate.ensures ∙ c.in_ok-gate.was) in
    record { image_bytes_in_bounds = l.image; checked_words_in_bounds = (l.changed, l.damaged) }

pub returns : goal.returns
returns c =
    let e = sym c.gate.ensures ∙ c.in_ok-gate.was in
    record { result = rw (e, c.scrub_words.ensures.value) refl; left = rw e c.scrub_words.ensures.damaged_after }

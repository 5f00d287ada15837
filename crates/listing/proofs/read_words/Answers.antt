-- `listing::read_words` meets its contract: the gate decides, and if it passes the decoded words are stored. Assumes nothing.
use borrow.Author.Rules.{rules}
use mathlib.Core.Path.{refl, sym, ap, ap₂, ◌∙◌}
use Prim.Native.Nat.{ℕ}
use Rattle.std.proofs.lemmas.Result.{err_from_is_err_and}
use Rattle.lists.specs.Written.{filled}
use Rattle.map.specs.Map.{checked_words, checked}
use Rattle.card.specs.Inner.{at}
use Rattle.card.proofs.Data.{words_are}
use Rattle.listing.specs.Index.{lists, listed_word}
use Rattle.listing.specs.Read.{lists_of}
use Rattle.listing.proofs.Opened.{opened}
use Rattle.listing.proofs.read_words.Goals as goal

pub returns-in_err-read_gate : goal.returns-in_err-read_gate
returns-in_err-read_gate c =
    let p = err_from_is_err_and c.from_residual.result c.from_residual.ensures.1 in
    let e = c.in_err-read_gate.was in
    record { verdict = rw (p.1, p.2) (sym e ∙ c.read_gate.ensures.value); lent = rw (p.1) refl }

pub keep_words-requires : goal.keep_words-requires
keep_words-requires c =
    let s = opened _ _ _ (sym c.read_gate.ensures.value ∙ c.in_ok-read_gate.was) in
    record { image_bytes_in_bounds = s.image-long; checked_words_in_bounds = (s.first-long, s.second-long) }

pub returns : goal.returns
unfolding lists_of
returns c =
    let a = c.args in
    let e = c.in_ok-read_gate.was in
    record {
      verdict = sym e ∙ c.read_gate.ensures.value;
      lent =
          ap₂ lists
          (c.keep_words.ensures.data_after ∙ ap (λ (w : ℕ → ℕ). filled (λ n. w (listed_word checked n)) checked_words a.«data».now) (ap at (rw e at c.read_gate.ensures.words_after) ∙ words_are a.image.now _ (search rules)))
          c.keep_words.ensures.others_after;
    }

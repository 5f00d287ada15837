-- `scrub::mend_word` meets its contract, for a word that is damaged, mended or neither. Assumes nothing.
use Rattle.std.proofs.Common.{◌≡◌, ℕ, ◌<◌, Bool, false, List, Some, sym, ap, ◌∙◌, subst}
use Rattle.hamming.specs.Word.{data_values}
use Rattle.card.specs.Card.{data_at, damaged_at, stray_at}
use Rattle.card.specs.Inner.{read_of}
use Rattle.card.specs.declared.Read.{Read}
use Rattle.card.proofs.Data.{data-lt, was-read, was-damaged}
use Rattle.scrub.proofs.Mended.{damaged-stays, code_stays, is-mended, is_damaged, was-mended, is-sound, stays, becomes}
use Rattle.scrub.proofs.mend_word.Goals as goal

-- the result of reading a word that is not damaged
module _ (image : List ℕ) (word : ℕ) (r : Read) (e : Some r ≡ read_of image word) where
  sound : damaged_at image word ≡ false
  sound = (was-read image word e).0

  value : r.value ≡ data_at image word
  value = ap (λ (r : Read). r.value) (was-read image word e).1

  stray : {b : Bool} → r.stray ≡ b → stray_at image word ≡ b
  stray f = sym (ap (λ (r : Read). r.stray) (was-read image word e).1) ∙ f

pub returns-in_default : goal.returns-in_default
returns-in_default c =
    let i = c.args.image.now in
    let w = c.args.word in
    let d = was-damaged i w (sym c.in_default.is ∙ c.read_word.ensures) in
    record { value = is_damaged i w d; image_after = stays i w (damaged-stays i w d) }

pub codeword-code-requires : goal.codeword-code-requires
codeword-code-requires c =
    let i = c.args.image.now in
    let w = c.args.word in
    subst (λ (n : ℕ). n < data_values) (sym (value i w c.in-Some.read (sym c.in-Some.is ∙ c.read_word.ensures))) (data-lt i w)

pub returns-then-read : goal.returns-then-read
returns-then-read c =
    let i = c.args.image.now in
    let w = c.args.word in
    let r = c.in-Some.read in
    let e = sym c.in-Some.is ∙ c.read_word.ensures in
    let m = is-mended i w (stray i w r e c.if-read.true) (sound i w r e) in
    record { value = was-mended i w m; image_after = c.put_word.ensures ∙ becomes i w m c.codeword-code.ensures (value i w r e) }

pub returns : goal.returns
returns c =
    let i = c.args.image.now in
    let w = c.args.word in
    let r = c.in-Some.read in
    let e = sym c.in-Some.is ∙ c.read_word.ensures in
    let m = code_stays i w (stray i w r e c.if-read.false) in
    record { value = is-sound i w (sound i w r e) m; image_after = stays i w m }

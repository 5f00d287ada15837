-- `card::decode` meets its contract. In each iteration, no word before the current one is damaged, their data are stored, and those that are not
-- codewords are counted. Assumes nothing.
use Rattle.std.proofs.Common.{◌≡◌, ℕ, ◌<◌, Bool, List, Option, None, length, refl, sym, ap, ◌∙◌, arith}
use Rattle.lists.specs.Written.{filled}
use Rattle.lists.proofs.First.{found, further, ended}
use Rattle.lists.proofs.Written.{length-written}
use Rattle.lists.proofs.Fill as fill
use Rattle.util.specs.Found.{found_below}
use Rattle.map.specs.Map.{card_words}
use Rattle.card.specs.Card.{data_at, damaged_at, first_damaged, mending_below}
use Rattle.card.specs.Inner.{read_of, counted, Clean}
use Rattle.card.specs.declared.Mending.{Mending}
use Rattle.card.specs.declared.Read.{Read}
use Rattle.card.proofs.Data.{was-read, was-damaged}
use Rattle.card.proofs.Reading.{none-counted, one-counted, count-within}
use Rattle.card.proofs.Stretch.{none-damaged, none-mended}
use Rattle.card.proofs.decode.Goals as goal
use Rattle.card.proofs.decode.Goals.{then-word-eq-WORDS, else-word-eq-WORDS+in_default+in_default-read_word}
use Rattle.card.proofs.decode.Invariants.{Decoding}

pub loop-word-init : goal.loop-word-init
unfolding first_damaged
loop-word-init c = record { none = refl; stored = fill.start _ _ _; mended = c.no_mending-mending.ensures ∙ sym (none-counted _) }

pub loop-word-preserved-in-Some : goal.loop-word-preserved-in-Some
loop-word-preserved-in-Some c =
    let l = c.loop-word in
    let p : Clean c.args.image.now c.loop-word.word c.in-Some.clean = c.in-Some.ensures.1 in
    let e = c.fill_clean.ensures.on _ l.invariant.stored.list in
    record {
      none = sym (none-damaged _ _ _ p) ∙ l.invariant.none;
      stored = record { within = p.within; long = ap length e ∙ length-written _ _ _ _; list = e };
      mended = l.invariant.mended ∙ none-mended _ _ _ p;
    }

on : {image words₀ words : List ℕ} {mending : Mending} {word : ℕ} → Decoding image words₀ words mending word → (word ≡ card_words → ⊥) → word < card_words
on d n = let w = d.stored.within in omega arith

-- the loop stops at the end of the card or at a damaged word: that is the first one
module _ {image words₀ words : List ℕ} {mending : Mending} {word : ℕ} (d : Decoding image words₀ words mending word) where
  at_end : word ≡ card_words → word ≡ first_damaged image
  at_end e = e ∙ sym (ended (damaged_at image) card_words) ∙ (rw e at d.none)

  at_damaged : (word ≡ card_words → ⊥) → ◌≡◌ {A = Option Read} None (read_of image word) → word ≡ first_damaged image
  at_damaged n e = sym (found (damaged_at image) word card_words (on d n) (was-damaged image word e)) ∙ d.none

pub with-mending-requires : goal.with-mending-requires
with-mending-requires c =
    let h = on c.loop-word.invariant c.if-word-eq-WORDS.false in
    let n = count-within c.args.image.now c.loop-word.word in
    let e = ap (λ (m : Mending). m.count) c.loop-word.invariant.mended in
    omega arith

pub loop-word-preserved : goal.loop-word-preserved
loop-word-preserved c =
    let l = c.loop-word in
    let h = on c.loop-word.invariant c.if-word-eq-WORDS.false in
    let image = c.args.image.now in
    let r = was-read image c.loop-word.word (sym c.in-Some-read_word.is ∙ c.read_word.ensures) in
    record {
      none = sym (further (damaged_at image) c.loop-word.word card_words h r.0) ∙ l.invariant.none;
      stored = fill.one_more _ l.invariant.stored h (ap (λ (r : Read). r.value) r.1);
      mended =
          c.with-mending.ensures ∙ ap (λ (m : Mending). counted m c.loop-word.word c.in-Some-read_word.read.stray) l.invariant.mended
          ∙ ap (λ (b : Bool). counted (mending_below image c.loop-word.word) c.loop-word.word b) (ap (λ (r : Read). r.stray) r.1)
          ∙ one-counted image c.loop-word.word;
    }

pub returns-clause-damaged_value : goal.returns-clause-damaged_value
returns-clause-damaged_value c =
    let is : c.if-word-eq-WORDS.place ≡ first_damaged c.args.image.now =
    elim c.if-word-eq-WORDS.branch [
      | then-word-eq-WORDS w ↦ w.place-is ∙ sym w.if-word-eq-WORDS.true ∙ at_end c.loop-word.invariant w.if-word-eq-WORDS.true
      | else-word-eq-WORDS+in_default+in_default-read_word w ↦ w.place-is ∙ at_damaged c.loop-word.invariant w.if-word-eq-WORDS.false (sym w.in_default-read_word.is ∙ w.read_word.ensures)
    ] in
    c.found_at.ensures ∙ ap (found_below card_words) is

pub returns-clause-mending_value : goal.returns-clause-mending_value
returns-clause-mending_value c =
    let is : c.loop-word.word ≡ first_damaged c.args.image.now = elim c.if-word-eq-WORDS.branch [ then-word-eq-WORDS w ↦ at_end c.loop-word.invariant w.if-word-eq-WORDS.true | else-word-eq-WORDS+in_default+in_default-read_word w ↦ at_damaged c.loop-word.invariant w.if-word-eq-WORDS.false (sym w.in_default-read_word.is ∙ w.read_word.ensures) ] in
    c.loop-word.invariant.mended ∙ ap (mending_below c.args.image.now) is

pub returns-clause-words_after : goal.returns-clause-words_after
returns-clause-words_after c =
    let is : c.loop-word.word ≡ first_damaged c.args.image.now = elim c.if-word-eq-WORDS.branch [ then-word-eq-WORDS w ↦ at_end c.loop-word.invariant w.if-word-eq-WORDS.true | else-word-eq-WORDS+in_default+in_default-read_word w ↦ at_damaged c.loop-word.invariant w.if-word-eq-WORDS.false (sym w.in_default-read_word.is ∙ w.read_word.ensures) ] in
    c.loop-word.invariant.stored.list ∙ ap (λ (n : ℕ). filled (data_at c.args.image.now) n c.args.words.now) is

-- `scrub::scrub_words` meets its contract: it mends and lists word after word. Assumes nothing.
use mathlib.Core.Bool.{Bool}
use Prim.Native.Nat.{◌+◌}
use mathlib.Core.Path.{◌≡◌, refl, sym, ap, ap₂, ◌∙◌}
use mathlib.Core.List.{List}
use Prim.Native.Nat.{ℕ}
use native.Mathlib.Omega.{arith}
use lib.ListN.{length}
use Rattle.map.specs.Map.{card_words}
use Rattle.card.specs.Card.{damaged_at}
use Rattle.scrub.specs.Scrub.{mended_at, scrubbed, lent, left_of, counts_of}
use Rattle.scrub.specs.Inner.{word_mended}
use Rattle.scrub.proofs.Mended.{same-damaged, same-mended, mended-checked, damaged-checked, found-sound, found-mended, found-damaged}
use Rattle.scrub.proofs.Step as step
use Rattle.scrub.proofs.Step.{up_to}
use Rattle.scrub.proofs.Noted as noted
use Rattle.scrub.proofs.Noted.{Noted, room}
use Rattle.scrub.proofs.scrub_words.Goals as goal
use Rattle.scrub.proofs.scrub_words.Goals.{in-Sound, in-Mended, in-Damaged}

pub loop-word-init : goal.loop-word-init
loop-word-init c = record { within = omega arith; bytes = step.start _; first = noted.start _ _; second = noted.start _ _ }

-- the word of the current iteration
module _ (image now : List ℕ) (word : ℕ) (bytes : now ≡ up_to image word) where
  long : length now ≡ length image
  long = ap length bytes ∙ step.as_long image word

  mended : {b : Bool} → mended_at now word ≡ b → mended_at image word ≡ b
  mended e =
      sym (ap (λ (i : List ℕ). mended_at i word) bytes ∙ same-mended (up_to image word) image word (step.not_yet image word)) ∙ e

  damage : {b : Bool} → damaged_at now word ≡ b → damaged_at image word ≡ b
  damage e =
      sym (ap (λ (i : List ℕ). damaged_at i word) bytes ∙ same-damaged (up_to image word) image word (step.not_yet image word)) ∙ e

pub mend_word-requires : goal.mend_word-requires
mend_word-requires c =
    let l = long c.args.image.now _ _ c.loop-word.invariant.bytes in
    let h = c.loop-word-test.true in
    let p = c.requires.image_bytes_in_bounds in
    omega arith

pub note-mended-requires : goal.note-mended-requires
note-mended-requires c =
    let i = c.args.image.now in
    let n = c.loop-word.invariant.first in
    let e = n.stored.long in
    let k = n.counted in
    let r = room (mended_at i) (mended-checked i) c.loop-word.word c.loop-word-test.true in
    let p = c.requires.checked_words_in_bounds.0 in
    (omega arith, c.loop-word-test.true)

pub note-broken-requires : goal.note-broken-requires
note-broken-requires c =
    let i = c.args.image.now in
    let n = c.loop-word.invariant.second in
    let e = n.stored.long in
    let k = n.counted in
    let r = room (damaged_at i) (damaged-checked i) c.loop-word.word c.loop-word-test.true in
    let p = c.requires.checked_words_in_bounds.1 in
    (omega arith, c.loop-word-test.true)

-- the same counts and lists by other names
moved : {test : ℕ → Bool} {list₀ list other : List ℕ} {count n word : ℕ} → other ≡ list → n ≡ count → Noted test list₀ list count word → Noted test list₀ other n word
moved e f n = rw (e, f) n

pub loop-word-preserved : goal.loop-word-preserved
loop-word-preserved c =
    let image = c.args.image.now in
    let now = c.loop-word.image in
    let word = c.loop-word.word in
    let on = c.loop-word-test.true in
    let i = c.loop-word.invariant in
    let lists : Noted (mended_at image) c.args.changed.now c.match-mend_word.changed c.match-mend_word.mended (word + 1)
    × Noted (damaged_at image) c.args.damaged.now c.match-mend_word.damaged c.match-mend_word.broken (word + 1) =
    elim c.match-mend_word.branch [
      | in-Sound w ↦
          let f = found-sound now word (sym w.in-Sound.is ∙ c.mend_word.ensures.value) in (
            moved w.changed-is w.mended-is (noted.left-out (mended_at image) i.first on (mended image now word i.bytes f.0)),
            moved w.damaged-is w.broken-is (noted.left-out (damaged_at image) i.second on (damage image now word i.bytes f.1)),
          )
      | in-Mended w ↦
          let f = found-mended now word (sym w.in-Mended.is ∙ c.mend_word.ensures.value) in (
            moved w.changed-is w.mended-is (noted.listed (mended_at image) i.first on (mended image now word i.bytes f.0) w.note-mended.ensures.value w.note-mended.ensures.list_after),
            moved w.damaged-is w.broken-is (noted.left-out (damaged_at image) i.second on (damage image now word i.bytes f.1)),
          )
      | in-Damaged w ↦
          let f = found-damaged now word (sym w.in-Damaged.is ∙ c.mend_word.ensures.value) in (
            moved w.changed-is w.mended-is (noted.left-out (mended_at image) i.first on (mended image now word i.bytes f.0)),
            moved w.damaged-is w.broken-is (noted.listed (damaged_at image) i.second on (damage image now word i.bytes f.1) w.note-broken.ensures.value w.note-broken.ensures.list_after),
          )
    ] in
    record {
      within = omega arith;
      bytes = c.mend_word.ensures.image_after ∙ ap (λ (l : List ℕ). word_mended l word) i.bytes ∙ step.one_more image word;
      first = lists.0;
      second = lists.1;
    }

all_left : {i c d x y z : List ℕ} → i ≡ x → c ≡ y → d ≡ z → lent i c d ≡ lent x y z
all_left e f g = rw (e, f, g) refl

pub returns : goal.returns
unfolding left_of counts_of scrubbed
returns c =
    let l = c.loop-word in
    let e : l.word ≡ card_words = let w = l.invariant.within in let h = c.loop-word-test.false in omega arith in
    let f = noted.done _ l.invariant.first e in
    let s = noted.done _ l.invariant.second e in
    record {
      value = ap₂ (λ (m b : ℕ). record { changed = m; damaged = b }) f.0 s.0;
      damaged_after = all_left (l.invariant.bytes ∙ ap (up_to _) e) f.1 s.1;
    }

-- The state of a word depends only on its bits; and which words are mended. Assumes nothing.
use Prim.Native.Nat.{ℕ, ◌+◌, ◌*◌, ◌/◌, ◌%◌}
use mathlib.Core.Path.{◌≡◌, refl, sym, ap, ap₂, ◌∙◌}
use mathlib.Core.Bool.{Bool, true, false, not, ◌&&◌, true≢false}
use mathlib.Core.List.{List}
use native.Mathlib.Omega.{arith}
use lib.ListN.{set}
use Rattle.lists.specs.Pick.{pick}
use Rattle.util.specs.Words.{word_at}
use Rattle.hamming.specs.Word.{Said, says, is_said, said_data, codeword, decoded, encoded}
use Rattle.map.specs.Map.{checked}
use Rattle.card.specs.Card.{read_at, data_at, damaged_at, stray_at}
use Rattle.scrub.specs.Scrub.{mended_at, code_at}
use Rattle.scrub.specs.declared.Found.TheVariants.{Sound, Mended, Damaged}
use Rattle.scrub.specs.Inner.{found_at, word_mended}

-- ---- two images with the same word

module _ (image other : List ℕ) (word : ℕ) (e : word_at image word ≡ word_at other word) where
  pub same_read : read_at image word ≡ read_at other word
  unfolding read_at
  same_read = ap (λ (w : ℕ). pick (checked word) (decoded w) (says 0)) e

  pub same-damaged : damaged_at image word ≡ damaged_at other word
  unfolding damaged_at
  same-damaged = ap (λ (s : Said). not (is_said s)) same_read

  pub same-stray : stray_at image word ≡ stray_at other word
  unfolding stray_at
  same-stray = ap (λ (w : ℕ). checked word && not (codeword w)) e

  pub same-mended : mended_at image word ≡ mended_at other word
  unfolding mended_at
  same-mended = cc (same-stray, same-damaged)

  pub same_code : code_at image word ≡ code_at other word
  unfolding code_at data_at
  same_code = ap (λ (s : Said). encoded (said_data s)) same_read

-- ---- which words are mended

and-not : (a b : Bool) → b ≡ true → (a && not b) ≡ false
and-not true b e = ap not e
and-not false b e = refl

both : (a b : Bool) → (a && b) ≡ true → (a ≡ true) × (b ≡ true)
both true b e = (refl, e)
both false b e = absurd (true≢false (sym e))

not-not : (b : Bool) → not b ≡ true → b ≡ false
not-not true e = absurd (true≢false (sym e))
not-not false e = refl

module _ (image : List ℕ) (word : ℕ) where
  pub code_stays : stray_at image word ≡ false → mended_at image word ≡ false
  unfolding mended_at
  code_stays e = ap (λ (s : Bool). s && not (damaged_at image word)) e

  pub damaged-stays : damaged_at image word ≡ true → mended_at image word ≡ false
  unfolding mended_at
  damaged-stays e = and-not (stray_at image word) (damaged_at image word) e

  pub is-mended : stray_at image word ≡ true → damaged_at image word ≡ false → mended_at image word ≡ true
  unfolding mended_at
  is-mended e f = ap₂ (λ (s d : Bool). s && not d) e f

  pub mended-only : mended_at image word ≡ true → (stray_at image word ≡ true) × (damaged_at image word ≡ false)
  unfolding mended_at
  mended-only e = let p = both (stray_at image word) (not (damaged_at image word)) e in (p.0, not-not (damaged_at image word) p.1)

  -- mended words and damaged words are checked
  pub mended-checked : mended_at image word ≡ true → checked word ≡ true
  unfolding stray_at
  mended-checked e = (both (checked word) (not (codeword (word_at image word))) (mended-only e).0).0

  by-test : (b : Bool) → not (is_said (pick b (decoded (word_at image word)) (says 0))) ≡ true → b ≡ true
  by-test true e = refl
  by-test false e = e

  pub damaged-checked : damaged_at image word ≡ true → checked word ≡ true
  unfolding damaged_at read_at
  damaged-checked e = by-test (checked word) e

  -- ---- the same facts, in the form of the code

  pub is_damaged : damaged_at image word ≡ true → Damaged ≡ found_at image word
  is_damaged e = rw e refl

  pub was-mended : mended_at image word ≡ true → Mended ≡ found_at image word
  was-mended e = rw (e, (mended-only e).1) refl

  pub is-sound : damaged_at image word ≡ false → mended_at image word ≡ false → Sound ≡ found_at image word
  is-sound e f = rw (e, f) refl

  -- and back

  by-sound : (d m : Bool) → Sound ≡ pick d Damaged (pick m Mended Sound) → (m ≡ false) × (d ≡ false)
  by-sound true m e = absurd (let z : ◌≡◌ {A = ℕ} 0 1 = cc in omega arith)
  by-sound false true e = absurd (let z : ◌≡◌ {A = ℕ} 0 1 = cc in omega arith)
  by-sound false false e = (refl, refl)

  by-mended : (d m : Bool) → Mended ≡ pick d Damaged (pick m Mended Sound) → (m ≡ true) × (d ≡ false)
  by-mended true m e = absurd (let z : ◌≡◌ {A = ℕ} 0 1 = cc in omega arith)
  by-mended false true e = (refl, refl)
  by-mended false false e = absurd (let z : ◌≡◌ {A = ℕ} 0 1 = cc in omega arith)

  by-damaged : (d m : Bool) → Damaged ≡ pick d Damaged (pick m Mended Sound) → d ≡ true
  by-damaged true m e = refl
  by-damaged false true e = absurd (let z : ◌≡◌ {A = ℕ} 0 1 = cc in omega arith)
  by-damaged false false e = absurd (let z : ◌≡◌ {A = ℕ} 0 1 = cc in omega arith)

  pub found-sound : Sound ≡ found_at image word → (mended_at image word ≡ false) × (damaged_at image word ≡ false)
  found-sound e = by-sound (damaged_at image word) (mended_at image word) e

  pub found-mended : Mended ≡ found_at image word → (mended_at image word ≡ true) × (damaged_at image word ≡ false)
  found-mended e = by-mended (damaged_at image word) (mended_at image word) e

  pub found-damaged : Damaged ≡ found_at image word → (mended_at image word ≡ false) × (damaged_at image word ≡ true)
  found-damaged e = let d = by-damaged (damaged_at image word) (mended_at image word) e in (damaged-stays d, d)

  pub stays : mended_at image word ≡ false → image ≡ word_mended image word
  stays e = rw e refl

  pub becomes : {v d : ℕ} → mended_at image word ≡ true → v ≡ encoded d → d ≡ data_at image word
      → set (set image (word * 2) (v / 256)) (word * 2 + 1) (v % 256) ≡ word_mended image word
  unfolding code_at
  becomes e p q =
      ap (λ (x : ℕ). set (set image (word * 2) (x / 256)) (word * 2 + 1) (x % 256)) (p ∙ ap encoded q)
      ∙ ap (λ (b : Bool). pick b (set (set image (word * 2) (code_at image word / 256)) (word * 2 + 1) (code_at image word % 256)) image) (sym e)

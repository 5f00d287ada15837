-- A scrub changes exactly those checked words of which one flip makes a codeword, and they become that codeword. Assumes nothing.
use Prim.Native.Nat.{ℕ, ◌≤◌, ◌<◌}
use mathlib.Core.Path.{◌≡◌, refl, sym, ap, ◌∙◌}
use mathlib.Core.Bool.{Bool, true, false, not, ◌&&◌, true≢false}
use mathlib.Core.List.{List}
use native.Mathlib.Omega.{arith}
use lib.ListN.{length}
use Rattle.util.specs.Words.{word_at}
use Rattle.std.specs.Prelude.{Result, Ok, Err}
use Rattle.refusal.specs.declared.Refusal.{Refusal}
use Rattle.hamming.specs.Word.{says, damaged, data_of, encoded, codeword, flip, decoded}
use Rattle.hamming.specs.Answer.{check_answer, said_of}
use Rattle.hamming.specs.declared.Checked.{Checked}
use Rattle.hamming.specs.declared.Checked.TheVariants.{Clean, Mended}
use Rattle.hamming.proofs.Answers.{check-says}
use Rattle.hamming.proofs.Laws.{code_of}
use Rattle.hamming.proofs.Exactly as exactly
use Rattle.map.specs.Map.{image_bytes, checked}
use Rattle.card.specs.Card.{read_at, data_at, stray_at}
use Rattle.card.proofs.Data.{data-lt, not-damaged, data_is, read-checked, says-data}
use Rattle.writer.proofs.Codes.{encoded-clean}
use Rattle.scrub.specs.Scrub.{mended_at, code_at, scrubbed}
use Rattle.scrub.proofs.Mended.{is-mended, mended-only, mended-checked}
use Rattle.scrub.proofs.After.{mended-after}

module _ (image : List ℕ) (word : ℕ) where
  abbrev bits : ℕ
  bits = word_at image word

  -- a checked word that is one flip from a codeword is changed, and becomes that codeword
  module _ (e : checked word ≡ true) (k : ℕ) (l : k < 16) (f : codeword (flip k bits) ≡ true) where
    reads : read_at image word ≡ says (data_of (flip k bits))
    reads = read-checked image word e ∙ sym (check-says bits) ∙ ap said_of (exactly.mended-is bits k l f)

    stray : stray_at image word ≡ true
    unfolding stray_at
    stray = ap (λ (b : Bool). b && not (codeword bits)) e ∙ ap not (exactly.not_code bits k l f)

    pub changes : mended_at image word ≡ true
    changes = is-mended image word stray (not-damaged image word _ reads)

    pub code_is : code_at image word ≡ flip k bits
    unfolding code_at
    code_is = ap encoded (sym (data_is image word _ reads)) ∙ sym (code_of (flip k bits) f)

  -- only such a word is changed: there is a bit whose flip makes it a codeword, and it becomes that codeword
  pub record Flipped : Type 0 where
    pub bit : ℕ
    pub within : bit < 16
    pub code : codeword (flip bit bits) ≡ true
    pub is : code_at image word ≡ flip bit bits

  module _ (m : mended_at image word ≡ true) where
    decodes : decoded bits ≡ says (data_at image word)
    decodes = sym (read-checked image word (mended-checked image word m)) ∙ says-data image word (mended-only image word m).1

    pub no_code : codeword bits ≡ false
    unfolding stray_at
    no_code = go (checked word) (codeword bits) (mended-only image word m).0
      where
        go : (a b : Bool) → (a && not b) ≡ true → b ≡ false
        go true true e = absurd (true≢false (sym e))
        go true false e = refl
        go false b e = absurd (true≢false (sym e))

    by_answer : (a : Result Checked Refusal) → check_answer bits ≡ a → Flipped
    by_answer (Ok (Clean d)) e = absurd (true≢false (sym (exactly.clean-only bits d e) ∙ no_code))
    by_answer (Ok (Mended d k)) e =
        let o = exactly.mended-only bits d k e in
        record { bit = k; within = o.within; code = o.code; is = code_is (mended-checked image word m) k o.within o.code }
    by_answer (Err r) e =
        absurd (let f : damaged ≡ says (data_at image word) = sym (ap said_of e) ∙ check-says bits ∙ decodes in let z : ◌≡◌ {A = ℕ} 0 1 = cc in let q : ⊥ = omega arith in q)

    pub only-flipped : Flipped
    only-flipped = by_answer (check_answer bits) refl

    -- a changed word differs from before: it was not a codeword and is one now. Any other word is as it was (After: `kept-after`).
    pub differs : image_bytes ≤ length image → word_at (scrubbed image) word ≡ bits → ⊥
    unfolding code_at
    differs l e =
        true≢false (sym (ap codeword (mended-after image l word m) ∙ encoded-clean (data_at image word) (data-lt image word)) ∙ ap codeword e ∙ no_code)

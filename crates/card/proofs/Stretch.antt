-- A block of words that are all codewords: none is damaged or counted as mended, and the data of each are its low bits. Then the steps of the loops
-- that test such words and store their data. Assumes nothing.
use Prim.Native.Nat.{ℕ, zero, suc, ◌+◌, ◌-◌, ◌≤◌, ◌<◌}
use mathlib.Core.Path.{◌≡◌, refl, sym, ap, ap₂, ◌∙◌, subst}
use mathlib.Core.Bool.{Bool, true, false}
use mathlib.Core.List.{List}
use native.Mathlib.Decide.{dec_le}
use native.Mathlib.Nat.{add-zero, add-suc, add_assoc, le_refl, div-add-mod'}
use native.Mathlib.Omega.{arith}
use lib.Bits.{bit_or}
use lib.Dec.{T, ltb}
use lib.ListN.{get_or, set, length}
use borrow.Author.Tests.{le-ltb, lt-ltb}
use Rattle.std.specs.Prelude.{Some}
use Rattle.lists.specs.Pick.{pick}
use Rattle.lists.specs.First.{first_from}
use Rattle.lists.specs.Written.{filled}
use Rattle.lists.proofs.Written.{stored, written_at}
use Rattle.lists.proofs.First.{further}
use Rattle.lists.proofs.Every.{at}
use Rattle.util.specs.Words.{big_endian, word_at}
use Rattle.util.proofs.Or.{left-none, right-none}
use Rattle.hamming.specs.Word.{data_of, codeword, not_codeword}
use Rattle.hamming.proofs.Exactly.{clean_is}
use Rattle.map.specs.Map.{card_words, checked, role_of, spans}
use Rattle.card.specs.Card.{damaged_at, mending_below}
use Rattle.card.specs.Inner.{read_of, counted, high_at, low_at, Codewords, Clean, FilledOn}
use Rattle.card.specs.declared.Read.{Read}
use Rattle.card.proofs.Data.{was-read}
use Rattle.card.proofs.Reading.{clean, one-counted}

-- all words of the card from 24 on are checked
right : ℕ → Bool
right w = pick (ltb w 24) true (pick (ltb w card_words) (checked w) true)

true_of : (b : Bool) → T b → b ≡ true
true_of true t = refl
true_of false t = absurd t

test : (w : ℕ) → w < 1024 → T (right w)
unfolding right checked role_of spans
test w h = at right 10 tt w h

checked-from : (w : ℕ) → 24 ≤ w → w < card_words → checked w ≡ true
unfolding right
checked-from w a b = true_of (checked w) (rw (le-ltb w 24 a, lt-ltb w card_words b) at (test w (omega arith)))

module _ (image : List ℕ) (first n : ℕ) (p : Clean image first n) where
  pub clean-word : (i : ℕ) → i < n → Some (record { value = data_of (word_at image (first + i)); stray = false }) ≡ read_of image (first + i)
  clean-word i h =
      let a = p.from (omega arith) in
      let b = p.within in
      clean image (first + i) (checked-from (first + i) (omega arith) (omega arith)) _ (clean_is _ (p.codewords.at i h))

  damaged-on : (i : ℕ) → i ≤ n
      → first_from (damaged_at image) first (card_words - first) ≡ first_from (damaged_at image) (first + i) (card_words - (first + i))
  damaged-on zero h = rw (add-zero first) refl
  damaged-on (suc i) h =
      let b = p.within in
      let e : first + i + 1 ≡ first + suc i = omega (arith, add-suc first i) in
      damaged-on i (omega arith)
      ∙ further (damaged_at image) (first + i) card_words (omega arith) ((was-read image (first + i) (clean-word i (omega arith))).0)
      ∙ ap (λ (k : ℕ). first_from (damaged_at image) k (card_words - k)) e

  pub none-damaged : first_from (damaged_at image) first (card_words - first) ≡ first_from (damaged_at image) (first + n) (card_words - (first + n))
  none-damaged = damaged-on n (le_refl n)

  mended-on : (i : ℕ) → i ≤ n → mending_below image first ≡ mending_below image (first + i)
  mended-on zero h = rw (add-zero first) refl
  mended-on (suc i) h =
      let e : first + i + 1 ≡ first + suc i = omega (arith, add-suc first i) in
      mended-on i (omega arith)
      ∙ ap (λ (b : Bool). counted (mending_below image (first + i)) (first + i) b) (ap (λ (r : Read). r.stray) (was-read image (first + i) (clean-word i (omega arith))).1)
      ∙ one-counted image (first + i) ∙ ap (mending_below image) e

  pub none-mended : mending_below image first ≡ mending_below image (first + n)
  none-mended = mended-on n (le_refl n)

-- ---- testing words

-- the invariant of the test: i of n words were tested, and if `any` is 0 they are codewords
pub record Looked (image : List ℕ) (first n any i : ℕ) : Type 0 where
  pub within : i ≤ n
  pub clean : any ≡ 0 → Codewords image first i

code_of : (b : Bool) → pick {A = ℕ} b 0 1 ≡ 0 → b ≡ true
code_of true e = refl
code_of false e = absurd (let p : ⊥ = omega arith in p)

-- a word is the big-endian word of its bytes in the two arrays
pub of-bytes : (image : List ℕ) (first n : ℕ) (h l : List ℕ) {high low : List ℕ} → high ≡ filled (high_at image first) n h → low ≡ filled (low_at image first) n l → n ≤ length h
    → n ≤ length l → (i : ℕ) → i < n → big_endian (get_or high i 0) (get_or low i 0) ≡ word_at image (first + i)
of-bytes image first n h l e f p q i r =
    ap₂ (λ (x y : List ℕ). big_endian (get_or x i 0) (get_or y i 0)) e f
    ∙ ap₂ big_endian (written_at (λ (k : ℕ). true) (high_at image first) n h i 0 p r) (written_at (λ (k : ℕ). true) (low_at image first) n l i 0 q r)
    ∙ div-add-mod' (word_at image (first + i)) 256

pub one-looked : {image : List ℕ} {first n any i : ℕ} (b : ℕ) → Looked image first n any i → i < n → b ≡ not_codeword (word_at image (first + i))
    → Looked image first n (bit_or any b) (i + 1)
one-looked {image = image} {first = first} {any = any} {i = i} b r h e = record {
  within = omega arith;
  clean = λ z. record {
    at = λ k l. elim (dec_le i k) [
      | yes g ↦
          let q : i ≡ k = omega arith in
          subst (λ (j : ℕ). codeword (word_at image (first + j)) ≡ true) q (code_of (codeword (word_at image (first + i))) (sym e ∙ right-none any b z))
      | no g ↦ (r.clean (left-none any b z)).at k (omega arith)
    ];
  };
}

-- ---- storing data

module _ (f : ℕ → ℕ) (w : ℕ) where
  pub start : (d : List ℕ) → FilledOn f w 0 d d
  start d = record { on = λ d₀ e. e ∙ ap (λ (n : ℕ). filled f n d₀) (sym (add-zero w)) }

  pub one-filled : {n : ℕ} {d d' : List ℕ} (v : ℕ) → FilledOn f w n d d' → v ≡ f (w + n) → FilledOn f w (n + 1) d (set d' (w + n) v)
  one-filled {n = n} {d' = d'} v r e = record {
    on = λ d₀ h.
        ap₂ (λ (l : List ℕ) (x : ℕ). set l (w + n) x) (r.on d₀ h) e ∙ sym (stored (λ (k : ℕ). true) f (w + n) d₀ refl)
        ∙ ap (λ (k : ℕ). filled f k d₀) (add_assoc w n 1);
  }

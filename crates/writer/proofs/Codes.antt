-- Encoding data that fit 11 bits, and what codewords decode to. Assumes nothing.
use Prim.Native.Nat.{ℕ, ◌%◌, ◌<◌}
use mathlib.Core.Path.{◌≡◌, refl, sym, ap, ◌∙◌}
use mathlib.Core.Bool.{Bool, true}
use native.Mathlib.Omega.{arith}
use borrow.Author.Tests.{lt-ltb, eq-eqb, eqb-true}
use Rattle.lists.specs.Pick.{pick}
use Rattle.refusal.specs.declared.Refusal.{Refusal}
use Rattle.hamming.specs.Word.{says, data_values, with_four, encoded, data_of, codeword, place, mended, decoded}
use Rattle.hamming.specs.Answer.{encode_answer}
use Rattle.std.specs.Prelude.{Result, Ok, Err}

pub encode-fits : (d : ℕ) → d < data_values → encode_answer d ≡ Ok (encoded d)
unfolding encode_answer
encode-fits d h = rw (lt-ltb d data_values h) refl

pub same_word : (v w : ℕ) → ◌≡◌ {A = Result ℕ Refusal} (Ok v) (Ok w) → v ≡ w
same_word v w e = cc

pub no_word : (f : Refusal) (w : ℕ) → ◌≡◌ {A = Result ℕ Refusal} (Err f) (Ok w) → ⊥
no_word f w e = let z : ◌≡◌ {A = ℕ} 0 1 = cc in omega arith

-- the data bits of an encoded word are its data
data-of : (d : ℕ) → d < data_values → encoded d % data_values ≡ d
unfolding encoded with_four
data-of d h = omega arith

pub encoded-clean : (d : ℕ) → d < data_values → codeword (encoded d) ≡ true
unfolding codeword
encoded-clean d h = eq-eqb (encoded d) (encoded (data_of (encoded d))) (ap encoded (sym (data-of d h)))

-- a codeword that decodes to d is the encoding of d
pub clean-says : (w d : ℕ) → codeword w ≡ true → decoded w ≡ says d → w ≡ encoded d
unfolding decoded codeword
clean-says w d c e =
    let f : says (data_of w) ≡ says d = ap (λ (b : Bool). pick b (says (data_of w)) (mended w (place w))) (sym c) ∙ e in
    let q : data_of w ≡ d = cc in
    eqb-true w (encoded (data_of w)) c ∙ ap encoded q

-- Of the 65,536 words 34,816 are accepted and 30,720 are not. The proof counts syndromes, one bit of the word at a time.
-- Assumes nothing.
use mathlib.Core.Path.{◌≡◌, refl, sym, ap, ap₂, ◌∙◌, subst}
use mathlib.Core.Bool.{Bool, not, ◌||◌}
use mathlib.Core.List.{List, [], ◌∷◌}
use Prim.Native.Nat.{ℕ, zero, suc, ◌+◌, ◌*◌, ◌^◌, ◌<◌, ◌≤◌}
use native.Mathlib.Nat.{le_of_suc-le, pow-suc, one-mul, zero-add, le_of_suc-le-suc, not-suc-le-zero}
use native.Mathlib.Omega.{arith}
use lib.Bits.{bit_xor, xor_shifted, xor_zero_r, xor_lt}
use lib.ListN.{get_or}
use lib.Count.{ones_in}
use lib.Dec.{eqb, leb, lit<, lit≤}
use Rattle.lists.specs.Pick.{pick}
use Rattle.lists.specs.Count.{count_below}
use Rattle.lists.proofs.Count.{count_add, count_same, count-not}
use Rattle.hamming.specs.Word.{parity, accepted}
use Rattle.hamming.specs.Inner.{syndrome_of}
use Rattle.hamming.proofs.Xor.{xor_assoc}
use Rattle.hamming.proofs.Codes.{syn-xor, syn-lt}
use Rattle.hamming.proofs.Laws.{col, syn-bit, accepted-by}

syn-zero : syndrome_of 0 ≡ 0
unfolding syndrome_of parity ones_in
syn-zero = refl

-- the syndromes of single bits, bit k - 1 first
cols : ℕ → List ℕ
cols zero = []
cols (suc k) = col k ∷ cols k

-- the number of subsets of these columns whose sum with s passes the test
tally : (ℕ → Bool) → List ℕ → ℕ → ℕ
tally g [] s = pick (g s) 1 0
tally g (c ∷ cs) s = tally g cs s + tally g cs (bit_xor s c)

counted : (g : ℕ → Bool) (k s : ℕ) → k ≤ 16 → count_below (λ w. g (bit_xor s (syndrome_of w))) (2 ^ k) ≡ tally g (cols k) s
unfolding count_below cols tally
counted g zero s hk = zero-add (pick (g (bit_xor s (syndrome_of 0))) 1 0) ∙ ap (λ (x : ℕ). pick (g x) 1 0) (ap (bit_xor s) syn-zero ∙ xor_zero_r s)
counted g (suc k) s hk =
    ap (count_below (λ w. g (bit_xor s (syndrome_of w)))) (pow-suc 2 k ∙ dbl (2 ^ k))
    ∙ count_add (λ w. g (bit_xor s (syndrome_of w))) (2 ^ k) (2 ^ k)
    ∙ ap₂ (λ (x y : ℕ). x + y) (counted g k s (le_of_suc-le hk))
    (count_same (λ r. g (bit_xor s (syndrome_of (2 ^ k + r)))) (λ r. g (bit_xor (bit_xor s (col k)) (syndrome_of r))) (2 ^ k) (λ r h. ap g (shifted r h))
    ∙ counted g k (bit_xor s (col k)) (le_of_suc-le hk))
  where
    dbl : (n : ℕ) → n * 2 ≡ n + n
    dbl n = omega arith

    shifted : (r : ℕ) → r < 2 ^ k → bit_xor s (syndrome_of (2 ^ k + r)) ≡ bit_xor (bit_xor s (col k)) (syndrome_of r)
    shifted r h =
        ap (λ (x : ℕ). bit_xor s (syndrome_of x)) (ap (λ (x : ℕ). x + r) (sym (one-mul (2 ^ k))) ∙ sym (xor_shifted 1 k r h) ∙ ap (λ (x : ℕ). bit_xor x r) (one-mul (2 ^ k)))
        ∙ ap (λ (x : ℕ). bit_xor s x) (syn-xor (2 ^ k) r ∙ ap (λ (x : ℕ). bit_xor x (syndrome_of r)) (syn-bit k hk)) ∙ sym (xor_assoc s (col k) (syndrome_of r))

-- ---- the same count for all 32 syndromes at once, one column at a time

row : (ℕ → ℕ) → ℕ → List ℕ
row f zero = []
row f (suc n) = f 0 ∷ row (λ k. f (suc k)) n

row_at : (f : ℕ → ℕ) (n k : ℕ) → k < n → get_or (row f n) k 0 ≡ f k
unfolding row
row_at f zero k h = absurd (not-suc-le-zero h)
row_at f (suc n) zero h = refl
row_at f (suc n) (suc k) h = row_at (λ k. f (suc k)) n k (le_of_suc-le-suc h)

rows : (ℕ → Bool) → List ℕ → List ℕ
rows g [] = row (λ s. pick (g s) 1 0) 32
rows g (c ∷ cs) = let h = rows g cs in row (λ s. get_or h s 0 + get_or h (bit_xor s c) 0) 32

rows_are : (g : ℕ → Bool) (k s : ℕ) → k ≤ 16 → s < 32 → get_or (rows g (cols k)) s 0 ≡ tally g (cols k) s
unfolding rows cols tally
rows_are g zero s hk h = row_at (λ s. pick (g s) 1 0) 32 s h
rows_are g (suc k) s hk h =
    row_at (λ s. get_or (rows g (cols k)) s 0 + get_or (rows g (cols k)) (bit_xor s (col k)) 0) 32 s h
    ∙ ap₂ (λ (x y : ℕ). x + y) (rows_are g k s (le_of_suc-le hk) h)
    (rows_are g k (bit_xor s (col k)) (le_of_suc-le hk) (xor_lt 5 s (col k) h (subst (λ (n : ℕ). n < 32) (syn-bit k hk) (syn-lt (2 ^ k)))))

good : ℕ → Bool
good s = eqb s 0 || leb 16 s

number : get_or (rows good (cols 16)) 0 0 ≡ 34816
unfolding rows row good cols
number = refl

pub accepted-count : count_below accepted 65536 ≡ 34816
unfolding good
accepted-count = count_same accepted (λ w. good (bit_xor 0 (syndrome_of w))) 65536 (λ r h. accepted-by r h) ∙ counted good 16 0 (lit≤ tt) ∙ sym (rows_are good 16 0 (lit≤ tt) (lit< tt)) ∙ number

pub damaged-count : count_below (λ w. not (accepted w)) 65536 ≡ 30720
damaged-count = let a = accepted-count in let n = count-not accepted 65536 in omega arith

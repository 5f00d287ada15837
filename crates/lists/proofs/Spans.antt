-- A number within the k-th span of an ascending map has that span's element; and what a `match` knows of a number when it reaches its ranges.
-- Assumes nothing.
use Prim.Native.Nat.{ℕ, zero, suc, ◌+◌, ◌≤◌, ◌<◌}
use mathlib.Core.Path.{◌≡◌, refl, ◌∙◌}
use mathlib.Core.Bool.{Bool, true, false, ◌&&◌, ◌||◌}
use mathlib.Core.List.{List, [], ◌∷◌}
use native.Mathlib.Nat.{le_trans, le_refl, add-zero, add-suc, suc-add}
use native.Mathlib.Numerals.{add-one}
use native.Mathlib.Omega.{arith}
use lib.Dec.{T, leb, eqb, leb→le}
use lib.ListN.{length}
use borrow.Author.Tests.{lt-ltb, le-ltb, eqb-true}
use Rattle.lists.specs.Spans.{Span, upto, lookup}

both_left : (a b : Bool) → T (a && b) → T a
both_left true b p = tt
both_left false b p = p

both_right : (a b : Bool) → T (a && b) → T b
both_right true b p = p
both_right false b p = absurd p

-- what a `match` knows when it reaches its ranges: w is none of the single numbers ks, listed last first
abbrev pub Rest : List ℕ → ℕ → Type 0
Rest [] w = Unit
Rest (k ∷ ks) w = Rest ks w × (w ≡ k → ⊥)

-- whether a is in the list
abbrev pub has : List ℕ → ℕ → Bool
has [] a = false
has (k ∷ ks) a = eqb a k || has ks a

-- whether the n numbers from a on are all in the list
abbrev pub has_all : List ℕ → ℕ → ℕ → Bool
has_all ks a zero = true
has_all ks a (suc n) = has ks a && has_all ks (suc a) n

either : (k a w : ℕ) (t u : Bool) → eqb a k ≡ t → (w ≡ k → ⊥) → (T u → w ≡ a → ⊥) → T (t || u) → w ≡ a → ⊥
either k a w true u q n f t e = n (e ∙ eqb-true a k q)
either k a w false u q n f t e = f t e

free : (ks : List ℕ) (a w : ℕ) → T (has ks a) → Rest ks w → w ≡ a → ⊥
free [] a w t r e = absurd t
free (k ∷ ks) a w t r e = either k a w (eqb a k) (has ks a) refl r.1 (λ u. free ks a w u r.0) t e

-- if w is at least a and is none of the n numbers from a on, w is at least a + n
pub climb : (ks : List ℕ) (a n w : ℕ) → T (has_all ks a n) → Rest ks w → a ≤ w → a + n ≤ w
climb ks a zero w t r h = rw add-zero h
climb ks a (suc n) w t r h =
    let f : w ≡ a → ⊥ = free ks a w (both_left (has ks a) _ t) r in
    let g : suc a ≤ w = omega (arith, add-one a) in
    let k : suc a + n ≤ w = climb ks (suc a) n w (both_right (has ks a) _ t) r g in
    omega (arith, add-suc a n, suc-add a n)

module _ {A : Type 0} (z : A) where
  -- where the k-th span starts, in spans that start at lo
  abbrev pub start : ℕ → List (Span A) → ℕ → ℕ
  start lo es zero = lo
  start lo [] (suc k) = lo
  start lo (upto n a ∷ es) (suc k) = start n es k

  -- where the k-th span ends
  abbrev pub end : List (Span A) → ℕ → ℕ
  end [] k = 0
  end (upto n a ∷ es) zero = n
  end (upto n a ∷ es) (suc k) = end es k

  -- the element of the k-th span
  abbrev pub what : List (Span A) → ℕ → A
  what [] k = z
  what (upto n a ∷ es) zero = a
  what (upto n a ∷ es) (suc k) = what es k

  -- whether the spans' ends ascend, from lo on
  abbrev pub rising : ℕ → List (Span A) → Bool
  rising lo [] = true
  rising lo (upto n a ∷ es) = leb lo n && rising n es

  low : (lo : ℕ) (es : List (Span A)) (k : ℕ) → T (rising lo es) → lo ≤ start lo es k
  low lo es zero p = le_refl lo
  low lo [] (suc k) p = le_refl lo
  low lo (upto n a ∷ es) (suc k) p = le_trans (leb→le lo n (both_left (leb lo n) _ p)) (low n es k (both_right (leb lo n) _ p))

  pub within : (lo : ℕ) (es : List (Span A)) (k w : ℕ) → T (rising lo es) → start lo es k ≤ w → w < end es k → what es k ≡ lookup z es w
  within lo [] k w p a b = refl
  within lo (upto n x ∷ es) zero w p a b = rw (lt-ltb w n b)
  within lo (upto n x ∷ es) (suc k) w p a b =
      let q : T (rising n es) = both_right (leb lo n) _ p in
      rw (le-ltb w n (le_trans (low n es k q) a)) (within n es k w q a b)

  pub past : (lo : ℕ) (es : List (Span A)) (w : ℕ) → T (rising lo es) → start lo es (length es) ≤ w → z ≡ lookup z es w
  past lo [] w p a = refl
  past lo (upto n x ∷ es) w p a =
      let q : T (rising n es) = both_right (leb lo n) _ p in
      rw (le-ltb w n (le_trans (low n es (length es) q) a)) (past n es w q a)

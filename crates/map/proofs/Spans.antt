-- A word within the k-th span of an ascending map has that span's role. Assumes nothing.
use Prim.Native.Nat.{ℕ, zero, suc, ◌+◌, ◌≤◌, ◌<◌}
use mathlib.Core.Path.{◌≡◌, refl, sym, ap}
use mathlib.Core.Bool.{Bool, true, false, ◌&&◌}
use mathlib.Core.List.{List, [], ◌∷◌}
use native.Mathlib.Nat.{le_trans, le_refl}
use Rattle.std.specs.Prelude.{Option, None}
use Rattle.map.specs.declared.Field.{Field}
use lib.ListN.{length}
use lib.Dec.{T, leb, leb→le}
use borrow.Author.Tests.{lt-ltb, le-ltb}
use Rattle.lists.proofs.Spans.{Rest, has_all, climb}
use Rattle.map.specs.Map.{card_words, Span, upto, lookup, spans, role_of, is_checked, checked}

-- where the k-th span starts, in a map that starts at lo
abbrev pub start : ℕ → List Span → ℕ → ℕ
start lo es zero = lo
start lo [] (suc k) = lo
start lo (upto n r ∷ es) (suc k) = start n es k

-- where the k-th span ends
abbrev pub end : List Span → ℕ → ℕ
end [] k = 0
end (upto n r ∷ es) zero = n
end (upto n r ∷ es) (suc k) = end es k

-- the role of the k-th span
abbrev pub what : List Span → ℕ → Option Field
what [] k = None
what (upto n r ∷ es) zero = r
what (upto n r ∷ es) (suc k) = what es k

pub both_left : (a b : Bool) → T (a && b) → T a
both_left true b p = tt
both_left false b p = p

pub both_right : (a b : Bool) → T (a && b) → T b
both_right true b p = p
both_right false b p = absurd p

abbrev pub rising : ℕ → List Span → Bool
rising lo [] = true
rising lo (upto n r ∷ es) = leb lo n && rising n es

low : (lo : ℕ) (es : List Span) (k : ℕ) → T (rising lo es) → lo ≤ start lo es k
low lo es zero p = le_refl lo
low lo [] (suc k) p = le_refl lo
low lo (upto n r ∷ es) (suc k) p = le_trans (leb→le lo n (both_left (leb lo n) _ p)) (low n es k (both_right (leb lo n) _ p))

pub at : (lo : ℕ) (es : List Span) (k w : ℕ) → T (rising lo es) → start lo es k ≤ w → w < end es k → what es k ≡ lookup es w
at lo [] k w p a b = refl
at lo (upto n r ∷ es) zero w p a b = rw (lt-ltb w n b)
at lo (upto n r ∷ es) (suc k) w p a b =
    let q : T (rising n es) = both_right (leb lo n) _ p in
    rw (le-ltb w n (le_trans (low n es k q) a)) (at n es k w q a b)

pub past : (lo : ℕ) (es : List Span) (w : ℕ) → T (rising lo es) → start lo es (length es) ≤ w → None ≡ lookup es w
past lo [] w p a = refl
past lo (upto n r ∷ es) w p a =
    let q : T (rising n es) = both_right (leb lo n) _ p in
    rw (le-ltb w n (le_trans (low n es (length es) q) a)) (past n es w q a)

pub within : (k : ℕ) {w : ℕ} → start 0 spans k ≤ w → w < end spans k → what spans k ≡ role_of w
unfolding spans role_of
within k {w} a b = at 0 spans k w tt a b

pub beyond : {w : ℕ} → 832 ≤ w → None ≡ role_of w
unfolding spans role_of
beyond {w} a = past 0 spans w tt a

pub unchecked-past : (w : ℕ) → card_words ≤ w → checked w ≡ false
unfolding checked
unchecked-past w h = ap is_checked (sym (beyond h))

-- the single numbers of the `match` in `role_of`, last first
abbrev pub keys : List ℕ
keys = 63 ∷ 62 ∷ 61 ∷ 60 ∷ 59 ∷ 58 ∷ 52 ∷ 51 ∷ 50 ∷ 49 ∷ 46 ∷ 45 ∷ 44 ∷ 43 ∷ 42 ∷ 39 ∷ 38 ∷ 35 ∷ 34 ∷ 24 ∷ 23 ∷ 22 ∷ 21 ∷ 16 ∷ []

-- for a span that is a range of the `match`: the arm knows that w is at least a, and the n numbers from a up to the span are single numbers
pub after : (k a n : ℕ) {w : ℕ} → T (has_all keys a n) → start 0 spans k ≤ a + n → Rest keys w → a ≤ w → w < end spans k → what spans k ≡ role_of w
after k a n {w} t e r h b = within k (le_trans e (climb keys a n w t r h)) b

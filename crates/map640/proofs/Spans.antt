-- A word within the k-th span of the map has that span's field. Assumes nothing.
use Prim.Native.Nat.{ℕ, ◌+◌, ◌≤◌, ◌<◌}
use mathlib.Core.Path.{◌≡◌}
use mathlib.Core.List.{List, [], ◌∷◌}
use native.Mathlib.Nat.{le_trans}
use lib.Dec.{T}
use Rattle.lists.proofs.Spans as laws
use Rattle.map640.specs.declared.Field.TheVariants.{NotRead}
use Rattle.map640.specs.Map.{spans, field_of}

pub within : (k : ℕ) {w : ℕ} → laws.start NotRead 0 spans k ≤ w → w < laws.end NotRead spans k → laws.what NotRead spans k ≡ field_of w
unfolding field_of
within k {w} a b = laws.within NotRead 0 spans k w tt a b

pub beyond : {w : ℕ} → 832 ≤ w → NotRead ≡ field_of w
unfolding field_of
beyond {w} a = laws.past NotRead 0 spans w tt a

-- the single numbers of the `match` in `field_of`, last first
abbrev pub keys : List ℕ
keys = 63 ∷ 60 ∷ 59 ∷ 58 ∷ 57 ∷ 56 ∷ 53 ∷ 52 ∷ 51 ∷ 50 ∷ 49 ∷ 48 ∷ 33 ∷ 32 ∷ 17 ∷ 16 ∷ []

-- for a span that is a range of the `match`: the arm knows that w is at least a, and the n numbers from a up to the span are single numbers
pub after : (k a n : ℕ) {w : ℕ} → T (laws.has_all keys a n) → laws.start NotRead 0 spans k ≤ a + n → laws.Rest keys w → a ≤ w → w < laws.end NotRead spans k → laws.what NotRead spans k ≡ field_of w
after k a n {w} t e r h b = within k (le_trans e (laws.climb keys a n w t r h)) b

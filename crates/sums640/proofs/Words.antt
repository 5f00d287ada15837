-- The field, by the map, of the word that a shared number is read from: rows, columns or averages, exactly for the indices of the list that have rows,
-- columns or averages. By computed tests over all indices. Assumes nothing.
use Prim.Native.Nat.{ℕ, ◌<◌, ◌≤◌}
use mathlib.Core.Path.{◌≡◌, refl, sym, ap, subst}
use mathlib.Core.Bool.{Bool, true, not}
use mathlib.Core.List.{List, [], ◌∷◌}
use native.Mathlib.Omega.{arith}
use lib.Dec.{T, eqb, leb, ltb, leb→le, ltb→lt}
use mir.Val.{has_key}
use denote.Enum.Declared.{tag_of}
use borrow.Author.Tests.{eq-eqb, lt-ltb}
use Rattle.lists.specs.Pick.{pick}
use Rattle.lists.proofs.Every.{both, both_left, both_right, every, at}
use Rattle.map640.specs.contracts.Field.{the_type}
use Rattle.map640.specs.declared.Field.{Field}
use Rattle.map640.specs.declared.Field.TheVariants.{NotRead, OffsetScales, OffsetAverage, OffsetRow, OffsetColumn, AlphaScales, AlphaAverage, AlphaRow, AlphaColumn, Gain, VPtat25, Ptat, VDd, KV, Access, KTaAverage, Scales, AlphaCp, OffsetCp, KCp, KSTa, KSTo, Corners, Pixel}
use Rattle.map640.specs.Map.{field_of}
use Rattle.sums640.specs.Inner.{shared_count, shared_word}

-- the number of a field among the fields
abbrev tag : Field → ℕ
tag = tag_of the_type

abbrev tag_at : ℕ → ℕ
tag_at k = tag (field_of (shared_word k))

-- whether k is from lo up to, not including, hi, if its word is of field number t
abbrev spanned : ℕ → ℕ → ℕ → ℕ → Bool
spanned t lo hi k = pick (eqb (tag_at k) t) (both (leb lo k) (ltb k hi)) true

between : (field : Field) (lo hi : ℕ) → T (every (spanned (tag field) lo hi) 7 0) → {k : ℕ} → k < shared_count → field ≡ field_of (shared_word k) → (lo ≤ k) × (k < hi)
between field lo hi t {k} h e =
    let s : T (spanned (tag field) lo hi k) = at (spanned (tag field) lo hi) 7 t k (omega arith) in
    let b : T (both (leb lo k) (ltb k hi)) = subst (λ (b : Bool). T (pick b (both (leb lo k) (ltb k hi)) true)) (eq-eqb (tag_at k) (tag field) (ap tag (sym e))) s in
    (leb→le lo k (both_left (leb lo k) (ltb k hi) b), ltb→lt k hi (both_right (leb lo k) (ltb k hi) b))

module _ {k : ℕ} (h : k < shared_count) where
  pub offset-rows : OffsetRow ≡ field_of (shared_word k) → (0 ≤ k) × (k < 24)
  unfolding field_of shared_word
  offset-rows = between OffsetRow 0 24 tt h

  pub offset-columns : OffsetColumn ≡ field_of (shared_word k) → (24 ≤ k) × (k < 56)
  unfolding field_of shared_word
  offset-columns = between OffsetColumn 24 56 tt h

  pub alpha-rows : AlphaRow ≡ field_of (shared_word k) → (56 ≤ k) × (k < 80)
  unfolding field_of shared_word
  alpha-rows = between AlphaRow 56 80 tt h

  pub alpha-columns : AlphaColumn ≡ field_of (shared_word k) → (80 ≤ k) × (k < 112)
  unfolding field_of shared_word
  alpha-columns = between AlphaColumn 80 112 tt h

  pub averages : KTaAverage ≡ field_of (shared_word k) → (112 ≤ k) × (k < 116)
  unfolding field_of shared_word
  averages = between KTaAverage 112 116 tt h

-- the numbers of all other fields, of which no shared number is read
abbrev others : List ℕ
others = 0 ∷ 1 ∷ 2 ∷ 5 ∷ 6 ∷ 9 ∷ 10 ∷ 11 ∷ 12 ∷ 13 ∷ 14 ∷ 16 ∷ 17 ∷ 18 ∷ 19 ∷ 20 ∷ 21 ∷ 22 ∷ 23 ∷ []

abbrev known : ℕ → Bool
known k = pick (ltb k shared_count) (not (has_key others (tag_at k))) true

all_known : (k : ℕ) → k < 128 → T (known k)
unfolding field_of shared_word
all_known = at known 7 tt

-- a field whose number is not among them is one of the five
five : (field : Field) → T (not (has_key others (tag field))) → (field ≡ OffsetRow → ⊥) → (field ≡ OffsetColumn → ⊥) → (field ≡ AlphaRow → ⊥) → (field ≡ AlphaColumn → ⊥) → (field ≡ KTaAverage → ⊥) → ⊥
five NotRead t a b c d e = t
five OffsetScales t a b c d e = t
five OffsetAverage t a b c d e = t
five OffsetRow t a b c d e = a refl
five OffsetColumn t a b c d e = b refl
five AlphaScales t a b c d e = t
five AlphaAverage t a b c d e = t
five AlphaRow t a b c d e = c refl
five AlphaColumn t a b c d e = d refl
five Gain t a b c d e = t
five VPtat25 t a b c d e = t
five Ptat t a b c d e = t
five VDd t a b c d e = t
five KV t a b c d e = t
five Access t a b c d e = t
five KTaAverage t a b c d e = e refl
five Scales t a b c d e = t
five AlphaCp t a b c d e = t
five OffsetCp t a b c d e = t
five KCp t a b c d e = t
five KSTa t a b c d e = t
five KSTo t a b c d e = t
five Corners t a b c d e = t
five Pixel t a b c d e = t

pub no_other : {k : ℕ} (field : Field) → k < shared_count → field ≡ field_of (shared_word k) → (field ≡ OffsetRow → ⊥) → (field ≡ OffsetColumn → ⊥) → (field ≡ AlphaRow → ⊥) → (field ≡ AlphaColumn → ⊥) → (field ≡ KTaAverage → ⊥) → ⊥
no_other {k} field h e =
    five field
    (subst (λ (f : Field). T (not (has_key others (tag f)))) (sym e)
    (subst (λ (b : Bool). T (pick b (not (has_key others (tag_at k))) true)) (lt-ltb k shared_count h) (all_known k (omega arith))))

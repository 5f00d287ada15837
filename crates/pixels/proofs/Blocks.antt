-- Pixels in blocks: what the mask does not ask for, what has been written up to a block, and a list whose blocks are taken in turn. Assumes nothing.
use Prim.Native.Nat.{ℕ, zero, suc, ◌+◌, ◌*◌, ◌/◌, ◌%◌, ◌≤◌, ◌<◌}
use mathlib.Core.Path.{◌≡◌, refl, sym, ap, ap₂, subst, ◌∙◌}
use mathlib.Core.Bool.{false}
use mathlib.Core.List.{List}
use native.Mathlib.Decide.{dec_le}
use native.Mathlib.Nat.{mod-eq_of_lt, div-add-mod'}
use native.Mathlib.Numerals.{add-one}
use native.Mathlib.Omega.{arith}
use lib.ListN.{get_or, length, replicate, get_or-replicate}
use lib.Ieee.{Float, nan, binary32, of_bits, to_bits}
use Rattle.std.specs.Prelude.{Option}
use Rattle.lists.specs.Written.{written}
use Rattle.lists.specs.Count.{count_below}
use Rattle.lists.specs.Each.{Each}
use Rattle.lists.proofs.Written.{written-past}
use Rattle.roots.specs.Many.{side}
use Rattle.root.specs.Root.{celsius}
use Rattle.formulas.specs.declared.CommonIrData.{CommonIrData}
use Rattle.formulas.specs.declared.CommonToData.{CommonToData}
use Rattle.formulas.specs.Pixel.{decided}
use Rattle.pixels.specs.declared.Goal.{Goal}
use Rattle.pixels.specs.declared.Goal.TheVariants.{Infrared, Temperature, Ranged}
use Rattle.pixels.specs.declared.Source.{Source}
use Rattle.pixels.specs.declared.Source.TheVariants.{Pixels, Destination}
use Rattle.pixels.specs.Pixels.{touched, held, answer_bits, into, lost_of}
use Rattle.pixels.specs.Inner.{Lent, Table, raw_of, in_turn, number_at, Readable, ReadableFor, lifted_at, lifted_ranged_at, bits_by, WorkableFor, v}
use Rattle.pixels.specs.Blocks.{is, IsNat, Unasked, Agree, lost_flag, Flagged, Block}
use Rattle.pixels.proofs.Steps.{start, kept}

-- ---- that the mask asks for none

pub none-asked : (mask : List ℕ) (base : ℕ) → Unasked mask base 0
none-asked mask base = record { none = λ i h. absurd (let p : ⊥ = omega arith in p) }

pub nor-this : {mask : List ℕ} {base n : ℕ} → Unasked mask base n → touched mask (base + n) ≡ false → Unasked mask base (n + 1)
nor-this {mask} {base} {n} u e = record {
  none = λ i h. elim (dec_le n i) [
    | yes g ↦ let q : n ≡ i = omega arith in subst (λ (j : ℕ). touched mask (base + j) ≡ false) q e
    | no g ↦ u.none i (omega arith)
  ];
}

-- then nothing is written
passed : (mask : List ℕ) (val : ℕ → ℕ) (base n : ℕ) (d : List ℕ) → Unasked mask base n → Block mask val base n d d 0
passed mask val base zero d u = start mask val d
passed mask val base (suc n) d u =
    rw (add-one n) at (kept mask val (passed mask val base n d (record { none = λ i h. u.none i (omega arith) })) (u.none n (omega arith)))

-- ---- what has been written of the first n pixels

pub record Upto (mask : List ℕ) (bits : ℕ → ℕ) (d₀ : List ℕ) (n : ℕ) (d : List ℕ) (lost : ℕ) : Type 0 where
  pub long : length d ≡ length d₀
  pub few : lost ≤ n
  pub list : d ≡ into n mask bits d₀
  pub count : lost ≡ lost_of n mask bits

module _ {mask : List ℕ} (bits : ℕ → ℕ) where
  pub none_yet : (d : List ℕ) → Upto mask bits d 0 d 0
  unfolding written count_below
  none_yet d = record { long = refl; few = omega arith; list = refl; count = refl }

  module _ {base n : ℕ} {d₀ d : List ℕ} {lost : ℕ} (u : Upto mask bits d₀ base d lost) where
    pub with-block : {val : ℕ → ℕ} {d' : List ℕ} {more : ℕ} → Block mask val base n d d' more → Agree mask val base n bits → Upto mask bits d₀ (base + n) d' (lost + more)
    with-block {more = m} b a = record {
      long = b.long ∙ u.long;
      few = let f = u.few in let g = b.few in omega arith;
      list = b.onto bits d₀ a u.list;
      count = ap (λ (k : ℕ). k + m) u.count ∙ sym (b.more bits a);
    }

    pub with_none : Unasked mask base n → Upto mask bits d₀ (base + n) d lost
    with_none a =
        let b = passed mask (λ (i : ℕ). bits (base + i)) base n d a in
        record {
          long = u.long;
          few = let f = u.few in omega arith;
          list = b.onto bits d₀ (λ i h t. refl) u.list;
          count = u.count ∙ let m = b.more bits (λ i h t. refl) in omega arith;
        }

-- ---- a block's numbers

-- what stands from base on is what stood there at first
stands : (s : Source) (l : Lent) (mask : List ℕ) (bits : ℕ → ℕ) (d₀ d : List ℕ) (base k : ℕ) → base ≤ k → d ≡ into base mask bits d₀ → number_at s l d k ≡ number_at s l d₀ k
stands (Pixels c b) l mask bits d₀ d base k h e = refl
stands Destination l mask bits d₀ d base k h e = ap (of_bits binary32) (ap (λ (x : List ℕ). get_or x k 0) e ∙ written-past (touched mask) bits base d₀ k 0 h)

-- so the bits of a block are the frame's
pub block-agrees : (goal : Goal) (s : Source) (l : Lent) (t : Table) (mask : List ℕ) (d₀ d : List ℕ) (base : ℕ) {numbers : List Float} {bits flags : List ℕ}
    → d ≡ into base mask (λ (k : ℕ). bits_by goal t (number_at s l d₀ k) k) d₀
    → Each (is (λ (i : ℕ). number_at s l d (base + i))) nan numbers side
    → Flagged (λ (i : ℕ). bits_by goal t (v numbers i) (base + i)) bits flags side
    → Agree mask (λ (i : ℕ). get_or bits i 0) base side (λ (k : ℕ). bits_by goal t (number_at s l d₀ k) k)
block-agrees goal s l t mask d₀ d base {numbers = numbers} e n f i h a =
    let k = base + i in
    let same : v numbers i ≡ number_at s l d₀ k = n.at i h ∙ stands s l mask _ d₀ d base k (omega arith) e in
    sym (f.bits_are.at i h ∙ ap (λ (x : Float). bits_by goal t x k) same)

-- beside each entry stands whether it is the pattern
pub flags_of : {f : ℕ → ℕ} {bits flags : List ℕ} {n : ℕ} → Flagged f bits flags n → Each (IsNat (λ (i : ℕ). lost_flag (get_or bits i 0))) 0 flags n
flags_of f = record { at = λ i h. f.flags_are.at i h ∙ ap lost_flag (sym (f.bits_are.at i h)) }

-- ---- blocks in turn

pub in-turn : (d : List Float) (blocks b i : ℕ) → i < side → in_turn d blocks (b * side + i) ≡ get_or d (b % blocks * side + i) nan
unfolding in_turn
in-turn d blocks b i h =
    let q : (b * side + i) / side ≡ b = omega arith in
    let r : (b * side + i) % side ≡ i = omega arith in
    rw (q, r)

-- a list that has a block for each, and a block of one number
pub in-turn-whole : (d : List Float) (blocks k : ℕ) → k < blocks * side → in_turn d blocks k ≡ get_or d k nan
unfolding in_turn
in-turn-whole d blocks k h =
    let q : k / side < blocks = omega arith in
    ap (λ (b : ℕ). get_or d (b * side + k % side) nan) (mod-eq_of_lt q) ∙ ap (λ (j : ℕ). get_or d j nan) (div-add-mod' k side)

pub in-turn-same : (x : Float) (k : ℕ) → in_turn (replicate side x) 1 k ≡ x
unfolding in_turn
in-turn-same x k =
    let q : k / side % 1 * side + k % side < side = omega arith in
    get_or-replicate side _ x nan q

-- ---- an infrared number by its source

module _ {s : Source} {c : CommonIrData} {b : Option Float} (e : s ≡ Pixels c b) (l : Lent) where
  pub readable : {n : ℕ} → ReadableFor s l n → Readable l n
  readable {n} r = subst (λ (x : Source). ReadableFor x l n) e r

  pub from-pixels : (d : List ℕ) (block i : ℕ) {p q : ℕ} → i < side → p ≡ block % l.k_v_blocks * side → q ≡ block % l.access_blocks * side
      → raw_of c b l.pixels l.offsets l.k_ta (block * side + i) (get_or l.k_v (p + i) nan) (get_or l.access (q + i) nan) ≡ number_at s l d (block * side + i)
  from-pixels d block i h f g =
      ap₂ (raw_of c b l.pixels l.offsets l.k_ta (block * side + i))
      (ap (λ (z : ℕ). get_or l.k_v (z + i) nan) f ∙ sym (in-turn l.k_v l.k_v_blocks block i h))
      (ap (λ (z : ℕ). get_or l.access (z + i) nan) g ∙ sym (in-turn l.access l.access_blocks block i h))
      ∙ ap (λ (x : Source). number_at x l d (block * side + i)) (sym e)

pub from-destination : {s : Source} → s ≡ Destination → (l : Lent) (d : List ℕ) (k : ℕ) → held d k ≡ number_at s l d k
from-destination e l d k = ap (λ (x : Source). number_at x l d k) (sym e)

-- ---- what a block is written as, by its goal

pub same_flags : {f : ℕ → ℕ} (g : ℕ → ℕ) {bits flags : List ℕ} {n : ℕ} → Flagged f bits flags n → ((i : ℕ) → i < n → f i ≡ g i) → Flagged g bits flags n
same_flags g r e = record {
  bits_are = record { at = λ i h. r.bits_are.at i h ∙ e i h };
  flags_are = record { at = λ i h. r.flags_are.at i h ∙ ap lost_flag (e i h) };
}

module _ (t : Table) (x : Float) (k : ℕ) {goal : Goal} where
  pub as-infrared : goal ≡ Infrared → to_bits binary32 x ≡ bits_by goal t x k
  as-infrared e = ap (λ (g : Goal). bits_by g t x k) (sym e)

  pub as-temperature : {c : CommonToData} {y : Float} → goal ≡ Temperature c → y ≡ celsius (lifted_at c t.alpha x k) → answer_bits (decided y x) ≡ bits_by goal t x k
  as-temperature e f = ap (λ (y : Float). answer_bits (decided y x)) f ∙ ap (λ (g : Goal). bits_by g t x k) (sym e)

  pub as-ranged : {c : CommonToData} {n : ℕ} {y : Float} → goal ≡ Ranged c n → y ≡ celsius (lifted_ranged_at c n t x k) → answer_bits (decided y x) ≡ bits_by goal t x k
  as-ranged e f = ap (λ (y : Float). answer_bits (decided y x)) f ∙ ap (λ (g : Goal). bits_by g t x k) (sym e)

pub workable : {goal other : Goal} (t : Table) (n : ℕ) → goal ≡ other → WorkableFor goal t n → WorkableFor other t n
workable t n e w = subst (λ (g : Goal). WorkableFor g t n) e w

-- fewer pixels need less
pub fewer : (goal : Goal) (t : Table) (m n : ℕ) → m ≤ n → WorkableFor goal t n → WorkableFor goal t m
fewer Infrared t m n h w = tt
fewer (Temperature c) t m n h w = omega arith
fewer (Ranged c r) t m n h w = (omega arith, w.1, w.2, w.3, w.4)

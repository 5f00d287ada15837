-- How many steps a plan has: at most two for a word that differs, and only checked words differ. Assumes nothing.
use Prim.Native.Nat.{ℕ, zero, suc, ◌*◌, ◌<◌, ◌≤◌}
use mathlib.Core.Path.{◌≡◌, refl, sym, ◌∙◌}
use mathlib.Core.Bool.{Bool, true, false, not, true≢false}
use mathlib.Core.List.{List}
use native.Mathlib.Omega.{arith}
use lib.Dec.{eqb}
use lib.ListN.{length, length-append}
use Rattle.lists.specs.Pick.{pick}
use Rattle.lists.specs.Count.{count_below}
use Rattle.lists.proofs.First.{is-first}
use Rattle.util.specs.Words.{word_at}
use Rattle.map.specs.Map.{card_words, checked_words, checked}
use Rattle.map.proofs.Counted.{checked-count}
use Rattle.burn.specs.Burn.{differ_at, unchecked_at}
use Rattle.burn.specs.Plan.{steps_for, steps_at, plan_below, plan}
use Rattle.burn.specs.Inner.{Passed}
use Rattle.burn.proofs.Onward.{unchecked-is}

two : (w old new : ℕ) (s o n : Bool) → eqb old new ≡ s → eqb old 0 ≡ o → eqb new 0 ≡ n → length (steps_for w old new) ≤ 2 * pick (not s) 1 0
two w old new true o n e f g = rw e (omega arith)
two w old new false true true e f g = rw (e, f, g) (omega arith)
two w old new false true false e f g = rw (e, f, g) (omega arith)
two w old new false false true e f g = rw (e, f, g) (omega arith)
two w old new false false false e f g = rw (e, f, g) (omega arith)

below_two : (n : ℕ) (p q : List ℕ) → length (plan_below n p q) ≤ 2 * count_below (differ_at p q) n
unfolding plan_below count_below steps_at differ_at
below_two zero p q = omega arith
below_two (suc n) p q =
    let i = below_two n p q in
    let t = two n (word_at p n) (word_at q n) _ _ _ refl refl refl in
    let l = length-append (plan_below n p q) (steps_at p q n) in
    omega arith

pub plan-two : (p q : List ℕ) → length (plan p q) ≤ 2 * count_below (differ_at p q) card_words
plan-two p q = below_two card_words p q

-- what passes one test passes another: so many fewer
one : (s t : Bool) → (s ≡ true → t ≡ true) → pick s 1 0 ≤ pick t 1 0
one false t f = omega arith
one true true f = omega arith
one true false f = absurd (true≢false (sym (f refl)))

count-fewer : (f g : ℕ → Bool) (n : ℕ) → ((k : ℕ) → k < n → f k ≡ true → g k ≡ true) → count_below f n ≤ count_below g n
unfolding count_below
count-fewer f g zero h = omega arith
count-fewer f g (suc n) h =
    let i = count-fewer f g n (λ k l. h k (omega arith)) in
    let o = one (f n) (g n) (h n (omega arith)) in
    omega arith

-- of images that nothing stops, a word that differs is checked
checks : (p q : List ℕ) → Passed p q → (v : ℕ) → v < card_words → (t : Bool) → checked v ≡ t → differ_at p q v ≡ true → t ≡ true
checks p q o v h true e d = refl
checks p q o v h false e d =
    let u = o.unchecked in
    absurd (true≢false (sym (unchecked-is p q v e ∙ d) ∙ (is-first (unchecked_at p q) 0 card_words).before v (omega arith) (omega arith)))

pub plan-most : (p q : List ℕ) → Passed p q → length (plan p q) ≤ 1628
plan-most p q o =
    let a = plan-two p q in
    let b = count-fewer (differ_at p q) checked card_words (λ v h. checks p q o v h (checked v) refl) in
    let c : count_below checked card_words ≡ checked_words = checked-count in
    omega arith

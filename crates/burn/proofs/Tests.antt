-- The tests of a burn, line by line, and what holds where a step is due. Assumes nothing.
use Prim.Native.Nat.{ℕ, ◌<◌, ◌≤◌}
use mathlib.Core.Path.{◌≡◌, refl, ap, sym, ◌∙◌}
use mathlib.Core.Bool.{Bool, true, false}
use mathlib.Core.List.{List}
use native.Mathlib.Omega.{arith}
use lib.Dec.{leb}
use lib.ListN.{length}
use borrow.Author.Tests.{lt-ltb, le-ltb, ltb-false, leb-false, le-leb, lt-leb}
use Rattle.std.specs.Prelude.{⊤, Option, Some, None, Result, Ok, Err}
use Rattle.lists.specs.Pick.{pick}
use Rattle.refusal.specs.declared.Refusal.{Refusal}
use Rattle.refusal.specs.declared.Refusal.TheVariants.{ShortImage, UncheckedWord}
use Rattle.refusal.specs.Order.{first_of}
use Rattle.refusal.proofs.Order.{passed}
use Rattle.map.specs.Map.{card_words, image_bytes}
use Rattle.burn.specs.declared.Step.{Step}
use Rattle.burn.specs.Burn.{first_differ, first_unchecked, burn_tests, burn_verdict, next_value, step_from, or_stopped, next_of}
use Rattle.burn.specs.Inner.{Passed, IsDue}

module _ (p q : List ℕ) where
  pub short-present : length p < image_bytes → Err (ShortImage (length p)) ≡ burn_verdict p q
  unfolding burn_tests first_of
  short-present h = rw (lt-ltb _ _ h) refl

  pub short-wanted : image_bytes ≤ length p → length q < image_bytes → Err (ShortImage (length q)) ≡ burn_verdict p q
  unfolding burn_tests first_of
  short-wanted l h = rw (le-ltb _ _ l, lt-ltb _ _ h) refl

  module _ (l : image_bytes ≤ length p) (m : image_bytes ≤ length q) where
    pub unchecked-word : {w : ℕ} → w ≡ first_unchecked p q → w < card_words → Err (UncheckedWord w) ≡ burn_verdict p q
    unfolding burn_tests first_of
    unchecked-word e h = rw (le-ltb _ _ l, le-ltb _ _ m, e, lt-ltb _ _ (rw e at h)) refl

    pub lets-pass : card_words ≤ first_unchecked p q → Ok tt ≡ burn_verdict p q
    unfolding burn_tests first_of
    lets-pass h = rw (le-ltb _ _ l, le-ltb _ _ m, le-ltb _ _ h) refl

  pub opened : burn_verdict p q ≡ Ok tt → Passed p q
  unfolding burn_tests
  opened e =
      let a = passed _ _ _ e in
      let b = passed _ _ _ a.1 in
      let c = passed _ _ _ b.1 in
      record { here = ltb-false _ _ a.0; there = ltb-false _ _ b.0; unchecked = ltb-false _ _ c.0 }

  -- the step, by whether a word differs
  pub none-due : card_words ≤ first_differ p q → step_from p q ≡ None
  unfolding step_from
  none-due h = rw (le-leb _ _ h) refl

  pub is-due : {w v : ℕ} → w ≡ first_differ p q → v ≡ next_value p q w → w < card_words → Some (record { word = w; value = v }) ≡ step_from p q
  unfolding step_from
  is-due e f h = rw (f, e, lt-leb _ _ (rw e at h)) refl

  -- where nothing stops it
  pub goes_on : burn_verdict p q ≡ Ok tt → next_of p q ≡ Ok (step_from p q)
  unfolding next_of
  goes_on e = rw e refl

  pub stops : (refusal : Refusal) → burn_verdict p q ≡ Err refusal → next_of p q ≡ Err refusal
  unfolding next_of
  stops refusal e = rw e refl

not_stopped : (refusal : Refusal) (s : Step) → ◌≡◌ {A = Result (Option Step) Refusal} (Err refusal) (Ok (Some s)) → ⊥
not_stopped refusal s e = let z : ◌≡◌ {A = ℕ} 0 1 = cc in omega arith

not-reached : (s : Step) → ◌≡◌ {A = Result (Option Step) Refusal} (Ok None) (Ok (Some s)) → ⊥
not-reached s e = let z : ◌≡◌ {A = ℕ} 0 1 = cc in omega arith

abbrev word_in : Result (Option Step) Refusal → ℕ
word_in (Err refusal) = 0
word_in (Ok None) = 0
word_in (Ok (Some s)) = s.word

abbrev value_in : Result (Option Step) Refusal → ℕ
value_in (Err refusal) = 0
value_in (Ok None) = 0
value_in (Ok (Some s)) = s.value

-- a step that is due
module _ (p q : List ℕ) (s : Step) where
  due-first : (t : Bool) (w : ℕ) → w ≡ first_differ p q → leb card_words w ≡ t → Passed p q
      → ◌≡◌ {A = Result (Option Step) Refusal} (Ok (pick t None (Some (record { word = w; value = next_value p q w })))) (Ok (Some s)) → IsDue p q s
  due-first true w f e o d = absurd (not-reached s d)
  due-first false w f e o d =
      let g : w ≡ s.word = ap word_in d in
      let h : w < card_words = leb-false _ _ e in
      record { passed = o; word = sym g ∙ f; value = sym (ap value_in d) ∙ ap (next_value p q) g; within = omega arith }

  due-by : (verdict : Result ⊤ Refusal) → burn_verdict p q ≡ verdict → or_stopped verdict (step_from p q) ≡ Ok (Some s) → IsDue p q s
  unfolding step_from
  due-by (Ok tt) e d = due-first (leb card_words (first_differ p q)) (first_differ p q) refl refl (opened p q e) d
  due-by (Err refusal) e d = absurd (not_stopped refusal s d)

  pub due : next_of p q ≡ Ok (Some s) → IsDue p q s
  unfolding next_of
  due d = due-by (burn_verdict p q) refl d

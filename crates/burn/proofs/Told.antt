-- What any number of calls do and tell: the claim of specs/Runs. Assumes nothing.
use Prim.Native.Nat.{ℕ, zero, suc, ◌<◌, ◌≤◌}
use mathlib.Core.Path.{◌≡◌, refl, sym, ap, ◌∙◌}
use mathlib.Core.Bool.{Bool, true, false}
use mathlib.Core.List.{List, [], ◌∷◌, ◌++◌}
use native.Mathlib.Numerals.{add-one}
use native.Mathlib.Omega.{arith}
use lib.Dec.{eqb, leb}
use lib.ListN.{length, drop}
use lib.Seq.{drop-drop}
use borrow.Author.Tests.{eqb-true, eqb-false, leb-true, leb-false, le-leb, lt-leb}
use Rattle.std.specs.Prelude.{Option, Some, None, Result, Ok, Err}
use Rattle.refusal.specs.declared.Refusal.{Refusal}
use Rattle.lists.specs.All.{All, none, ◌also◌}
use Rattle.burn.specs.declared.Step.{Step}
use Rattle.burn.specs.Burn.{differ_at, burn_verdict, next_of, done, leaves, reaches}
use Rattle.burn.specs.Plan.{plan, called, step_in, answered}
use Rattle.burn.specs.Inner.{IsDue}
use Rattle.burn.specs.Runs.{Differed, Runs}
use Rattle.burn.proofs.Tests.{due}
use Rattle.burn.proofs.Steps.{differ-other}
use Rattle.burn.proofs.Onward.{is_done, word-differs, word-checked, reached-is}
use Rattle.burn.proofs.Run.{at-end, at-step, on, left, run-steps, run-image, run-rest, run-verdict, run-kept}

-- ---- reached exactly when the plan is done

more : (m k : ℕ) (t : Bool) → leb m k ≡ t → t ≡ leb (suc m) (suc k)
more m k true e = let h : m ≤ k = leb-true m k e in sym (le-leb (suc m) (suc k) (omega arith))
more m k false e = let h : k < m = leb-false m k e in sym (lt-leb (suc m) (suc k) (omega arith))

done_at : (k : ℕ) (l : List Step) → is_done (drop k l) ≡ leb (length l) k
done_at zero [] = refl
done_at zero (s ∷ rest) = sym (lt-leb (suc (length rest)) 0 (omega arith))
done_at (suc k) [] = sym (le-leb 0 (suc k) (omega arith))
done_at (suc k) (s ∷ rest) = done_at k rest ∙ more (length rest) k (leb (length rest) k) refl

-- the answer of a call from what is found
tells-by : (q : List ℕ) (l : List Step) (p : List ℕ) → burn_verdict p q ≡ Ok tt → plan p q ≡ l → reaches (next_of p q) p q ≡ is_done (drop 1 l)
tells-by q [] p o e = ap (λ (n : Result (Option Step) Refusal). reaches n p q) (at-end q p o e)
tells-by q (s ∷ rest) p o e =
    ap (λ (n : Result (Option Step) Refusal). reaches n p q) (at-step q p s rest o e)
    ∙ reached-is (done p s) q (on q p s rest o e)
    ∙ ap is_done (left q p s rest o e)

-- ---- each step is of a word that differed at the start

-- of a step that is due
differed-now : (p q : List ℕ) (s : Step) → IsDue p q s → Differed p q s
differed-now p q s d = record { word = d.within; differs = word-differs p q s d; checks = word-checked p q s d }

-- a word that differs after a step differed before it
differed-before : (p q : List ℕ) (s : Step) → IsDue p q s → (x : Step) → Differed (done p s) q x → Differed p q x
differed-before p q s d x e = record { word = e.word; differs = by (eqb x.word s.word) refl; checks = e.checks }
  where
    by : (t : Bool) → eqb x.word s.word ≡ t → differ_at p q x.word ≡ true
    by true f = rw (eqb-true x.word s.word f) (word-differs p q s d)
    by false f = sym (differ-other p q s.word s.value x.word (eqb-false x.word s.word f)) ∙ e.differs

all_from : {P Q : Step → Type 0} → ((x : Step) → P x → Q x) → (l : List Step) → All P l → All Q l
all_from f [] none = none
all_from f (a ∷ rest) (h also t) = f a h also all_from f rest t

differed-by : (p q : List ℕ) (n : Result (Option Step) Refusal) (l : List Step) → next_of p q ≡ n → All (Differed (leaves n p) q) l → All (Differed p q) (step_in n ++ l)
differed-by p q (Err refusal) l e a = a
differed-by p q (Ok None) l e a = a
differed-by p q (Ok (Some s)) l e a = let d = due p q s e in differed-now p q s d also all_from (differed-before p q s d) l a

pub run-differed : (k : ℕ) (p q : List ℕ) → All (Differed p q) (answered k p q)
unfolding answered
run-differed zero p q = none
run-differed (suc k) p q = differed-by p q (next_of p q) (answered k (leaves (next_of p q) p) q) refl (run-differed k (leaves (next_of p q) p) q)

-- ---- the claim

pub runs : (p q : List ℕ) → burn_verdict p q ≡ Ok tt → (k : ℕ) → Runs p q k
runs p q o k =
    let r = run-rest q k (plan p q) p o refl in
    let on = run-verdict k p q ∙ o in
    record {
      steps = run-steps q k (plan p q) p o refl;
      image = run-image q k (plan p q) p o refl;
      rest = r;
      passes = on;
      reaches_at = reached-is (called k p q) q on ∙ ap is_done r ∙ done_at k (plan p q);
      tells = tells-by q (drop k (plan p q)) (called k p q) on r ∙ ap is_done (drop-drop 1 k (plan p q) ∙ ap (λ (m : ℕ). drop m (plan p q)) (add-one k)) ∙ done_at (suc k) (plan p q);
      kept = run-kept k p q;
      differed = run-differed k p q;
    }

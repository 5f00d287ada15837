-- Where the wanted image is reached, the first 1,664 bytes are its bytes: the claim of specs/Runs on how a burn ends. Assumes nothing.
use Prim.Native.Nat.{ℕ, zero, suc, ◌+◌, ◌*◌, ◌/◌, ◌%◌, ◌<◌, ◌≤◌}
use mathlib.Core.Path.{◌≡◌, refl, sym, ap, ap₂, ◌∙◌}
use mathlib.Core.Bool.{Bool, true, false, true≢false}
use mathlib.Core.List.{List, ◌++◌}
use native.Mathlib.Omega.{arith}
use lib.Dec.{eqb, leb}
use lib.ListN.{length, get_or, set, take, drop, length-drop, take-append-drop}
use lib.Seq.{ext_get_or, get_or-take, length-take-le, drop-set-lt}
use borrow.Author.Tests.{eqb-true, eqb-false, eq-eqb, leb-true, leb-false, le-leb, not-false}
use Rattle.std.specs.Prelude.{Option, Some, None, Result, Ok, Err}
use Rattle.refusal.specs.declared.Refusal.{Refusal}
use Rattle.lists.specs.Pick.{pick}
use Rattle.lists.proofs.First.{is-first}
use Rattle.util.specs.Words.{word_at}
use Rattle.map.specs.Map.{card_words, image_bytes}
use Rattle.burn.specs.declared.Step.{Step}
use Rattle.burn.specs.Burn.{differ_at, first_differ, reached, burn_verdict, next_value, next_of, word_set, leaves}
use Rattle.burn.specs.Plan.{plan, called}
use Rattle.burn.specs.Runs.{Bytes, burnt_to, Ends}
use Rattle.burn.proofs.Tests.{opened, due}
use Rattle.burn.proofs.Words.{byte-other, byte_high, byte_low}
use Rattle.burn.proofs.Run.{run_length, run-verdict}
use Rattle.burn.proofs.Told.{runs}
use Rattle.burn.proofs.Bound.{plan-two, plan-most}

-- ---- bytes stay bytes

word_lt : (q : List ℕ) → Bytes q → (w : ℕ) → word_at q w < 65536
unfolding word_at
word_lt q b w = let h = b (w * 2) in let l = b (w * 2 + 1) in omega arith

value-lt : (p q : List ℕ) (w : ℕ) → Bytes q → (t : Bool) → pick t (word_at q w) 0 < 65536
value-lt p q w b true = word_lt q b w
value-lt p q w b false = omega arith

next-lt : (p q : List ℕ) (w : ℕ) → Bytes q → next_value p q w < 65536
unfolding next_value
next-lt p q w b = value-lt p q w b (eqb (word_at p w) 0)

module _ (p : List ℕ) (w v : ℕ) (b : Bytes p) (h : w * 2 + 1 < length p) (l : v < 65536) where
  set-byte : (i : ℕ) (s t : Bool) → eqb i (w * 2) ≡ s → eqb i (w * 2 + 1) ≡ t → get_or (word_set p w v) i 0 < 256
  set-byte i true t e f = rw (eqb-true i (w * 2) e, byte_high p w v h) (omega arith)
  set-byte i false true e f = rw (eqb-true i (w * 2 + 1) f, byte_low p w v h) (omega arith)
  set-byte i false false e f = rw (byte-other p w v i (eqb-false i (w * 2) e) (eqb-false i (w * 2 + 1) f)) (b i)

  set-bytes : Bytes (word_set p w v)
  set-bytes i = set-byte i (eqb i (w * 2)) (eqb i (w * 2 + 1)) refl refl

bytes-by : (p q : List ℕ) (n : Result (Option Step) Refusal) → next_of p q ≡ n → Bytes p → Bytes q → Bytes (leaves n p)
bytes-by p q (Err refusal) e b c = b
bytes-by p q (Ok None) e b c = b
bytes-by p q (Ok (Some s)) e b c =
    let d = due p q s e in
    let l = d.passed.here in
    let h = d.within in
    set-bytes p s.word s.value b (omega arith) (rw d.value (next-lt p q s.word c))

run-bytes : (k : ℕ) (p q : List ℕ) → Bytes p → Bytes q → Bytes (called k p q)
unfolding called
run-bytes zero p q b c = b
run-bytes (suc k) p q b c = run-bytes k (leaves (next_of p q) p) q (bytes-by p q (next_of p q) refl b c) c

-- ---- past the card nothing moves

past-set : (p : List ℕ) (w v : ℕ) → w < card_words → drop image_bytes (word_set p w v) ≡ drop image_bytes p
unfolding word_set
past-set p w v h =
    drop-set-lt image_bytes (set p (w * 2) (v / 256)) (w * 2 + 1) (v % 256) (omega arith)
    ∙ drop-set-lt image_bytes p (w * 2) (v / 256) (omega arith)

past_by : (p q : List ℕ) (n : Result (Option Step) Refusal) → next_of p q ≡ n → drop image_bytes (leaves n p) ≡ drop image_bytes p
past_by p q (Err refusal) e = refl
past_by p q (Ok None) e = refl
past_by p q (Ok (Some s)) e = past-set p s.word s.value (due p q s e).within

pub run_past : (k : ℕ) (p q : List ℕ) → drop image_bytes (called k p q) ≡ drop image_bytes p
unfolding called
run_past zero p q = refl
run_past (suc k) p q = run_past k (leaves (next_of p q) p) q ∙ past_by p q (next_of p q) refl

-- ---- reached exactly if the card's bytes are the wanted ones

same_word : (p q : List ℕ) (w : ℕ) → differ_at p q w ≡ false → word_at p w ≡ word_at q w
unfolding differ_at
same_word p q w e = eqb-true _ _ (not-false _ e)

-- a word's bytes, of its number: i is the one or the other
same_byte : (p q : List ℕ) → Bytes p → Bytes q → (i : ℕ) (t : Bool) → eqb (i % 2) 0 ≡ t → word_at p (i / 2) ≡ word_at q (i / 2) → get_or p i 0 ≡ get_or q i 0
unfolding word_at
same_byte p q b c i t e w = by t e
  where
    by : (t : Bool) → eqb (i % 2) 0 ≡ t → get_or p i 0 ≡ get_or q i 0
    by true e =
        let z = eqb-true (i % 2) 0 e in
        let g : i / 2 * 2 ≡ i = omega arith in
        let l = b (i / 2 * 2 + 1) in
        let m = c (i / 2 * 2 + 1) in
        let r : get_or p (i / 2 * 2) 0 ≡ get_or q (i / 2 * 2) 0 = omega arith in
        rw g at r
    by false e =
        let z = eqb-false (i % 2) 0 e in
        let g : i / 2 * 2 + 1 ≡ i = omega arith in
        let l = b (i / 2 * 2 + 1) in
        let m = c (i / 2 * 2 + 1) in
        let r : get_or p (i / 2 * 2 + 1) 0 ≡ get_or q (i / 2 * 2 + 1) 0 = omega arith in
        rw g at r

module _ (p q : List ℕ) (h : image_bytes ≤ length p) (m : image_bytes ≤ length q) where
  pub reached-same : Bytes p → Bytes q → reached p q ≡ true → take image_bytes p ≡ take image_bytes q
  reached-same b c e =
      let f = is-first (differ_at p q) 0 card_words in
      let r : card_words ≤ first_differ p q = leb-true _ _ e in
      let x = length-take-le image_bytes p h in
      ext_get_or 0 (take image_bytes p) (take image_bytes q) (x ∙ sym (length-take-le image_bytes q m))
      (λ i g. get_or-take image_bytes p i 0 (omega arith)
      ∙ same_byte p q b c i (eqb (i % 2) 0) refl (same_word p q (i / 2) (f.before (i / 2) (omega arith) (omega arith)))
      ∙ sym (get_or-take image_bytes q i 0 (omega arith)))

  byte-is : take image_bytes p ≡ take image_bytes q → (i : ℕ) → i < image_bytes → get_or p i 0 ≡ get_or q i 0
  byte-is e i g = sym (get_or-take image_bytes p i 0 g) ∙ ap (λ (l : List ℕ). get_or l i 0) e ∙ get_or-take image_bytes q i 0 g

  no_difference : take image_bytes p ≡ take image_bytes q → (w : ℕ) → w < card_words → differ_at p q w ≡ false
  unfolding differ_at word_at
  no_difference e w g = rw (byte-is e (w * 2) (omega arith), byte-is e (w * 2 + 1) (omega arith), eq-eqb (word_at q w) (word_at q w) refl) refl

  reached-by : take image_bytes p ≡ take image_bytes q → (t : Bool) → leb card_words (first_differ p q) ≡ t → t ≡ true
  reached-by e true f = refl
  reached-by e false f =
      let g : first_differ p q < card_words = leb-false _ _ f in
      absurd (true≢false (sym ((is-first (differ_at p q) 0 card_words).at (omega arith)) ∙ no_difference e (first_differ p q) g))

  pub same-reached : take image_bytes p ≡ take image_bytes q → reached p q ≡ true
  same-reached e = reached-by e (leb card_words (first_differ p q)) refl

-- ---- the claim

module _ (q : List ℕ) (c : Bytes q) where
  there-if : (k : ℕ) (p : List ℕ) → Bytes p → burn_verdict p q ≡ Ok tt → reached (called k p q) q ≡ true → take image_bytes (called k p q) ≡ take image_bytes q
  there-if k p b o r =
      let l = opened p q o in
      reached-same (called k p q) q (rw (run_length k p q) l.here) l.there (run-bytes k p q b c) c r

  ends_there : (k : ℕ) (p : List ℕ) → Bytes p → burn_verdict p q ≡ Ok tt → length (plan p q) ≤ k → called k p q ≡ burnt_to p q
  ends_there k p b o h =
      sym (take-append-drop image_bytes (called k p q))
      ∙ ap₂ (λ (x y : List ℕ). x ++ y) (there-if k p b o ((runs p q o k).reaches_at ∙ le-leb _ _ h)) (run_past k p q)

  pub ends : (p : List ℕ) → Bytes p → burn_verdict p q ≡ Ok tt → Ends p q
  ends p b o = record {
    two_a_word = plan-two p q;
    at_most = plan-most p q (opened p q o);
    there = λ k h. ends_there k p b o h;
    left = λ j. ap length (runs p q o j).rest ∙ length-drop j (plan p q);
    after_cut = λ j k h.
        ends_there k (called j p q) (run-bytes j p q b c) (run-verdict j p q ∙ o) h ∙ ap (λ (x : List ℕ). take image_bytes q ++ x) (run_past j p q);
    is_wanted = λ k r. there-if k p b o r;
  }

-- `reader::judge` meets its contract: each return is one case of the definition. Assumes nothing.
use borrow.Author.Tests.{lt-ltb, le-ltb}
use mathlib.Core.Path.{◌≡◌, refl, sym, ap, ◌∙◌}
use Prim.Native.Nat.{ℕ, ◌<◌, ◌≤◌}
use Rattle.std.specs.Prelude.{⊤, Result, Ok, Err, is_err}
use Rattle.refusal.specs.declared.Refusal.{Refusal}
use Rattle.map.specs.Map.{image_bytes}
use Rattle.eeprom.specs.declared.Loaded.{Loaded}
use Rattle.eeprom.specs.Load.{Tables, Loads}
use Rattle.reader.specs.Bytes.{Held, verdict_on}
use Rattle.reader.specs.Calls.{more, ends, refused, judged, judges}
use Rattle.reader.proofs.Loading.{load_is}
use Rattle.reader.proofs.Taking.{has-damage, no-damage}
use Rattle.reader.proofs.judge.Goals as goal

same : (x y : Refusal) → ◌≡◌ {A = Result ⊤ Refusal} (Err x) (Err y) → x ≡ y
same x y e = cc

-- the cases of the definition
module _ (h : Held) (range : ℕ) (t : Tables) where
  a_word : (r : Refusal) → Err r ≡ verdict_on h → judged (refused r) t ≡ judges h range t
  unfolding judges verdict_on
  a_word r e =
      let d = has-damage h (sym (ap is_err e)) in
      let q = same _ _ (rw d at e) in
      rw (d, q) refl

  wanted : verdict_on h ≡ Ok tt → h.count < image_bytes → judged more t ≡ judges h range t
  unfolding judges
  wanted e l = let d = no-damage h (ap is_err e) in rw (d, lt-ltb _ _ l) refl

  whole : (u : Tables) (r : Result Loaded Refusal) → verdict_on h ≡ Ok tt → image_bytes ≤ h.count → Loads h.image range t u r → judged (ends r) u ≡ judges h range t
  unfolding judges
  whole u r e l p = let d = no-damage h (ap is_err e) in rw (d, le-ltb _ _ l, (load_is p).0, (load_is p).1) refl

pub returns-in-Err : goal.returns-in-Err
returns-in-Err c = λ h k. a_word h c.args.basic_range _ _ (sym c.in-Err.is ∙ k.verdict)

pub returns-then-kept-lt-IMAGE_BYTES : goal.returns-then-kept-lt-IMAGE_BYTES
returns-then-kept-lt-IMAGE_BYTES c =
    λ h k. wanted h c.args.basic_range _ (sym k.verdict ∙ c.in_default.is) (rw k.count at c.if-kept-lt-IMAGE_BYTES.true)

pub returns : goal.returns
returns c =
    λ h k. whole h c.args.basic_range _ _ _ (sym k.verdict ∙ c.in_default.is) (rw k.count at c.if-kept-lt-IMAGE_BYTES.false) (rw k.image_is at c.load-loaded.ensures)

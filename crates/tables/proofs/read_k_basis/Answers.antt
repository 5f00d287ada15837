-- `tables::read_k_basis` meets its contract: it reads the word of the average, then that of the scales. Assumes nothing.
use mathlib.Core.Path.{◌≡◌, ap, ◌∙◌}
use Prim.Native.Nat.{◌+◌, ◌<◌}
use native.Mathlib.Omega.{arith}
use lib.Dec.{lit<, lit≤}
use Rattle.util.proofs.Width.{signed_back}
use Rattle.map.specs.Map.{card_words, word_of}
use Rattle.map.proofs.Words.{places}
use Rattle.card.specs.Inner.{signed_at, split_at}
use Rattle.card.specs.declared.Field.{Field}
use lib.IntN.{ℤ}
use Rattle.tables.specs.declared.K.{K}
use Rattle.tables.specs.declared.K.TheVariants.{KTa, KV}
use Rattle.tables.specs.Tables.{average_field, scale_field}
use Rattle.tables.proofs.read_k_basis.Goals as goal

-- the scales are in the word after the average
next_word : (which : K) → word_of (average_field which) 0 + 1 ≡ word_of (scale_field which) 0
next_word KTa = rw (places.k_ta_average, places.k_ta_scale)
next_word KV = rw (places.k_v_average, places.k_v_scale)

within : (which : K) → word_of (average_field which) 0 + 1 < card_words
within KTa = rw places.k_ta_average (lit< tt)
within KV = rw places.k_v_average (lit< tt)

pub returns : goal.returns
returns c =
    let s = c in
    rw (
      c.exp2.ensures,
      c.exp2-2.ensures,
      (s.signed-average.ensures ∙ ap (signed_at s.args.words.now) s.average_word-word.ensures),
      (s.split-scales.ensures ∙ ap (λ (r : Field ℤ). split_at s.args.words.now 5 r.next.word) ((s.signed-average.ensures ∙ ap (signed_at s.args.words.now) s.average_word-word.ensures))
          ∙ ap (split_at s.args.words.now 5) (next_word s.args.which)),
      signed_back 11 _ (lit≤ tt) (lit≤ tt),
    )

pub signed-average-requires : goal.signed-average-requires
signed-average-requires c = rw c.average_word-word.ensures (let h = within c.args.which in omega arith)

pub split-scales-requires : goal.split-scales-requires
split-scales-requires c = (rw ((c.signed-average.ensures ∙ ap (signed_at c.args.words.now) c.average_word-word.ensures)) (within c.args.which), lit< tt)

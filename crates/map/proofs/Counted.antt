-- Of the 832 words 814 are checked. Assumes nothing.
use mathlib.Core.Path.{◌≡◌, refl}
use Rattle.lists.specs.Count.{count_below}
use Rattle.map.specs.Map.{card_words, checked_words, spans, role_of, checked}

pub checked-count : count_below checked card_words ≡ checked_words
unfolding count_below checked role_of spans
checked-count = refl

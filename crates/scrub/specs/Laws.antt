-- What is proved of a scrub: its lists, a second scrub, and loading before and after it. Assumes nothing.
use Rattle.std.specs.Prelude.{ℕ, ◌<◌, ◌≡◌, Bool, true, List, get_or, take, Result, Ok, Err}
use Rattle.refusal.specs.declared.Refusal.{Refusal}
use Rattle.map.specs.Map.{card_words}
use Rattle.card.specs.Card.{no_mending}
use Rattle.card.specs.declared.Mending.{Mending}
use Rattle.eeprom.specs.declared.Loaded.{Loaded}
use Rattle.eeprom.specs.Load.{Tables}
use Rattle.writer.specs.Round.{record_in}
use Rattle.scrub.specs.declared.Counts.{Counts}
use Rattle.scrub.specs.Scrub.{Lent}

-- the first n entries of the list are the numbers of exactly those words of a card that pass the test, ascending, so each occurs once
pub record Lists (test : ℕ → Bool) (n : ℕ) (list : List ℕ) : Type 0 where
  pub on_card : (i : ℕ) → i < n → get_or list i 0 < card_words
  pub passes : (i : ℕ) → i < n → test (get_or list i 0) ≡ true
  pub ascends : (i j : ℕ) → i < j → j < n → get_or list i 0 < get_or list j 0
  pub all : (word : ℕ) → word < card_words → test word ≡ true → (i : ℕ) × (i < n) × (get_or list i 0 ≡ word)

-- a second scrub, of the image that the first left: it is not refused, changes no byte, counts and lists no changed word, and lists the same damaged
-- words. r and `left` are the first scrub's counts and slices; q, `before` and `after` the second's result and slices, and `again` its counts.
pub record Settled (r : Counts) (left : Lent) (q : Result Counts Refusal) (before after : Lent) : Type 0 where
  pub again : Counts
  pub verdict : q ≡ Ok again
  pub image : after.image ≡ left.image
  pub none : again.changed ≡ 0
  pub changed : after.changed ≡ before.changed
  pub count : again.damaged ≡ r.damaged
  pub damaged : take again.damaged after.damaged ≡ take r.damaged left.damaged

-- the mended words that a load counts; none after a refusal
abbrev pub mending_in : Result Loaded Refusal → Mending
mending_in (Ok loaded) = loaded.mending
mending_in (Err refusal) = no_mending

-- two loads, of a card before and after a scrub: they have the same verdict, refusals included, the same record and the same tables, and the second
-- counts no word as mended
pub record Alike (p q : Result Loaded Refusal) (x y : Tables) : Type 0 where
  pub calibration : record_in q ≡ record_in p
  pub tables : y ≡ x
  pub none : mending_in q ≡ no_mending

-- Document 02, request 5: the effect of one byte and of a piece on the bytes kept, and the state that the bytes so far determine. Assumes nothing.
use Rattle.std.specs.Prelude.{ℕ, ◌+◌, ◌*◌, ◌/◌, ◌%◌, ◌≡◌, min, Bool, false, eqb, leb, ltb, length, set, take, drop, ⊤, Result, Ok, Err}
use mathlib.Core.List.{List, ◌++◌, foldl}
use Rattle.lists.specs.Pick.{pick}
use Rattle.lists.specs.First.{first_from}
use Rattle.refusal.specs.declared.Refusal.{Refusal}
use Rattle.refusal.specs.declared.Refusal.TheVariants.{DamagedWord}
use Rattle.util.specs.Words.{word_at}
use Rattle.map.specs.Map.{card_words, image_bytes}
use Rattle.card.specs.Card.{damaged_at}
use Rattle.reader.specs.declared.Kept.{Kept}

-- the caller's array, the number of bytes kept in it, and the damaged word, or 832 if there is none
pub record Held : Type 0 where
  pub image : List ℕ
  pub count : ℕ
  pub damaged : ℕ

-- an array, the number of bytes kept in it and the damaged word as `Held`
abbrev pub held : List ℕ → ℕ → ℕ → Held
held image count damaged = record { image = image; count = count; damaged = damaged }

-- the refusal of the damaged word, if there is one
unfoldable pub verdict_on : Held → Result ⊤ Refusal
verdict_on h = pick (ltb h.damaged card_words) (Err (DamagedWord h.damaged (word_at h.image h.damaged))) (Ok tt)

-- an array and what a call returns of the bytes kept in it
pub record Keeps (image : List ℕ) (kept : Kept) (h : Held) : Type 0 where
  pub image_is : image ≡ h.image
  pub count : kept.count ≡ h.count
  pub verdict : kept.verdict ≡ verdict_on h

-- ---- byte by byte

-- the word that the byte with this index completes, if it completes one and that is damaged; else 832
unfoldable pub completes : List ℕ → ℕ → ℕ
completes image byte =
    pick (eqb (byte % 2) 0) card_words
    (pick (damaged_at image (byte / 2)) (byte / 2) card_words)

-- the effect of a byte that is stored
abbrev pub taking : List ℕ → ℕ → ℕ → Held
taking image count byte = held (set image count byte) (count + 1) (completes (set image count byte) count)

-- the effect of a byte: it is stored, unless there is a damaged word or all 1,664 bytes are there
unfoldable pub one_more : Held → ℕ → Held
one_more h byte =
    pick (ltb h.damaged card_words) h
    (pick (leb image_bytes h.count) h
    (taking h.image h.count byte))

-- the effect of a piece
abbrev pub fed : Held → List ℕ → Held
fed h piece = foldl one_more h piece

-- the array before the first byte
abbrev pub fresh : List ℕ → Held
fresh lent = held lent 0 card_words

-- the effect of several pieces in turn
abbrev pub fed_all : Held → List (List ℕ) → Held
fed_all h pieces = foldl fed h pieces

-- ---- what the bytes so far determine, however they were cut into pieces

-- whether both bytes of a word are there and it is damaged
abbrev pub spoilt_at : List ℕ → ℕ → Bool
spoilt_at bytes word = pick (ltb (word * 2 + 1) (length bytes)) (damaged_at bytes word) false

-- the first such word of the card, or 832 if there is none
unfoldable pub first_spoilt : List ℕ → ℕ
first_spoilt bytes = first_from (spoilt_at bytes) 0 card_words

-- the number of bytes kept: none after the damaged word, and none past the card
unfoldable pub kept_of : List ℕ → ℕ
kept_of bytes = min (first_spoilt bytes * 2 + 2) (min (length bytes) image_bytes)

-- the state after these bytes: those kept are at the start of the caller's array, the rest of it is as it was
unfoldable pub state_of : List ℕ → List ℕ → Held
state_of lent bytes =
    held (take (kept_of bytes) bytes ++ drop (kept_of bytes) lent) (kept_of bytes) (first_spoilt bytes)

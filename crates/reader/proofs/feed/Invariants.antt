use Rattle.std.proofs.Common.{take}
use Rattle.map.specs.Map.{card_words}
use Rattle.reader.specs.Bytes.{held, Keeps, fed}
use Rattle.reader.proofs.feed.Given as goal

abbrev pub invariant-loop-byte : goal.invariant-loop-byte
invariant-loop-byte l = Keeps l.image l.kept (fed (held l.initial.image l.count card_words) (take l.byte-index l.piece))

-- `map640::field_of` meets its contract: each arm's words lie within one span of the map. Assumes nothing.
use native.Mathlib.Omega.{arith}
use lib.Dec.{lit≤}
use borrow.Author.Rules.{rules}
use Rattle.map640.proofs.Spans.{within, beyond, after}
use Rattle.map640.proofs.field_of.Goals as goal

pub returns-in-16 : goal.returns-in-16
returns-in-16 c = within 1 (omega arith) (omega arith)

pub returns-in-17 : goal.returns-in-17
returns-in-17 c = within 2 (omega arith) (omega arith)

pub returns-in-32 : goal.returns-in-32
returns-in-32 c = within 5 (omega arith) (omega arith)

pub returns-in-33 : goal.returns-in-33
returns-in-33 c = within 6 (omega arith) (omega arith)

pub returns-in-48 : goal.returns-in-48
returns-in-48 c = within 9 (omega arith) (omega arith)

pub returns-in-49 : goal.returns-in-49
returns-in-49 c = within 10 (omega arith) (omega arith)

pub returns-in-50 : goal.returns-in-50
returns-in-50 c = within 11 (omega arith) (omega arith)

pub returns-in-51 : goal.returns-in-51
returns-in-51 c = within 12 (omega arith) (omega arith)

pub returns-in-52 : goal.returns-in-52
returns-in-52 c = within 13 (omega arith) (omega arith)

pub returns-in-53 : goal.returns-in-53
returns-in-53 c = within 14 (omega arith) (omega arith)

pub returns-in-56 : goal.returns-in-56
returns-in-56 c = within 16 (omega arith) (omega arith)

pub returns-in-57 : goal.returns-in-57
returns-in-57 c = within 17 (omega arith) (omega arith)

pub returns-in-58 : goal.returns-in-58
returns-in-58 c = within 18 (omega arith) (omega arith)

pub returns-in-59 : goal.returns-in-59
returns-in-59 c = within 19 (omega arith) (omega arith)

pub returns-in-60 : goal.returns-in-60
returns-in-60 c = within 20 (omega arith) (omega arith)

pub returns-in-63 : goal.returns-in-63
returns-in-63 c = within 22 (omega arith) (omega arith)

pub returns-in-0-to-15 : goal.returns-in-0-to-15
returns-in-0-to-15 c = within 0 (search rules) (search rules)

pub returns-in-18-to-23 : goal.returns-in-18-to-23
returns-in-18-to-23 c = after 3 16 2 tt (lit≤ tt) (search rules) (search rules) (search rules)

pub returns-in-24-to-31 : goal.returns-in-24-to-31
returns-in-24-to-31 c = within 4 (search rules) (search rules)

pub returns-in-34-to-39 : goal.returns-in-34-to-39
returns-in-34-to-39 c = after 7 32 2 tt (lit≤ tt) (search rules) (search rules) (search rules)

pub returns-in-40-to-47 : goal.returns-in-40-to-47
returns-in-40-to-47 c = within 8 (search rules) (search rules)

pub returns-in-54-to-55 : goal.returns-in-54-to-55
returns-in-54-to-55 c = after 15 48 6 tt (lit≤ tt) (search rules) (search rules) (search rules)

pub returns-in-61-to-62 : goal.returns-in-61-to-62
returns-in-61-to-62 c = after 21 56 5 tt (lit≤ tt) (search rules) (search rules) (search rules)

pub returns-in-64-to-831 : goal.returns-in-64-to-831
returns-in-64-to-831 c = after 23 63 1 tt (lit≤ tt) (search rules) (search rules) (search rules)

pub returns-in_default : goal.returns-in_default
returns-in_default c = beyond (search rules)

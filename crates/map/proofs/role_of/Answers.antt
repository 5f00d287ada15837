-- `map::role_of` meets its contract: each arm's words lie within one span of the map. Assumes nothing.
use native.Mathlib.Omega.{arith}
use lib.Dec.{lit≤}
use borrow.Author.Rules.{rules}
use Rattle.map.specs.Map.{spans}
use Rattle.map.proofs.Spans.{within, beyond, after}
use Rattle.map.proofs.role_of.Goals as goal

pub returns-in-16 : goal.returns-in-16
unfolding spans
returns-in-16 c = within 1 (omega arith) (omega arith)

pub returns-in-21 : goal.returns-in-21
unfolding spans
returns-in-21 c = within 4 (omega arith) (omega arith)

pub returns-in-22 : goal.returns-in-22
unfolding spans
returns-in-22 c = within 5 (omega arith) (omega arith)

pub returns-in-23 : goal.returns-in-23
unfolding spans
returns-in-23 c = within 6 (omega arith) (omega arith)

pub returns-in-24 : goal.returns-in-24
unfolding spans
returns-in-24 c = within 7 (omega arith) (omega arith)

pub returns-in-34 : goal.returns-in-34
unfolding spans
returns-in-34 c = within 10 (omega arith) (omega arith)

pub returns-in-35 : goal.returns-in-35
unfolding spans
returns-in-35 c = within 11 (omega arith) (omega arith)

pub returns-in-38 : goal.returns-in-38
unfolding spans
returns-in-38 c = within 13 (omega arith) (omega arith)

pub returns-in-39 : goal.returns-in-39
unfolding spans
returns-in-39 c = within 14 (omega arith) (omega arith)

pub returns-in-42 : goal.returns-in-42
unfolding spans
returns-in-42 c = within 16 (omega arith) (omega arith)

pub returns-in-43 : goal.returns-in-43
unfolding spans
returns-in-43 c = within 17 (omega arith) (omega arith)

pub returns-in-44 : goal.returns-in-44
unfolding spans
returns-in-44 c = within 18 (omega arith) (omega arith)

pub returns-in-45 : goal.returns-in-45
unfolding spans
returns-in-45 c = within 19 (omega arith) (omega arith)

pub returns-in-46 : goal.returns-in-46
unfolding spans
returns-in-46 c = within 20 (omega arith) (omega arith)

pub returns-in-49 : goal.returns-in-49
unfolding spans
returns-in-49 c = within 22 (omega arith) (omega arith)

pub returns-in-50 : goal.returns-in-50
unfolding spans
returns-in-50 c = within 23 (omega arith) (omega arith)

pub returns-in-51 : goal.returns-in-51
unfolding spans
returns-in-51 c = within 24 (omega arith) (omega arith)

pub returns-in-52 : goal.returns-in-52
unfolding spans
returns-in-52 c = within 25 (omega arith) (omega arith)

pub returns-in-58 : goal.returns-in-58
unfolding spans
returns-in-58 c = within 27 (omega arith) (omega arith)

pub returns-in-59 : goal.returns-in-59
unfolding spans
returns-in-59 c = within 28 (omega arith) (omega arith)

pub returns-in-60 : goal.returns-in-60
unfolding spans
returns-in-60 c = within 29 (omega arith) (omega arith)

pub returns-in-61 : goal.returns-in-61
unfolding spans
returns-in-61 c = within 30 (omega arith) (omega arith)

pub returns-in-62 : goal.returns-in-62
unfolding spans
returns-in-62 c = within 31 (omega arith) (omega arith)

pub returns-in-63 : goal.returns-in-63
unfolding spans
returns-in-63 c = within 32 (omega arith) (omega arith)

pub returns-in-17-to-18 : goal.returns-in-17-to-18
unfolding spans
returns-in-17-to-18 c = after 2 16 1 tt (lit≤ tt) (search rules) (search rules) (search rules)

pub returns-in-25-to-27 : goal.returns-in-25-to-27
unfolding spans
returns-in-25-to-27 c = after 8 21 4 tt (lit≤ tt) (search rules) (search rules) (search rules)

pub returns-in-28-to-33 : goal.returns-in-28-to-33
unfolding spans
returns-in-28-to-33 c = within 9 (search rules) (search rules)

pub returns-in-36-to-37 : goal.returns-in-36-to-37
unfolding spans
returns-in-36-to-37 c = after 12 34 2 tt (lit≤ tt) (search rules) (search rules) (search rules)

pub returns-in-40-to-41 : goal.returns-in-40-to-41
unfolding spans
returns-in-40-to-41 c = after 15 38 2 tt (lit≤ tt) (search rules) (search rules) (search rules)

pub returns-in-47-to-48 : goal.returns-in-47-to-48
unfolding spans
returns-in-47-to-48 c = after 21 42 5 tt (lit≤ tt) (search rules) (search rules) (search rules)

pub returns-in-53-to-57 : goal.returns-in-53-to-57
unfolding spans
returns-in-53-to-57 c = after 26 49 4 tt (lit≤ tt) (search rules) (search rules) (search rules)

pub returns-in-64-to-255 : goal.returns-in-64-to-255
unfolding spans
returns-in-64-to-255 c = after 33 58 6 tt (lit≤ tt) (search rules) (search rules) (search rules)

pub returns-in-256-to-447 : goal.returns-in-256-to-447
unfolding spans
returns-in-256-to-447 c = within 34 (search rules) (search rules)

pub returns-in-448-to-639 : goal.returns-in-448-to-639
unfolding spans
returns-in-448-to-639 c = within 35 (search rules) (search rules)

pub returns-in-640-to-831 : goal.returns-in-640-to-831
unfolding spans
returns-in-640-to-831 c = within 36 (search rules) (search rules)

pub returns-in_default : goal.returns-in_default
unfolding spans
returns-in_default c = beyond (search rules)

pub returns-in-0-to-15 : goal.returns-in-0-to-15
unfolding spans
returns-in-0-to-15 c = within 0 (search rules) (search rules)

pub returns-in-0-to-15-2 : goal.returns-in-0-to-15-2
unfolding spans
returns-in-0-to-15-2 c = within 3 (search rules) (search rules)

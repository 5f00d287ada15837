-- The laws that callers cite are in Words and Counted; Spans has lemmas for the proofs of the code.
pub mod Words
pub mod Counted
pub mod Spans

-- The laws that callers cite; Sums has lemmas for Exact, and a test for an exact number.
pub mod Sums
pub mod Fields
pub mod Exact
pub mod Entries
pub mod Formula

-- Held, First, Exact and Low are the laws that callers cite. Range: bounds of the sums and their parts. Words: the fields of the words of shared numbers.
-- Bounds: when no pixel can be outside i16.
pub mod Range
pub mod Shared
mod Words
pub mod Held
pub mod First
mod Bounds
pub mod Exact
pub mod Low

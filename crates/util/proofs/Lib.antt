-- The laws that callers cite.
pub mod Width
pub mod Shift
pub mod Words
pub mod Range
pub mod Or
pub mod Found

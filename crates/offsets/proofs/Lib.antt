-- The laws that callers cite.
pub mod Range
pub mod Average

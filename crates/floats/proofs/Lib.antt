-- The laws that callers cite.
pub mod Nan
pub mod Power
pub mod Constants
pub mod Exact
pub mod Bound
pub mod Ratio

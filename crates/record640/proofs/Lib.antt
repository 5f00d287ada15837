-- The proof that only the range coefficients are rounded.
pub mod Exact

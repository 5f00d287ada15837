-- The numbers of the MLX90640's record. Exact: only the range coefficients are rounded.
pub mod Record
pub mod Exact

-- Numbers and tables in blocks, and the comparison of a result with the expected answer.
pub mod Blocks
pub mod Comparison

-- Chip words as C has them.
pub mod Border

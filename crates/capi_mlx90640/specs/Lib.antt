-- The results of the MLX90640's small calls as C has them.
pub mod Bigger

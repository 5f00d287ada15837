-- The MLX90640's record as C has it.
pub mod Record

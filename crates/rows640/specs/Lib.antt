-- The MLX90640's pixels by row and column. Turns states a law, as OneSubpage and ChessReadings in Mask do.
pub mod Rows
pub mod Mask
pub mod Turns

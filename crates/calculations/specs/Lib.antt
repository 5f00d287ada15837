-- The MLX90641's frame calls.
pub mod Frames

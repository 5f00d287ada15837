-- The map of the MLX90640's card.
pub mod Map

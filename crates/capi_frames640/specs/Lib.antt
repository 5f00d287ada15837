-- The arguments that C passes to an MLX90640's frame call.
pub mod Border

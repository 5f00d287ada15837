-- The arguments that C passes to an MLX90640's filtered frame call.
pub mod Border

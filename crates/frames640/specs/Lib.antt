-- The MLX90640's frame calls. Chess states what the chess pattern computes, Instances which laws of any camera hold for these calls.
pub mod Frames
pub mod Chess
pub mod Instances

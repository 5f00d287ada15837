-- Loading the MLX90640's card. Never: refusal 13 does not occur. Readings: the paper's examples that are proved. Inner is for inner functions only.
pub mod Load
pub mod Never
pub mod Readings
pub mod Inner

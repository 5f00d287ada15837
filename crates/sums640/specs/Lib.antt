-- The whole numbers of the MLX90640's pixels, and four claims: no sum leaves 32 bits; refusal 5 exactly when and for which pixel; no f32 step rounds; a
-- number that is not refused equals its low 16 bits as a signed number. Inner is for inner functions only.
pub mod Sums
pub mod Inner
pub mod Held
pub mod First
pub mod Exact
pub mod Low

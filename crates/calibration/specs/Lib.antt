-- The calibration record, and its range coefficients. Inner is for inner functions only.
pub mod Calibration
pub mod Coefficients
pub mod Inner

-- Apart, Ends, Nearest, Demand and Readings are for callers to cite; Numbers, Squares, Magnitude, Values and Digits are for `roots`, which takes roots in
-- blocks; the rest is for their proofs.
mod Patterns
pub mod Numbers
mod Fractions
pub mod Squares
pub mod Magnitude
mod Unique
pub mod Digits
mod Exists
pub mod Values
mod Bits
mod Fourth
mod Kelvin
pub mod Apart
pub mod Ends
pub mod Nearest
pub mod Demand
pub mod Readings

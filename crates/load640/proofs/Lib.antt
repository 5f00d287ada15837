-- Single: the contract of a load determines its result. Never: refusal 13 does not occur. Readings: all readings hold. Opened: what holds once the gate
-- has passed.
pub mod Single
pub mod Never
pub mod Readings
mod Opened

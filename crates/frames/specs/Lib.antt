-- The frame calls of any camera. Inner is for inner functions only.
pub mod Frames
pub mod Ranged
pub mod Demand
pub mod Lost
pub mod OneOrTwo
pub mod Filtered
pub mod Inner

-- The tests that refuse a frame call.
pub mod Gate

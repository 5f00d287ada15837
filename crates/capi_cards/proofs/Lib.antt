-- Rows is for the proof of the row reader; Single states that each call's promise determines its result.
mod Rows
pub mod Single

-- Single states that each call's promise determines its result.
pub mod Single

-- Single states that the call's promise determines its result.
pub mod Single

-- The result of a scrub as C has it.
pub mod Scrubbing

-- The laws that callers cite.
pub mod Tests
pub mod Words
pub mod Single
pub mod Steps
pub mod Onward
pub mod Run
pub mod Told
pub mod Bound
pub mod Ends

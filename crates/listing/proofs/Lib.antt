-- The laws that callers cite; Kept is for loops that store words in lists.
pub mod Kept
pub mod Index
pub mod Opened
pub mod Single

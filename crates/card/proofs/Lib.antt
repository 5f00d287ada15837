-- The laws that callers cite are in Data and Times.
mod Reading
mod Stretch
pub mod Data
pub mod Times

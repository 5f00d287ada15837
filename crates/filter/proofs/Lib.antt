-- Latest is the law that callers cite; the others are for its proof and those of the code.
mod Sum
mod Totals
pub mod Latest

-- Laws of the comparison.
mod Passing

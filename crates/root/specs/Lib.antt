-- What `root` promises. A reader needs Root, Nearest and Demand; Whole is for the contracts of the inner functions.
pub mod Root
pub mod Nearest
pub mod Demand
pub mod Whole

-- The numbered refusals, and their order.
pub mod Refusal
pub mod Order

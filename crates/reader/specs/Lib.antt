-- Reading a card that arrives in pieces: its bytes, the calls that take them, and what is proved of the calls.
pub mod Bytes
pub mod Calls
pub mod Laws

-- What the code of `choice` gives: sums over lanes, and keys of colours.
pub mod LaneSums
pub mod Keys

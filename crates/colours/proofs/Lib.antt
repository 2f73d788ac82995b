-- The laws of `colours`. `Theorems` has those that a user of the crate relies on, in one page; the others argue for them and for the code.
pub mod Bits
pub mod CommonColours
pub mod Ranges
pub mod DroppedBits
pub mod ExactDivision
pub mod CacheSets
pub mod RoundTrip
pub mod ConsecutiveSets
pub mod Replies
pub mod Theorems

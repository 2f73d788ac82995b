-- The laws of the tests of a plan, for the crates above: refusals 17 to 20 in their order, and what it gives that 15 to 20 pass.
pub mod RowFaults
pub mod Validity
mod Sharing

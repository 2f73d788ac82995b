-- The claim over the table.
pub mod Claim

-- The proofs of the claims: the examples of the domain rule and of even use, the order of moves, quotas, taking back, accounts of frames, the colours reloaded, plans that
-- reach the bound on rounds, and every claim from the theorem of its own crate.
pub mod TestNumbers
pub mod RefusedRows
pub mod BelowCount
pub mod EveryCall
pub mod Looks
pub mod EvenUse
pub mod PageOrder
pub mod Quotas
pub mod TakingBack
pub mod Accounts
pub mod Reload
pub mod RowTimes
pub mod Rounds
pub mod ProvedClaims

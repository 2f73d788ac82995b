-- The page of claims: everything that is claimed beyond the contracts of the functions, a file for each subject, and all of them as one type.
pub mod Colours
pub mod Histories
pub mod EveryCall
pub mod Looks
pub mod EvenUse
pub mod PageOrder
pub mod Quotas
pub mod TakingBack
pub mod Accounts
pub mod OnePass
pub mod Times
pub mod RowTimes
pub mod Reload
pub mod Rounds
pub mod Interface
pub mod Claims

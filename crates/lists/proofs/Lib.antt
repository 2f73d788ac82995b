-- The laws of `lists`, for every crate's proofs.
pub mod CaseSplits
pub mod PassingNumbers
pub mod RangeLoops
pub mod Finds
pub mod Searches
pub mod AgreeingTests
pub mod Members
pub mod FilteredRange
pub mod WrittenLists
pub mod FewestNumber
pub mod Totals
pub mod FilledArrays

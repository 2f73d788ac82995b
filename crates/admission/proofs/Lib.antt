-- The laws of `admission`.
pub mod RefusalOrder
pub mod CoreVcpus
pub mod RowLoops
pub mod LentLists
pub mod RoundSearches

-- The laws of `frames`.
pub mod PageCallOutcome
pub mod QuotaOutcome
pub mod PageSearch

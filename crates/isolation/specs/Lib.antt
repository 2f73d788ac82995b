-- The statements over histories: the domain rule, even use of colours, quotas, taking a recolouring back, and frames accounted for.
pub mod DomainRule
pub mod EvenUse
pub mod Quotas
pub mod TakingBack
pub mod Kinds
pub mod Accounts

-- The laws of need and of the search for a time.
pub mod Search
pub mod CountedRounds
pub mod Needs
pub mod Bounds
pub mod RoundsBound
pub mod Planner
pub mod FitRows
pub mod PlanRounds
pub mod SafeSide
pub mod AddedRows

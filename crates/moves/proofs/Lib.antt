-- The laws of `moves`.
pub mod OneMove
pub mod StrayLimits
pub mod MovesInvariant
pub mod PageCounts
pub mod NextColour
pub mod StartingKeys
pub mod RecolouringReply
pub mod NextBoard

-- The claims, pinned; and an instance of each theorem, from the member of the claims alone.
pub mod Pinned
pub mod Boards
pub mod Colours
pub mod Histories

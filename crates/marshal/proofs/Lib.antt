-- The laws of `marshal`: the words of a board, and replies that are told.
pub mod BoardRoundTrip
pub mod Tellings

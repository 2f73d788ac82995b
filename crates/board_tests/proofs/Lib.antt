-- The laws of `board_tests`: refusals 5 to 7 in their order, and one pass over all domains.
pub mod DomainFaults
pub mod FaultlessBoard

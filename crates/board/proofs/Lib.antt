-- The laws of `board`, for the crates above it: 2 to 8 and 26 taken apart and put together.
pub mod PassedTests

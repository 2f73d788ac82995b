-- The laws of `refusal`, for the crates above it.
pub mod Replies
pub mod Order
pub mod Results

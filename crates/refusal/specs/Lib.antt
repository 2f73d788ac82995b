-- The definitions of `refusal`: replies and their tests, the numbers of refusals, what is printed of one, and what its row names.
pub mod Reply
pub mod Numbers
pub mod Printed
pub mod Rows

-- The definitions of `admission`: its reply and the lists of times and rounds afterwards, what a search keeps of earlier rows and what it finds, and
-- what the loops over the rows find.
pub mod Admission
pub mod Paper
pub mod RowTimes
pub mod EarlierRows
pub mod Searches

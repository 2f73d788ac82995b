-- The definitions of `table_words`: words as the code counts them, and sets by a mask and by lane.
pub mod Words
pub mod Sets

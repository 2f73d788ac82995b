-- The definitions of `colours`, in the order in which they build on each other.
pub mod Sets
pub mod Cache
pub mod Pages

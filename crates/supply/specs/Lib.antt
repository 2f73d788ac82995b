-- The least supply of a periodic resource.
pub mod Supply

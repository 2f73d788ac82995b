-- The laws of supply.
pub mod Laws

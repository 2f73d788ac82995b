-- The laws of the part of a VCPU, and of the charges of earlier rows.
pub mod Parts
pub mod Charging

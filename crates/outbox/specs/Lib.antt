pub mod Rows
pub mod Masks
pub mod Receivers
pub mod Orders
pub mod Told
pub mod Contents
pub mod Laws

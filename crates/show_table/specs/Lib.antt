pub mod Laws
pub mod Retold

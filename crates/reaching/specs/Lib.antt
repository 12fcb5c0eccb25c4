pub mod Contents
pub mod Left
pub mod Setting
pub mod Marks
pub mod Columns
pub mod Setters
pub mod Laws
pub mod Mends

pub mod Options
pub mod Stop
pub mod Parts
pub mod Number
pub mod Base
pub mod Laws

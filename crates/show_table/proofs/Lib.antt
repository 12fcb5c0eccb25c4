pub mod Heard
pub mod Named
pub mod Rounds
pub mod Tables
pub mod Trees

pub mod Accesses
pub mod Arranged
pub mod ErrorText
pub mod Keeping
pub mod Reading
pub mod Retraced
pub mod Seeded

pub mod Inside
pub mod Near
pub mod Sets
pub mod SetRows
pub mod NumberRows
pub mod ValueRows
pub mod WindowRows

-- How labels are written.
pub use Rattle.book.proofs.Naming.{dotted_one, dotted_more}

-- A general's part, which is what he does in the open round: a traitor has an activation, and a loyal general has
-- posted his letter or not (own).
use Rattle.std.specs.Prelude.{Bool, true, false}
pub use Rattle.world.specs.declared.part.Progress.{Progress}
pub use Rattle.world.specs.declared.part.Progress.TheVariants.{Acting, Silent, Posted}

-- Returns whether the round can be closed without missing this general's letter. A traitor's letter is made from his
-- activation when the round is closed.
abbrev pub owes_no_letter : Progress → Bool
owes_no_letter (Acting a) = true
owes_no_letter Silent = false
owes_no_letter Posted = true

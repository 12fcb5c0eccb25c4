-- What a stack cell holds at a unit of a program, from what the verifier knows at each unit (own).
use Rattle.std.specs.Prelude.{ℕ, ◌<◌, ◌≤◌, Bool, length, slice_get}
use Rattle.insn.specs.Program.{slots_of}
use Rattle.reaching.specs.Marks.{KnownByUnit}
use Rattle.reaching.specs.Columns.{AreColumns}
use Rattle.explain.specs.declared.sources.Surveyed.{Surveyed}
use Rattle.explain.specs.declared.sources.Here.{Here}
use Rattle.explain.specs.declared.sources.Held.{Held}
use Rattle.explain.specs.Sources.{Holding, holding, same_holding}

-- Returns what the verifier knows at each unit.
abbrev pub known_of : Surveyed → KnownByUnit
known_of s = slice_get s.states.now

-- States that nothing is known after the program's end, and that the columns say which units set each stack
-- cell last on the paths to each unit.
pub record IsSurveyed (s : Surveyed) : Type 0 where
  pub room : length s.states.now ≤ length (slots_of s.program.now)
  pub columns : AreColumns s.program.now (known_of s) s.columns.now

-- States that the unit is one of the program, and that what is known of the program is complete.
pub record Stands (here : Here) : Type 0 where
  pub inside : here.unit < length (slots_of here.surveyed.program.now)
  pub surveyed : IsSurveyed here.surveyed

-- Returns what a stack cell holds at the unit, and the units that set it.
abbrev pub held_here : Here → ℕ → Holding
held_here here = holding here.surveyed.program.now (known_of here.surveyed) here.unit here.stack.now

-- Returns whether two cells have the same content, set by the same units.
abbrev pub same_held : Held → Held → Bool
same_held one other = same_holding (one.content, one.setters) (other.content, other.setters)

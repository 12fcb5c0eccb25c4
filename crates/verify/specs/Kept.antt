-- Defines the states that the code keeps for units that the pass has not visited yet (own).
use Rattle.std.specs.Prelude.{ℕ, ℤ, pos, ◌-◌, ◌≡◌, ◌<ℤ◌, ◌<◌, ◌≤◌, List, ◌++◌, length, replicate, Option, None, Box, map, option_map, slice_set}
use Rattle.std.specs.declared.alloc.Global.{Global}
use Rattle.insn.specs.declared.insn.Insn.{Insn}
use Rattle.semantics.specs.Plain.{IsIn, leads_to}
use Rattle.verify.specs.declared.state.AbsState.{AbsState}
use Rattle.verify.specs.Judgement.{KnownSoFar, reached_at}

-- Returns the state in a box, if one is kept.
abbrev pub unboxed : Option (Box AbsState Global) → Option AbsState
unboxed kept = option_map (λ b. b.value) kept

-- The states that are kept for the units, and the number of units, from the first on, for which the code has an entry.
pub record KeptStates : Type 0 where
  pub items : KnownSoFar
  pub places : ℕ

-- Returns the states in a list of boxes.
abbrev pub all_unboxed : List (Option (Box AbsState Global)) → KnownSoFar
all_unboxed states = map unboxed states

-- Extends a list of states to `units` units. No state is kept for the added ones.
abbrev pub padded : ℕ → KnownSoFar → KnownSoFar
padded units known = known ++ replicate (units - length known) None

-- States that there are at most as many entries as units, and that the memory suffices for one entry for each unit.
pub record HasRoom (places capacity units : ℕ) : Type 0 where
  pub inside : places ≤ units
  pub room : units ≤ capacity

-- States that `hand` is the state of `unit` in `reached`, and that `kept` is `reached` with no state at `unit`.
pub record AtHand (reached : KnownSoFar) (unit : ℕ) (hand : Option (Box AbsState Global)) (kept : KnownSoFar)
    : Type 0 where
  pub here : unboxed hand ≡ reached_at reached unit
  pub rest : kept ≡ slice_set reached unit None

-- States that each edge of the instruction at `unit` leads to a unit below `end`.
abbrev pub EdgesInside : Insn → ℕ → ℕ → Type 0
EdgesInside i unit end = (v : ℕ) → IsIn (pos v) (leads_to i unit) → v < end

-- States that each edge of the instruction at `unit` leads forward.
abbrev pub EdgesForward : Insn → ℕ → Type 0
EdgesForward i unit = (z : ℤ) → IsIn z (leads_to i unit) → pos unit <ℤ z

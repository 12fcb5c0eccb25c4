-- Where jumps to names lead.
use Rattle.std.specs.Prelude.{ℕ, ℤ, pos, ◌≡◌, ◌+◌, ◌+ℤ◌, List, ◌∷◌, ◌++◌, Option, Some, None, Ok}
use Rattle.std.specs.List.{sum_by}
use Rattle.insn.specs.declared.insn.Insn.{Insn}
use Rattle.insn.specs.declared.insn.Insn.TheVariants as insns
use Rattle.insn.specs.Program.{instruction_at}
use Rattle.asm.specs.Operand.{Goal, Away, Named}
use Rattle.asm.specs.Statement.{Source, Plain, Jump, LongJump, Branch}
use Rattle.asm.specs.Line.{Outline, outline_of}
use Rattle.asm.specs.Program.{Placed, Read, placed_units, units_in, read_on, nothing, lines_of, said}

-- Returns the name to which a jump leads, if its target is a name.
abbrev pub name_in : Goal → Option (List ℕ)
name_in (Away n) = None
name_in (Named name) = Some name

-- Returns the name to which an instruction jumps, if it jumps to one.
abbrev pub goal_name : Source → Option (List ℕ)
goal_name (Plain insn) = None
goal_name (Jump goal) = name_in goal
goal_name (LongJump goal) = name_in goal
goal_name (Branch width condition dst operand goal) = name_in goal

-- Returns the distance of an instruction's jump, if it is a jump.
abbrev pub distance_in : Insn → Option ℤ
distance_in (insns.Jump distance) = Some distance
distance_in (insns.LongJump distance) = Some distance
distance_in (insns.Branch width condition dst operand distance) = Some distance
distance_in _ = None

-- States that a line of the text has this name, and that the lines before it take `unit` units.
pub record IsDefinedAt (lines : List (List ℕ)) (name : List ℕ) (unit : ℕ) : Type 0 where
  pub front : List (List ℕ)
  pub line : List ℕ
  pub back : List (List ℕ)
  pub parts : lines ≡ front ++ line ∷ back
  pub outline : Outline
  pub outlined : outline_of line ≡ Some outline
  pub named : outline.name ≡ Some name
  pub before : Read
  pub faultless : read_on nothing 1 front ≡ Ok before
  pub counted : unit ≡ units_in before

-- States that the instruction at this unit jumps to the unit for which the name is defined. The distance is counted
-- from the next unit.
pub record LeadsTo (text : List ℕ) (program : List Insn) (unit : ℕ) (name : List ℕ) : Type 0 where
  pub jump : Insn
  pub stands : instruction_at program unit ≡ Some jump
  pub distance : ℤ
  pub far : distance_in jump ≡ Some distance
  pub target : ℕ
  pub defined : IsDefinedAt (lines_of text) name target
  pub lands : pos (unit + 1) +ℤ distance ≡ pos target

-- States that each jump to a name in a text becomes a jump to the unit for which the name is defined.
abbrev pub JumpsLeadToNames : Type 0
JumpsLeadToNames = (text : List ℕ) (program : List Insn) (read : Read) (front : List Placed) (p : Placed)
    (back : List Placed) (name : List ℕ) →
    said text ≡ Ok program → read_on nothing 1 (lines_of text) ≡ Ok read → read.sources ≡ front ++ p ∷ back →
    goal_name p.source ≡ Some name →
    LeadsTo text program (sum_by placed_units front) name

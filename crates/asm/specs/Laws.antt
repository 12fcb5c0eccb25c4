-- Laws of the assembler: its tables, and the first fault of a text.
use Rattle.std.specs.Prelude.{ℕ, ℤ, pos, ◌≡◌, ◌+◌, ◌<◌, ◌≤◌, ◌⊎◌, max, List, [], ◌∷◌, ◌++◌, Some, Ok, Err, length, slice_get}
use Rattle.std.specs.List.{sum_by}
use Rattle.insn.specs.declared.insn.Insn.{Insn}
use Rattle.insn.specs.Program.{most_units}
use Rattle.asm.specs.declared.fault.AsmFault.{AsmFault}
use Rattle.asm.specs.declared.fault.AsmFault.TheVariants.{Count}
use Rattle.asm.specs.declared.fault.AsmError.TheVariants.{At}
use Rattle.asm.specs.declared.mnemonic.Mnemonic.{Mnemonic}
use Rattle.asm.specs.Helper.{helpers, helper_of}
use Rattle.asm.specs.Operand.{register_of}
use Rattle.asm.specs.Table.{IsMnemonic, name_of, mnemonic_of}
use Rattle.asm.specs.Program.{Placed, Read, placed_units, units_in, line_read, read_on, nothing, insn_of, insns_on, lines_of, said}
use Rattle.asm.specs.Printing.{register_text}

-- States that exactly the texts `r0` to `r10` are read as registers, each as the one with this number, and that
-- registers are written so.
pub record RegistersAreNumbered : Type 0 where
  pub read : (text : List ℕ) (r : ℕ) → register_of text ≡ Some r → (r ≤ 10) × (text ≡ register_text r)
  pub written : (r : ℕ) → r ≤ 10 → register_of (register_text r) ≡ Some r

-- States that each mnemonic in the table is read from its own word, and from no other.
pub record MnemonicsAreNamed : Type 0 where
  pub read : (word : List ℕ) (m : Mnemonic) → mnemonic_of word ≡ Some m → IsMnemonic m × (word ≡ name_of m)
  pub written : (m : Mnemonic) → IsMnemonic m → mnemonic_of (name_of m) ≡ Some m

-- States that each name in the list of helpers is read as its number, counted from 1, and that no other word is read as
-- a helper.
pub record HelpersAreNumbered : Type 0 where
  pub read : (word : List ℕ) (number : ℤ) → helper_of word ≡ Some number →
      (k : ℕ) × (slice_get helpers k ≡ Some word) × (number ≡ pos (k + 1))
  pub written : (k : ℕ) (word : List ℕ) → slice_get helpers k ≡ Some word → helper_of word ≡ Some (pos (k + 1))

-- States that the line with this number has this fault, and that no earlier line has one.
pub record IsFirstLine (lines : List (List ℕ)) (fault : AsmFault) (number : ℕ) : Type 0 where
  pub front : List (List ℕ)
  pub line : List ℕ
  pub back : List (List ℕ)
  pub parts : lines ≡ front ++ line ∷ back
  pub counted : number ≡ length front + 1
  pub before : Read
  pub faultless : read_on nothing 1 front ≡ Ok before
  pub own : line_read before number line ≡ Err fault

-- States that no line has a fault of its own, but the program has no units or too many.
pub record IsMiscounted (lines : List (List ℕ)) (fault : AsmFault) (number : ℕ) : Type 0 where
  pub read : Read
  pub faultless : read_on nothing 1 lines ≡ Ok read
  pub units : (units_in read ≡ 0) ⊎ (most_units < units_in read)
  pub is : (fault ≡ Count) × (number ≡ max 1 (length lines))

-- States that no line has a fault of its own and the number of units is allowed, and that the jump on this line is the
-- first whose name is not defined or whose distance is too great.
pub record IsFirstJump (lines : List (List ℕ)) (fault : AsmFault) (number : ℕ) : Type 0 where
  pub read : Read
  pub faultless : read_on nothing 1 lines ≡ Ok read
  pub units : (0 < units_in read) × (units_in read ≤ most_units)
  pub front : List Placed
  pub jump : Placed
  pub back : List Placed
  pub parts : read.sources ≡ front ++ jump ∷ back
  pub before : List Insn
  pub resolved : insns_on read.names 0 [] front ≡ Ok before
  pub own : insn_of read.names (sum_by placed_units front) jump.source ≡ Err fault
  pub is : number ≡ jump.line

-- States that a text is rejected with its first fault and its line. Faults of single lines come first, then a wrong
-- number of units, then jumps whose name is not defined or whose distance is too great.
pub record FaultsAreFirst : Type 0 where
  pub only : (text : List ℕ) (fault : AsmFault) (number : ℕ) → said text ≡ Err (At fault number)
      → IsFirstLine (lines_of text) fault number
      ⊎ (IsMiscounted (lines_of text) fault number ⊎ IsFirstJump (lines_of text) fault number)
  pub line : (text : List ℕ) (fault : AsmFault) (number : ℕ) → IsFirstLine (lines_of text) fault number →
      said text ≡ Err (At fault number)
  pub count : (text : List ℕ) (fault : AsmFault) (number : ℕ) → IsMiscounted (lines_of text) fault number →
      said text ≡ Err (At fault number)
  pub jump : (text : List ℕ) (fault : AsmFault) (number : ℕ) → IsFirstJump (lines_of text) fault number →
      said text ≡ Err (At fault number)

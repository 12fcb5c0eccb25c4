-- The program that a text is assembled to, or the text's first fault.
use Rattle.std.specs.Prelude.{ℕ, ◌+◌, ◌-◌, ◌^◌, max, List, [], ◌∷◌, ◌++◌, ◌==◌, ◌&&◌, nat_lt, nat_le, if◌then◌else◌, Option, Some, None, Result, Ok, Err, is_some, length, slice_index, take}
use Rattle.std.specs.Option.{ok_or}
use Rattle.std.specs.Result.{result_ok}
use Rattle.std.specs.List.{sum_by}
use Rattle.text.specs.Stop.{feed}
use Rattle.text.specs.Parts.{pieces}
use Rattle.insn.specs.declared.insn.Insn.{Insn}
use Rattle.insn.specs.declared.insn.Insn.TheVariants as insns
use Rattle.insn.specs.Insn.{units_of}
use Rattle.insn.specs.Program.{most_units}
use Rattle.asm.specs.declared.fault.AsmFault.{AsmFault}
use Rattle.asm.specs.declared.fault.AsmFault.TheVariants as faults
use Rattle.asm.specs.declared.fault.AsmError.{AsmError}
use Rattle.asm.specs.declared.fault.AsmError.TheVariants.{At}
use Rattle.asm.specs.Faults.{at_line, ◌>>=◌}
use Rattle.asm.specs.Number.{signed_within}
use Rattle.asm.specs.Statement.{Source, Plain, Jump, LongJump, Branch, statement_of}
use Rattle.asm.specs.Line.{Outline, outline_of}
use Rattle.asm.specs.Distance.{defined, distance_of}

-- Returns a line without the carriage return at its end, if it has one.
abbrev pub without_return : List ℕ → List ℕ
without_return line = if slice_index line (length line - 1) == 13 then take (length line - 1) line else line

-- Returns the lines of a text that was split at its line feeds. After the last line feed there is no line if the text
-- ends there.
abbrev pub ended : List (List ℕ) → List (List ℕ)
ended [] = []
ended ([] ∷ []) = []
ended ((c ∷ cs) ∷ []) = (c ∷ cs) ∷ []
ended (line ∷ next ∷ lines) = without_return line ∷ ended (next ∷ lines)

-- Returns the lines of a text.
abbrev pub lines_of : List ℕ → List (List ℕ)
lines_of text = ended (pieces feed text)

-- Returns the number of units that an instruction takes.
abbrev pub source_units : Source → ℕ
source_units (Plain insn) = units_of insn
source_units (Jump goal) = 1
source_units (LongJump goal) = 1
source_units (Branch width condition dst operand goal) = 1

-- An instruction, and the number of its line.
pub record Placed : Type 0 where
  pub source : Source
  pub line : ℕ

-- Returns the number of units that the instruction takes.
abbrev pub placed_units : Placed → ℕ
placed_units p = source_units p.source

-- What the lines read so far contain: the names with their units, and the instructions.
pub record Read : Type 0 where
  pub names : List (List ℕ × ℕ)
  pub sources : List Placed

-- Returns the number of units that the instructions read so far take.
abbrev pub units_in : Read → ℕ
units_in r = sum_by placed_units r.sources

-- Defines a name for the next unit. It must not be defined already (A5).
abbrev pub with_name : Read → Option (List ℕ) → Result Read AsmFault
with_name r None = Ok r
with_name r (Some name) =
    if is_some (defined r.names name) then Err faults.Twice else Ok (record r { names = (name, units_in r) ∷ r.names })

-- Appends the instruction of a line, if the line has one.
abbrev pub with_source : Read → ℕ → Option Source → Read
with_source r line None = r
with_source r line (Some source) = record r { sources = r.sources ++ (record { source = source; line = line }) ∷ [] }

-- Appends the instruction that these words are, if there are any.
unfoldable pub with_words : Read → ℕ → List (List ℕ) → Result Read AsmFault
with_words r line words = statement_of words >>= λ statement. Ok (with_source r line statement)

-- Adds the name and the instruction of a line.
unfoldable pub with_line : Read → ℕ → Outline → Result Read AsmFault
with_line r line o = with_name r o.name >>= λ next. with_words next line o.words

-- Adds one more line. Its form is checked first (A1), then its name, then its instruction.
unfoldable pub line_read : Read → ℕ → List ℕ → Result Read AsmFault
line_read r line text = ok_or (outline_of text) faults.Line >>= λ o. with_line r line o

-- Adds these lines, the first of which has this number, or returns the fault of the first line that has one.
abbrev pub read_on : Read → ℕ → List (List ℕ) → Result Read AsmError
read_on r line [] = Ok r
read_on r line (text ∷ texts) = at_line line (line_read r line text) >>= λ next. read_on next (line + 1) texts

-- Returns the instruction with the distance of its jump. The name must be defined (A4), and the distance in its range
-- (A6).
abbrev pub insn_of : List (List ℕ × ℕ) → ℕ → Source → Result Insn AsmFault
insn_of names unit (Plain insn) = Ok insn
insn_of names unit (Jump goal) =
    ok_or (distance_of names unit goal) faults.Label >>= λ n.
    ok_or (signed_within (2 ^ 15) n) faults.Range >>= λ distance.
    Ok (insns.Jump distance)
insn_of names unit (LongJump goal) =
    ok_or (distance_of names unit goal) faults.Label >>= λ n.
    ok_or (signed_within (2 ^ 31) n) faults.Range >>= λ distance.
    Ok (insns.LongJump distance)
insn_of names unit (Branch width condition dst operand goal) =
    ok_or (distance_of names unit goal) faults.Label >>= λ n.
    ok_or (signed_within (2 ^ 15) n) faults.Range >>= λ distance.
    Ok (insns.Branch width condition dst operand distance)

-- Returns the instructions `done`, and then those that remain, with the distances of their jumps.
abbrev pub insns_on : List (List ℕ × ℕ) → ℕ → List Insn → List Placed → Result (List Insn) AsmError
insns_on names unit done [] = Ok done
insns_on names unit done (p ∷ ps) = at_line p.line (insn_of names unit p.source) >>= λ insn. insns_on names
    (unit + placed_units p) (done ++ insn ∷ []) ps

-- What has been read before the first line: nothing.
abbrev pub nothing : Read
nothing = record { names = []; sources = [] }

-- Returns the program that was read. It must have 1 to 4,096 units (A7, at the number of lines, or at 1 if there are
-- none), and then its jumps are checked.
abbrev pub program_in : ℕ → Read → Result (List Insn) AsmError
program_in lines r = if nat_lt 0 (units_in r) && nat_le (units_in r) most_units then insns_on r.names 0 [] r.sources
    else Err (At faults.Count (max 1 lines))

-- Returns the program that a text is assembled to, or the first fault with its line.
unfoldable pub said : List ℕ → Result (List Insn) AsmError
said text = read_on nothing 1 (lines_of text) >>= λ r. program_in (length (lines_of text)) r

-- Returns the program that a text assembles to, if it has no fault.
abbrev pub program_of : List ℕ → Option (List Insn)
program_of text = result_ok (said text)

-- The bytes that a text is assembled to if some units are written as `.unit 0x..`.
use Rattle.std.specs.Prelude.{ℕ, ◌+◌, ◌==◌, nat_eq, if◌then◌else◌, Bool, List, [], ◌∷◌, ◌++◌, codes, drop, slice_index, Result, Ok, Err}
use Rattle.std.specs.List.{starts_with}
use Rattle.std.specs.Str.{bytes_eq}
use Rattle.hex.specs.Hex.{decode_sized}
use Rattle.hex.specs.declared.error.FromHexError.{FromHexError}
use Rattle.text.specs.declared.stop.Stop.TheVariants.{Blank, Solid}
use Rattle.text.specs.Stop.{semicolon}
use Rattle.text.specs.Parts.{before, from, lines_of}
use Rattle.insn.specs.declared.insn.Insn.{Insn}
use Rattle.codec.specs.Spelling.{program_bytes}
use Rattle.asm.specs.declared.fault.AsmFault.{AsmFault}
use Rattle.asm.specs.declared.fault.AsmFault.TheVariants.{Mnemonic, Operand, Count}
use Rattle.asm.specs.declared.fault.AsmError.{AsmError}
use Rattle.asm.specs.declared.fault.AsmError.TheVariants.{At, Memory}
use Rattle.asm.specs.Faults.{at_line, ◌>>=◌}
use Rattle.asm.specs.Line.{is_all_blank}
use Rattle.asm.specs.Program.{said}

-- Returns the decoded bytes, or the fault of the operand if the digits are not those of eight bytes (A3).
abbrev pub in_bytes : Result (List ℕ) FromHexError → Result (List ℕ) AsmFault
in_bytes (Ok bytes) = Ok bytes
in_bytes (Err error) = Err Operand

-- Returns the eight bytes that `0x` and sixteen hexadecimal digits are, in order.
abbrev pub eight_of : List ℕ → Result (List ℕ) AsmFault
eight_of number =
    if starts_with nat_eq number (codes "0x") then in_bytes (decode_sized (drop 2 number) 8) else Err Operand

-- Returns the eight bytes of the operand of `.unit`, after which spaces and tabs may follow.
abbrev pub unit_in : List ℕ → Result (List ℕ) AsmFault
unit_in operand = if is_all_blank (from Blank operand) then eight_of (before Blank operand) else Err Operand

-- Returns the eight bytes of a line with `.unit` and its operand.
abbrev pub raw_in : List ℕ → Result (List ℕ) AsmFault
raw_in code =
    if bytes_eq (before Blank code) (codes ".unit") then unit_in (from Solid (from Blank code)) else Err Mnemonic

-- Returns the bytes of a line that is assembled by itself, so that the names of other lines are not known. A line
-- without an instruction has no bytes.
abbrev pub alone : Result (List Insn) AsmError → Result (List ℕ) AsmFault
alone (Ok program) = Ok (program_bytes program)
alone (Err (At Count line)) = Ok []
alone (Err (At fault line)) = Err fault
alone (Err Memory) = Ok []

-- Returns whether the line begins with a dot, after spaces and tabs. No mnemonic does.
abbrev pub is_dotted : List ℕ → Bool
is_dotted line = slice_index (from Solid line) 0 == 46

-- Returns the bytes of a line.
abbrev pub line_bytes : List ℕ → Result (List ℕ) AsmFault
line_bytes line = if is_dotted line then raw_in (before semicolon (from Solid line)) else alone (said line)

-- Returns the bytes `done`, and then those of these lines, the first of which has this number, or the fault of the
-- first line that has one.
abbrev pub bytes_on : List ℕ → ℕ → List (List ℕ) → Result (List ℕ) AsmError
bytes_on done number [] = Ok done
bytes_on done number (line ∷ lines) =
    at_line number (line_bytes line) >>= λ bytes. bytes_on (done ++ bytes) (number + 1) lines

-- Returns the bytes that a text is assembled to, or the first fault with its line.
unfoldable pub bytes_said : List ℕ → Result (List ℕ) AsmError
bytes_said text = bytes_on [] 1 (lines_of text)

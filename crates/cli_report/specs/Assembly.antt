-- Defines the report of a fault of an assembly text: the sentence for each code, the part of the line to mark, and the
-- help message (own).
use Rattle.std.specs.Prelude.{ℕ, List, [], ◌∷◌, Bool, true, false, ◌+◌, ◌-◌, ◌==◌, ◌&&◌, ◌||◌, not, nat_lt, nat_eq, if◌then◌else◌, Option, None, Some, codes, drop, length, option_map}
use Rattle.std.specs.Borrow.{Bor}
use Rattle.std.specs.List.{list_any, starts_with}
use Rattle.text.specs.declared.stop.Stop.TheVariants.{Blank, Solid}
use Rattle.text.specs.Stop.{colon, comma, is_within, semicolon}
use Rattle.text.specs.Parts.{before, from, pieces, until}
use Rattle.asm.specs.Helper.{helpers}
use Rattle.asm.specs.declared.fault.AsmFault.{AsmFault}
use Rattle.asm.specs.declared.fault.AsmFault.TheVariants as fault
use Rattle.cli_report.specs.declared.assembly.Spot.{Spot as Held}
use Rattle.cli_report.specs.declared.mnemonics.Takes.{Takes}
use Rattle.cli_report.specs.declared.mnemonics.Takes.TheVariants as takes
use Rattle.cli_report.specs.Lines.{line_at, marked, trimmed}
use Rattle.cli_report.specs.Mnemonics.{mnemonic_names, taken, takes_text}
use Rattle.cli_report.specs.Nearest.{near}
use Rattle.cli_report.specs.Report.{Mark, near_words, report_text}

-- ---- the parts of a line

-- Returns the code of a line: the line without its comment, the blanks at its start and the white space at its end.
unfoldable pub code_in : List ℕ → List ℕ
code_in line = from Solid (trimmed (before semicolon line))

-- Checks whether the first word of the code contains a colon, so that it is a name.
abbrev pub has_name : List ℕ → Bool
has_name code = nat_lt (until colon (before Blank code)) (length (before Blank code))

-- Returns the statement in the code of a line: the mnemonic and its operands. In `loop: mov r0, 1` it is `mov r0, 1`.
unfoldable pub statement_in : List ℕ → List ℕ
statement_in code = if has_name code then from Solid (drop 1 (from colon code)) else code

-- Returns the mnemonic in the code of a line. In `loop: mov r0, 1` it is `mov`.
abbrev pub mnemonic_in : List ℕ → List ℕ
mnemonic_in code = before Blank (statement_in code)

-- Returns the operands in the code of a line, as one text. In `loop: mov r0, 1` it is `r0, 1`.
abbrev pub operands_in : List ℕ → List ℕ
operands_in code = from Solid (from Blank (statement_in code))

-- Returns the last text of a list, or an empty text if there is none.
abbrev pub last_of : List (List ℕ) → List ℕ
last_of [] = []
last_of (piece ∷ []) = piece
last_of (piece ∷ next ∷ pieces) = last_of (next ∷ pieces)

-- Returns the last operand: the text after the last comma, without the blanks at its start.
unfoldable pub last_operand : List ℕ → List ℕ
last_operand operands = from Solid (last_of (pieces comma operands))

-- Returns the code from its first non-ASCII byte on, or no bytes if all of it is ASCII.
abbrev pub past_ascii : List ℕ → List ℕ
past_ascii [] = []
past_ascii (c ∷ cs) = if nat_lt c 128 then past_ascii cs else c ∷ cs

-- ---- the place

-- A part of the code: the code from this part on, and the size of the part in bytes.
abbrev pub Part : Type 0
Part = List ℕ × ℕ

-- Returns a value of the code as a part.
abbrev pub part_view : Bor (List ℕ) × ℕ → Part
part_view part = (part.0.now, part.1)

-- Returns the code from some byte on, all of which is the part.
abbrev pub all_of : List ℕ → Part
all_of end = (end, length end)

-- Returns the mnemonic of a statement as a part.
abbrev pub mnemonic_part : List ℕ → Part
mnemonic_part statement = (statement, until Blank statement)

-- Returns as the part the first non-ASCII byte, or all of the code if it is ASCII. The second argument is the code from
-- its first non-ASCII byte on.
abbrev pub outline_part : List ℕ → List ℕ → Part
outline_part code [] = all_of code
outline_part code (c ∷ cs) = (c ∷ cs, 1)

-- Returns as the part the operands, or the mnemonic if there are none.
abbrev pub operands_part : List ℕ → List ℕ → Part
operands_part statement [] = mnemonic_part statement
operands_part statement (c ∷ cs) = all_of (c ∷ cs)

-- Returns the part of the code to mark for a fault: the name, the mnemonic, its operands, the last operand, or all of
-- the code.
abbrev pub part_of : AsmFault → List ℕ → Part
part_of fault.Line code = outline_part code (past_ascii code)
part_of fault.Mnemonic code = mnemonic_part (statement_in code)
part_of fault.Operand code = operands_part (statement_in code) (operands_in code)
part_of fault.Label code = all_of (last_operand (operands_in code))
part_of fault.Twice code = (code, until colon code)
part_of fault.Range code = operands_part (statement_in code) (operands_in code)
part_of fault.Count code = all_of code

-- Returns how many bytes of the line are before the part of the code, and how many bytes the part has. The code ends
-- where the comment begins.
abbrev pub behind_front : List ℕ → Part → ℕ × ℕ
behind_front line part = (length (trimmed (before semicolon line)) - length part.0, part.1)

-- Returns the part of a line to mark for a fault: how many bytes of the line are before it, and its size in bytes.
unfoldable pub place_in : AsmFault → List ℕ → ℕ × ℕ
place_in f line = behind_front line (part_of f (code_in line))

-- Returns the place of the statement in a line: how many bytes of the line are before it, and its size in bytes.
unfoldable pub statement_place : List ℕ → ℕ × ℕ
statement_place line = behind_front line (all_of (statement_in (code_in line)))

-- A line of assembly and its place in a file: the number and the bytes of the file's line, how many of these bytes are
-- before the assembly, and the line of assembly.
pub record Spot : Type 0 where
  pub number : ℕ
  pub shown : List ℕ
  pub front : ℕ
  pub code : List ℕ

-- Returns a value of the code as a line of assembly with its place.
abbrev pub spot_view : Held → Spot
spot_view s = record { number = s.number; shown = s.shown.now; front = length s.front.now; code = s.code.now }

-- Returns the line of assembly that is all of line `number` in a file, with its place.
abbrev pub whole : ℕ → List ℕ → Spot
whole number line = record { number = number; shown = line; front = 0; code = line }

-- Marks a part of a line of assembly, in the line of the file that contains it.
abbrev pub spot_mark : Spot → ℕ × ℕ → Mark
spot_mark s part = marked s.number (trimmed s.shown) (s.front + part.0) part.1

-- Marks the statement of a line of assembly, in the line of the file that contains it.
abbrev pub unit_mark : Spot → Mark
unit_mark s = spot_mark s (statement_place s.code)

-- ---- the sentence

-- Returns the error sentence for a line that does not have the form of assembly. The argument is the code from its
-- first non-ASCII byte on.
abbrev pub outline_sentence : List ℕ → List ℕ
outline_sentence [] = codes "a line is `[name:] [mnemonic operands] [; comment]`, with commas between the operands"
outline_sentence (c ∷ cs) = codes "a character outside a comment is not ASCII"

-- Returns the error sentence for a wrong operand of `call`. If the operand begins with a letter or `_`, the sentence is
-- that no helper has this name.
abbrev pub call_sentence : List ℕ → List ℕ
call_sentence [] = takes_text takes.Call
call_sentence (c ∷ cs) = if is_within 97 122 c || is_within 65 90 c || c == 95
    then codes "there is no helper of this name" else takes_text takes.Call

-- Returns the error sentence for wrong operands. It says which operands the mnemonic takes, if these are known.
abbrev pub operand_sentence : Option Takes → List ℕ → List ℕ
operand_sentence None operands = codes "the operands do not fit the mnemonic"
operand_sentence (Some takes.Call) operands = call_sentence operands
operand_sentence (Some takes) operands = takes_text takes

-- Returns the error sentence for a number out of range. It says which range numbers have in the operands that the
-- mnemonic takes.
abbrev pub range_sentence : Option Takes → List ℕ
range_sentence (Some takes.Wide) = codes "a number here must be -9223372036854775808 to 18446744073709551615"
range_sentence (Some takes.Load) = codes "an offset must be -32768 to 32767"
range_sentence (Some takes.Target) = codes "a jump must lead at most 32767 units forward (2147483647 with `ja.w`)"
range_sentence (Some takes.Branch) =
    codes "a number here must be -2147483648 to 2147483647, and a jump must lead at most 32767 units forward"
range_sentence (Some takes.StoreRegister) = codes "an offset must be -32768 to 32767"
range_sentence (Some takes.StoreNumber) =
    codes "a number here must be -2147483648 to 2147483647, and an offset -32768 to 32767"
range_sentence _ = codes "a number here must be -2147483648 to 2147483647"

-- Returns the error sentence for a fault in the code of a line.
abbrev pub assembly_sentence : AsmFault → List ℕ → List ℕ
assembly_sentence fault.Line code = outline_sentence (past_ascii code)
assembly_sentence fault.Mnemonic code = codes "there is no such mnemonic"
assembly_sentence fault.Operand code = operand_sentence (taken (mnemonic_in code)) (operands_in code)
assembly_sentence fault.Label code = codes "no line defines this name"
assembly_sentence fault.Twice code = codes "an earlier line defines this name"
assembly_sentence fault.Range code = range_sentence (taken (mnemonic_in code))
assembly_sentence fault.Count code = codes "a program must have 1 to 4096 units"

-- ---- the help

-- Checks whether the bytes contain `byte`.
abbrev pub has : ℕ → List ℕ → Bool
has byte bytes = list_any (λ b. b == byte) bytes

-- Checks whether the bytes contain an ASCII capital letter.
abbrev pub has_capital : List ℕ → Bool
has_capital bytes = list_any (λ b. is_within 65 90 b) bytes

-- The three bytes of a byte order mark.
abbrev pub order_mark : List ℕ
order_mark = 239 ∷ 187 ∷ 191 ∷ []

-- Checks whether line `number` is the first one of a file and begins with a byte order mark.
abbrev pub begins_marked : ℕ → List ℕ → Bool
begins_marked number line = number == 1 && starts_with nat_eq line order_mark

-- Checks whether a mnemonic with these operands takes more than one.
abbrev pub takes_several : Option Takes → Bool
takes_several (Some takes.Arithmetic) = true
takes_several (Some takes.Registers) = true
takes_several (Some takes.Branch) = true
takes_several (Some takes.Load) = true
takes_several (Some takes.StoreRegister) = true
takes_several (Some takes.StoreNumber) = true
takes_several (Some takes.Wide) = true
takes_several _ = false

-- Checks whether a text between commas looks like several operands, such as `r0 1`. It does if it contains a blank,
-- unless the first blank is inside brackets, as in `[r1 +8]`.
abbrev pub are_several : List ℕ → Bool
are_several bytes =
    (has 32 bytes || has 9 bytes) && (not (has 91 (before Blank bytes)) || has 93 (before Blank bytes))

-- Checks whether a comma is likely to be missing. It is if the mnemonic takes several operands, and the text before the
-- first comma or the text after the last one looks like several operands.
abbrev pub lacks_comma : Option Takes → List ℕ → Bool
lacks_comma takes operands =
    takes_several takes && (are_several (trimmed (before comma operands)) || are_several (last_operand operands))

-- Returns the help message for a line that does not have the form of assembly: the likely cause, by characters that the
-- line contains, or `None`.
abbrev pub outline_advice : ℕ → List ℕ → List ℕ → Option (List ℕ)
outline_advice number line code =
    if begins_marked number line then Some (codes "the file begins with a byte order mark: save it without one")
    else if has 13 line then Some (codes "a carriage return is allowed only right before a line feed")
    else if has 35 code || has 47 code then Some (codes "a comment begins with `;`")
    else if has 61 code then Some (codes "`r0 = 1` is written `mov r0, 1`")
    else if lacks_comma (taken (mnemonic_in code)) (operands_in code)
    then Some (codes "a comma is missing between the operands: `mov r0, 1`")
    else if has 91 code then Some (codes "an operand contains no spaces: `[r1+8]`")
    else None

-- Returns the help message that names a similar name, if it is given. Without it, and if the code has a capital letter,
-- returns the message that names are written in lower case.
abbrev pub or_small : List ℕ → Option (List ℕ) → Option (List ℕ)
or_small code (Some advice) = Some advice
or_small code None =
    if has_capital code then Some (codes "mnemonics, registers and helpers are written in lower case") else None

-- Checks whether the mnemonic takes a helper as its operand, as `call` does.
abbrev pub is_call : Option Takes → Bool
is_call (Some takes.Call) = true
is_call _ = false

-- Returns the help message for operands that do not fit the mnemonic, or `None` if no cause is likely.
abbrev pub operand_advice : Option Takes → List ℕ → Option (List ℕ)
operand_advice takes operands =
    or_small operands (if is_call takes then option_map (near_words (codes "helper")) (near operands helpers) else None)

-- Returns the help message for a fault in line `number` of a text, or `None` if no cause is likely.
abbrev pub assembly_advice : AsmFault → ℕ → List ℕ → List ℕ → Option (List ℕ)
assembly_advice fault.Line number line code = outline_advice number line code
assembly_advice fault.Mnemonic number line code =
    or_small (mnemonic_in code) (option_map (near_words (codes "mnemonic")) (near (mnemonic_in code) mnemonic_names))
assembly_advice fault.Operand number line code = operand_advice (taken (mnemonic_in code)) (operands_in code)
assembly_advice _ number line code = None

-- ---- all of it

-- Returns the report of a fault in a line of assembly at a place in the file `name`.
abbrev pub code_told : List ℕ → AsmFault → Spot → List ℕ
code_told name f s =
    report_text name (assembly_sentence f (code_in s.code)) (Some (spot_mark s (place_in f s.code)))
    (assembly_advice f s.number s.code (code_in s.code))

-- Returns the report of a fault in line `number` of the file `name`. Without the line, the report has no excerpt.
abbrev pub line_told : List ℕ → AsmFault → ℕ → Option (List ℕ) → List ℕ
line_told name f number None = report_text name (assembly_sentence f []) None None
line_told name f number (Some line) = code_told name f (whole number line)

-- Returns the report of a fault at line `number` of an assembly text, which is in the file `name`.
unfoldable pub assembly_told : List ℕ → List ℕ → AsmFault → ℕ → List ℕ
assembly_told name text f number = line_told name f number (line_at text number)

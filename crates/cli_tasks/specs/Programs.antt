-- Defines the program that a file contains, on which lines its units are written, and the explanation of the program.
use Rattle.std.specs.Prelude.{ℕ, ◌≡◌, Bool, true, false, List, [], ◌++◌, Option, None, Some, Ok, String, codes, map, option_map, string_bytes}
use Rattle.std.specs.Str.{IsUtf8}
use Rattle.std.specs.declared.alloc.Global.{Global}
use Rattle.insn.specs.declared.insn.Insn.{Insn}
use Rattle.asm.specs.Program.{lines_of, nothing, program_of, read_on}
use Rattle.codec.specs.Program.{SpellsProgram}
use Rattle.asm.specs.Places.{AreWritten, statements_of}
use Rattle.object.specs.Entry.{entry_of, function_of}
use Rattle.object.specs.Places.{AreEntryPlaces}
use Rattle.explain.specs.Explained.{explained_at}
use Rattle.explain.specs.Units.{in_lists}
use Rattle.cli_words.specs.declared.tasks.Notation.{Notation}
use Rattle.cli_words.specs.declared.tasks.Notation.TheVariants.{Bytecode, Assembly, Object}

-- States that the code of the ELF object's entry is the bytecode of the program. The entry is the function named `name`
-- or, without a name, the only global function.
abbrev pub HasEntry : Option (List ℕ) → List ℕ → List Insn → Type 0
HasEntry name object program = (code : List ℕ) × (entry_of object name ≡ Ok code) × SpellsProgram code program

-- States that the file contains this program: the bytes are its bytecode, the text assembles to it, or the ELF object
-- has it as its entry.
abbrev pub HasProgram : Notation → List ℕ → List Insn → Type 0
HasProgram Bytecode bytes program = SpellsProgram bytes program
HasProgram Assembly text program = program_of text ≡ Some program
HasProgram (Object entry) object program = HasEntry (option_map string_bytes entry) object program

-- States that `places` says for each unit (8 bytes) of the program in a file where it is written: on which line of
-- assembly or, for an ELF object, on which line of which source file. Bytecode has no places.
abbrev pub ArePlaces : Notation → List ℕ → List (List ℕ) → Type 0
ArePlaces Bytecode bytes places = places ≡ []
ArePlaces Assembly text places = IsUtf8 text → AreWritten (read_on nothing 1 (lines_of text)) places
ArePlaces (Object entry) object places =
    AreEntryPlaces object (function_of object (option_map string_bytes entry)) places

-- States that `statements` has for each unit (8 bytes) of a program in assembly the statement as it is written on its
-- line. Bytecode and ELF objects have no statements.
abbrev pub AreStatements : Notation → List ℕ → List (List ℕ) → Type 0
AreStatements Assembly text statements = IsUtf8 text → statements ≡ statements_of text
AreStatements notation bytes statements = statements ≡ []

-- States that `text` explains the program that a file contains, and shows how and on which line each unit is written.
abbrev pub Explains : Notation → List ℕ → List Insn → List ℕ → Type 0
Explains notation bytes program text =
    (places statements : List (String Global)) × ArePlaces notation bytes (map string_bytes places)
    × AreStatements notation bytes (map string_bytes statements)
    × (text ≡ explained_at (in_lists places statements) program)

-- Returns how the program is written if an explanation is asked for, and otherwise `None`.
abbrev pub if_asked : Bool → Notation → Option Notation
if_asked true notation = Some notation
if_asked false notation = None

-- States that `text` is the lines about an accepted program, followed by an empty line and its explanation, if one is
-- asked for.
abbrev pub IsBehind : Option Notation → List ℕ → List Insn → List ℕ → List ℕ → Type 0
IsBehind None bytes program lines text = text ≡ lines
IsBehind (Some notation) bytes program lines text =
    (told : List ℕ) × Explains notation bytes program told × (text ≡ lines ++ (told ++ codes "\n"))

-- States that the file contains a program, and that `text` explains it.
abbrev pub IsWhy : Notation → List ℕ → List ℕ → Type 0
IsWhy notation bytes text =
    (program : List Insn) × HasProgram notation bytes program × Explains notation bytes program text

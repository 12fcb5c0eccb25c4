-- Defines what `asm --partial` and `dis --partial` print: bytecode line by line, also if it is not the bytecode of a
-- program.
use Rattle.std.specs.Prelude.{ℕ, ◌≡◌, ◌++◌, List, Ok, codes, option_map, string_bytes}
use Rattle.hex.specs.Hex.{encode_lower}
use Rattle.object.specs.Entry.{entry_of}
use Rattle.cli_words.specs.declared.tasks.Notation.{Notation}
use Rattle.cli_words.specs.declared.tasks.Notation.TheVariants.{Bytecode, Assembly as Texts, Object as Objects}
use Rattle.asm.specs.PieceText.{IsTextOf}
use Rattle.asm.specs.Reading.{bytes_said}

-- States that the text assembles line by line to these bytes.
abbrev pub AssemblesPartlyRaw : List ℕ → List ℕ → Type 0
AssemblesPartlyRaw text bytes = bytes_said text ≡ Ok bytes

-- States that the text assembles line by line to some bytes, and that `line` has these in lower-case hexadecimal
-- digits.
abbrev pub AssemblesPartly : List ℕ → List ℕ → Type 0
AssemblesPartly text line = (bytes : List ℕ) × (bytes_said text ≡ Ok bytes) × (line ≡ encode_lower bytes ++ codes "\n")

-- States that the file contains this code: as bytecode, as assembly, or as a function of an ELF object. The code need
-- not be the bytecode of a program.
abbrev pub HasCode : Notation → List ℕ → List ℕ → Type 0
HasCode Bytecode bytes code = code ≡ bytes
HasCode Texts text code = bytes_said text ≡ Ok code
HasCode (Objects entry) object code = entry_of object (option_map string_bytes entry) ≡ Ok code

-- States that `text` is the assembly text of the code in the file, and that it assembles to the same code.
abbrev pub DisassemblesPartly : Notation → List ℕ → List ℕ → Type 0
DisassemblesPartly notation bytes text =
    (code : List ℕ) × HasCode notation bytes code × IsTextOf code text × (bytes_said text ≡ Ok code)

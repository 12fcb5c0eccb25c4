-- Defines why a file is rejected that should contain a program: it contains none, or the verifier rejects it.
use Rattle.std.specs.Prelude.{ℕ, ◌≡◌, ◌≢◌, ◌⊎◌, ◌/◌, ◌%◌, List, Option, Some, Ok, Err, length, option_map, string_bytes}
use Rattle.insn.specs.declared.insn.Insn.{Insn}
use Rattle.codec.specs.Program.{IsFirstFault, SpellsProgram}
use Rattle.codec.specs.declared.fault.CodecFault.TheVariants.{Length}
use Rattle.codec.specs.declared.fault.CodecError.{CodecError}
use Rattle.codec.specs.declared.fault.CodecError.TheVariants as codec
use Rattle.object.specs.Entry.{entry_of}
use Rattle.object.specs.declared.fault.ObjectFault.{ObjectFault}
use Rattle.asm.specs.Program.{program_of, said}
use Rattle.toml.specs.Parse.{parse_document}
use Rattle.trial.specs.Answers as trial
use Rattle.trial.specs.declared.fault.SettingError.TheVariants as setting
use Rattle.verify.specs.Judgement.{judged}
use Rattle.cli_words.specs.declared.tasks.Notation.{Notation}
use Rattle.cli_words.specs.declared.tasks.Notation.TheVariants as notation
use Rattle.asm.specs.Reading.{bytes_said}
use Rattle.cli_tasks.specs.declared.refusal.InputRefusal.{InputRefusal}
use Rattle.cli_tasks.specs.declared.refusal.InputRefusal.TheVariants.{Codec, Object, Verifier, Assembly, Setting, Memory}
use Rattle.cli_tasks.specs.Refusals.{RefusesText}

-- States that the bytes are not the bytecode of a program, and have this first fault.
abbrev pub RefusesBytes : List ℕ → CodecError → Type 0
RefusesBytes bytes (codec.At fault unit) = IsFirstFault bytes fault unit
RefusesBytes bytes codec.Memory = ⊥

-- States that the verifier rejects the program with this first fault, or that memory ran out.
abbrev pub RefusesProgram : List Insn → InputRefusal → Type 0
RefusesProgram program (Verifier fault) = judged program ≡ Some fault
RefusesProgram program Memory = Unit {0}
RefusesProgram program _ = ⊥

-- States that the bytes are not the bytecode of a program, that the verifier rejects the program, or that memory ran
-- out.
abbrev pub RefusesCheck : List ℕ → InputRefusal → Type 0
RefusesCheck bytes (Codec error) = RefusesBytes bytes error
RefusesCheck bytes (Verifier fault) =
    (program : List Insn) × SpellsProgram bytes program × (judged program ≡ Some fault)
RefusesCheck bytes Memory = Unit {0}
RefusesCheck bytes _ = ⊥

-- States that the bytes are not the bytecode of a program, or that memory ran out.
abbrev pub RefusesDisassembly : List ℕ → InputRefusal → Type 0
RefusesDisassembly bytes (Codec error) = RefusesBytes bytes error
RefusesDisassembly bytes Memory = Unit {0}
RefusesDisassembly bytes _ = ⊥

-- States that the text does not assemble to a program because of this first fault, or that memory ran out.
abbrev pub RefusesAssembly : List ℕ → InputRefusal → Type 0
RefusesAssembly text (Assembly error) = said text ≡ Err error
RefusesAssembly text Memory = Unit {0}
RefusesAssembly text _ = ⊥

-- States that the text does not assemble to a program, that the verifier rejects the program, or that memory ran out.
abbrev pub RefusesCheckAssembly : List ℕ → InputRefusal → Type 0
RefusesCheckAssembly text (Assembly error) = said text ≡ Err error
RefusesCheckAssembly text (Verifier fault) =
    (program : List Insn) × (program_of text ≡ Some program) × (judged program ≡ Some fault)
RefusesCheckAssembly text Memory = Unit {0}
RefusesCheckAssembly text _ = ⊥

-- States that the text is not a setting because of this first fault, or that memory ran out.
abbrev pub RefusesSetting : List ℕ → InputRefusal → Type 0
RefusesSetting text (Setting error) = (error ≢ setting.Memory) × trial.Reads (parse_document text) (Err error)
RefusesSetting text Memory = Unit {0}
RefusesSetting text _ = ⊥

-- States that the ELF object has no code for the entry because of this fault, or that its code is rejected: `refuses`
-- holds of the code.
abbrev pub RefusesObject : (List ℕ → InputRefusal → Type 0) → Option (List ℕ) → List ℕ → InputRefusal → Type 0
RefusesObject refuses name object refusal =
    ((fault : ObjectFault) × (refusal ≡ Object fault) × (entry_of object name ≡ Err fault))
    ⊎ ((code : List ℕ) × (entry_of object name ≡ Ok code) × refuses code refusal)

-- States that the file contains no program, that the verifier rejects the program, or that memory ran out.
abbrev pub RefusesCheckIn : Notation → List ℕ → InputRefusal → Type 0
RefusesCheckIn notation.Bytecode bytes refusal = RefusesCheck bytes refusal
RefusesCheckIn notation.Assembly bytes refusal = RefusesText RefusesCheckAssembly bytes refusal
RefusesCheckIn (notation.Object entry) bytes refusal =
    RefusesObject RefusesCheck (option_map string_bytes entry) bytes refusal

-- States that the file contains no program, or that memory ran out.
abbrev pub RefusesNotation : Notation → List ℕ → InputRefusal → Type 0
RefusesNotation notation.Bytecode bytes refusal = RefusesDisassembly bytes refusal
RefusesNotation notation.Assembly bytes refusal = RefusesText RefusesAssembly bytes refusal
RefusesNotation (notation.Object entry) bytes refusal =
    RefusesObject RefusesDisassembly (option_map string_bytes entry) bytes refusal

-- States that the text does not assemble line by line because of this first fault, or that memory ran out.
abbrev pub RefusesLines : List ℕ → InputRefusal → Type 0
RefusesLines text (Assembly error) = bytes_said text ≡ Err error
RefusesLines text Memory = Unit {0}
RefusesLines text _ = ⊥

-- States that the number of bytes is not a multiple of 8, and that the error names the unit that is cut off.
abbrev pub AreCut : List ℕ → CodecError → Type 0
AreCut bytes error = (length bytes % 8 ≢ 0) × (error ≡ codec.At Length (length bytes / 8))

-- States that the number of bytes is not a multiple of 8, or that memory ran out.
abbrev pub RefusesUnits : List ℕ → InputRefusal → Type 0
RefusesUnits bytes (Codec error) = AreCut bytes error
RefusesUnits bytes Memory = Unit {0}
RefusesUnits bytes _ = ⊥

-- States that the text does not assemble line by line, that its bytes are not whole units of 8, or that memory ran out.
abbrev pub RefusesSaid : List ℕ → InputRefusal → Type 0
RefusesSaid text (Assembly error) = bytes_said text ≡ Err error
RefusesSaid text (Codec error) = (bytes : List ℕ) × (bytes_said text ≡ Ok bytes) × AreCut bytes error
RefusesSaid text Memory = Unit {0}
RefusesSaid text _ = ⊥

-- States that the file contains no code, that its code is not whole units of 8 bytes, or that memory ran out.
abbrev pub RefusesParts : Notation → List ℕ → InputRefusal → Type 0
RefusesParts notation.Bytecode bytes refusal = RefusesUnits bytes refusal
RefusesParts notation.Assembly bytes refusal = RefusesText RefusesSaid bytes refusal
RefusesParts (notation.Object entry) bytes refusal =
    RefusesObject RefusesUnits (option_map string_bytes entry) bytes refusal

-- Definitions that only the reader's code uses (own).
use Rattle.std.specs.Prelude.{◌≡◌, ℕ, List, None, Some, Result, Ok, Err}
use Rattle.insn.specs.declared.insn.Insn.{Insn}
use Rattle.verify.specs.Judgement.{judged}
use Rattle.verify.specs.declared.error.VerifyError.TheVariants as verifier
use Rattle.scenario.specs.declared.programs.ProgramText.{ProgramText}
use Rattle.scenario.specs.declared.programs.ProgramText.TheVariants as written
use Rattle.asm.specs.declared.fault.AsmError.{AsmError}
use Rattle.asm.specs.declared.fault.AsmError.TheVariants as assembler
use Rattle.codec.specs.declared.fault.CodecError.{CodecError}
use Rattle.codec.specs.declared.fault.CodecError.TheVariants as decoder
use Rattle.verify.specs.declared.error.VerifyError.{VerifyError}
use Rattle.hex.specs.declared.error.FromHexError.{FromHexError}
use Rattle.hex.specs.declared.error.FromHexError.TheVariants as hex
use Rattle.scenario.specs.declared.fault.ProgramFault.TheVariants.{Asm, Code, Verifier}
use Rattle.scenario.specs.declared.fault.ProgramFault.TheVariants as faults
use Rattle.scenario.specs.declared.fault.ScenarioError.{ScenarioError}
use Rattle.scenario.specs.declared.fault.ScenarioError.TheVariants as errors
use Rattle.scenario.specs.Tables.{Source, Assembly, Hex}
use Rattle.scenario.specs.Reading.{IsProgramOf, IsFaultOf}

-- Returns the program of a traitor's table as contracts see it.
abbrev pub source_of : ProgramText → Source
source_of (written.Asm text) = Assembly text.now
source_of (written.Code text) = Hex text.now

-- States that the result is the program that the source of general `g` gives, or what is wrong with the source.
abbrev pub Makes : ℕ → Source → Result (List Insn) ScenarioError → Type 0
Makes g source (Ok program) = IsProgramOf source program
Makes g source (Err (errors.Program h fault)) = (h ≡ g) × IsFaultOf fault source
Makes g source (Err _) = ⊥

-- States that the result is the program of general `g` if the verifier accepts it, and otherwise why the verifier
-- rejects it.
abbrev pub Accepts : ℕ → List Insn → Result (List Insn) ScenarioError → Type 0
Accepts g program (Ok accepted) = (accepted ≡ program) × (judged program ≡ None)
Accepts g program (Err (errors.Program h (Verifier reason unit))) =
    (h ≡ g) × (judged program ≡ Some (verifier.At reason unit))
Accepts g program (Err _) = ⊥

-- Returns the scenario's error for an assembler's error in the program of general `g`. It is out of memory only if that
-- error is.
abbrev pub unassembled : ℕ → AsmError → ScenarioError
unassembled g assembler.Memory = errors.Memory
unassembled g (assembler.At fault line) = errors.Program g (Asm fault line)

-- Returns the scenario's error for a hex decoder's error in the program of general `g`.
abbrev pub unhexed : ℕ → FromHexError → ScenarioError
unhexed g hex.OutOfMemory = errors.Memory
unhexed g _ = errors.Program g faults.Hex

-- Returns the scenario's error for a bytecode decoder's error in the program of general `g`.
abbrev pub undecoded : ℕ → CodecError → ScenarioError
undecoded g decoder.Memory = errors.Memory
undecoded g (decoder.At fault unit) = errors.Program g (Code fault unit)

-- Returns the scenario's error for a verifier's error in the program of general `g`.
abbrev pub unverified : ℕ → VerifyError → ScenarioError
unverified g verifier.Memory = errors.Memory
unverified g (verifier.At reason unit) = errors.Program g (Verifier reason unit)

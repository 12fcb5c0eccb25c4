-- Instructions that are printed are read again.
use Rattle.std.proofs.Common.{◌≡◌, ℕ, [], refl}
use Rattle.std.specs.Prelude.{Ok}
use Rattle.insn.specs.declared.insn.Insn.{Insn}
use Rattle.insn.specs.declared.insn.Insn.TheVariants as insns
use Rattle.insn.specs.declared.insn.Operand.TheVariants.{Register, Immediate}
use Rattle.insn.specs.Insn.{IsInsn, units_of}
use Rattle.asm.specs.Operand.{Away}
use Rattle.asm.specs.Statement.{Source, Plain, Jump, LongJump, Branch, source_of, none_of, one_of, two_of, three_of}
use Rattle.asm.specs.Distance.{distance_of}
use Rattle.asm.specs.Program.{source_units, insn_of}
use Rattle.asm.specs.Printing.{word_of, operands_of}
use Rattle.asm.proofs.NumberLemmas.{number_for, number_of-decimal, bits_within-number, number_of-signed, within_16, within_32, small_16, small_32}
use Rattle.asm.proofs.OperandLemmas.{register_of-text, operand_of-text, goal_of-text, place_of-text, no_letter}

-- The instruction that the text of an instruction is read as.
abbrev pub source_for : Insn → Source
source_for (insns.Arithmetic width operation dst operand) = Plain (insns.Arithmetic width operation dst operand)
source_for (insns.Negate width dst) = Plain (insns.Negate width dst)
source_for (insns.SignExtend width part dst src) = Plain (insns.SignExtend width part dst src)
source_for (insns.Swap order size dst) = Plain (insns.Swap order size dst)
source_for (insns.LoadImmediate dst number) = Plain (insns.LoadImmediate dst number)
source_for (insns.Jump distance) = Jump (Away (number_for distance))
source_for (insns.LongJump distance) = LongJump (Away (number_for distance))
source_for (insns.Branch width condition dst operand distance) = Branch width condition dst operand (Away (number_for distance))
source_for (insns.Load size dst base offset) = Plain (insns.Load size dst base offset)
source_for (insns.LoadSigned part dst base offset) = Plain (insns.LoadSigned part dst base offset)
source_for (insns.Store size base offset source) = Plain (insns.Store size base offset source)
source_for (insns.Call helper) = Plain (insns.Call helper)
source_for insns.Exit = Plain insns.Exit

pub source_of-text : (i : Insn) → IsInsn i → source_of (word_of i) (operands_of i) ≡ Ok (source_for i)
unfolding one_of two_of three_of none_of
source_of-text (insns.Arithmetic width operation dst operand) is = let o = operand_of-text operand is.1 in rw (register_of-text dst is.0, o.1, o.2) refl
source_of-text (insns.Negate width dst) is = rw (register_of-text dst is) refl
source_of-text (insns.SignExtend width part dst src) is = rw (register_of-text dst is.1, register_of-text src is.2) refl
source_of-text (insns.Swap order size dst) is = rw (register_of-text dst is) refl
source_of-text (insns.LoadImmediate dst number) is = rw (register_of-text dst is.0, number_of-decimal number is.1, bits_within-number number is.1) refl
source_of-text (insns.Jump distance) is = rw (goal_of-text distance (small_16 distance is)) refl
source_of-text (insns.LongJump distance) is = rw (goal_of-text distance (small_32 distance is)) refl
source_of-text (insns.Branch width condition dst operand distance) is = let o = operand_of-text operand is.1 in rw (register_of-text dst is.0, o.1, goal_of-text distance (small_16 distance is.2), o.2) refl
source_of-text (insns.Load size dst base offset) is = rw (register_of-text dst is.0, place_of-text base offset is.1 (small_16 offset is.2), within_16 offset is.2) refl
source_of-text (insns.LoadSigned part dst base offset) is = rw (register_of-text dst is.0, place_of-text base offset is.1 (small_16 offset is.2), within_16 offset is.2) refl
source_of-text (insns.Store size base offset (Register src)) is = rw (place_of-text base offset is.0 (small_16 offset is.1), register_of-text src is.2, within_16 offset is.1) refl
source_of-text (insns.Store size base offset (Immediate number)) is = rw (place_of-text base offset is.0 (small_16 offset is.1), number_of-signed number (small_32 number is.2), within_16 offset is.1, within_32 number is.2) refl
source_of-text (insns.Call helper) is = rw (no_letter helper (small_32 helper is), number_of-signed helper (small_32 helper is), within_32 helper is) refl
source_of-text insns.Exit is = refl

-- A printed jump keeps its distance, at whatever unit it is.
pub insn_of-source : (unit : ℕ) (i : Insn) → IsInsn i → insn_of [] unit (source_for i) ≡ Ok i
unfolding distance_of
insn_of-source unit (insns.Jump distance) is = rw (within_16 distance is) refl
insn_of-source unit (insns.LongJump distance) is = rw (within_32 distance is) refl
insn_of-source unit (insns.Branch width condition dst operand distance) is = rw (within_16 distance is.2) refl
insn_of-source unit (insns.Arithmetic width operation dst operand) is = refl
insn_of-source unit (insns.Negate width dst) is = refl
insn_of-source unit (insns.SignExtend width part dst src) is = refl
insn_of-source unit (insns.Swap order size dst) is = refl
insn_of-source unit (insns.LoadImmediate dst number) is = refl
insn_of-source unit (insns.Load size dst base offset) is = refl
insn_of-source unit (insns.LoadSigned part dst base offset) is = refl
insn_of-source unit (insns.Store size base offset source) is = refl
insn_of-source unit (insns.Call helper) is = refl
insn_of-source unit insns.Exit is = refl

pub source_units-source : (i : Insn) → source_units (source_for i) ≡ units_of i
source_units-source (insns.Jump distance) = refl
source_units-source (insns.LongJump distance) = refl
source_units-source (insns.Branch width condition dst operand distance) = refl
source_units-source (insns.Arithmetic width operation dst operand) = refl
source_units-source (insns.Negate width dst) = refl
source_units-source (insns.SignExtend width part dst src) = refl
source_units-source (insns.Swap order size dst) = refl
source_units-source (insns.LoadImmediate dst number) = refl
source_units-source (insns.Load size dst base offset) = refl
source_units-source (insns.LoadSigned part dst base offset) = refl
source_units-source (insns.Store size base offset source) = refl
source_units-source (insns.Call helper) = refl
source_units-source insns.Exit = refl

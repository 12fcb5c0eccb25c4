-- The text of a program.
use Rattle.std.specs.Prelude.{ℕ, ℤ, pos, negsuc, suc, ◌+◌, List, [], ◌∷◌, ◌++◌, codes, decimal}
use Rattle.std.specs.List.{flat_map}
use Rattle.std.specs.Fmt.{signed_decimal}
use Rattle.insn.specs.Insn.{units_of}
use Rattle.insn.specs.declared.insn.Insn.{Insn}
use Rattle.insn.specs.declared.insn.Insn.TheVariants as insns
use Rattle.insn.specs.declared.insn.Operand.{Operand}
use Rattle.insn.specs.declared.insn.Operand.TheVariants.{Register, Immediate}
use Rattle.asm.specs.declared.mnemonic.Mnemonic.{Mnemonic}
use Rattle.asm.specs.declared.mnemonic.Mnemonic.TheVariants as words
use Rattle.asm.specs.Table.{name_of}

-- Returns the text of a register, such as `r1`.
abbrev pub register_text : ℕ → List ℕ
register_text r = 114 ∷ decimal r

-- Returns the text of an operand: a register or a number.
abbrev pub operand_text : Operand → List ℕ
operand_text (Register r) = register_text r
operand_text (Immediate z) = signed_decimal z

-- Returns the text of a distance or offset, such as `+8` or `-8`.
abbrev pub signed_text : ℤ → List ℕ
signed_text (pos n) = 43 ∷ decimal n
signed_text (negsuc n) = 45 ∷ decimal (suc n)

-- Returns the text of a memory operand, such as `[r1+8]` or `[r10-8]`.
abbrev pub place_text : ℕ → ℤ → List ℕ
place_text base offset = 91 ∷ (register_text base ++ signed_text offset ++ 93 ∷ [])

-- Returns the mnemonic of an instruction.
abbrev pub word_of : Insn → Mnemonic
word_of (insns.Arithmetic width operation dst operand) = words.Arithmetic width operation
word_of (insns.Negate width dst) = words.Negate width
word_of (insns.SignExtend width part dst src) = words.SignExtend width part
word_of (insns.Swap order size dst) = words.Swap order size
word_of (insns.LoadImmediate dst number) = words.LoadImmediate
word_of (insns.Jump distance) = words.Jump
word_of (insns.LongJump distance) = words.LongJump
word_of (insns.Branch width condition dst operand distance) = words.Branch width condition
word_of (insns.Load size dst base offset) = words.Load size
word_of (insns.LoadSigned part dst base offset) = words.LoadSigned part
word_of (insns.Store size base offset (Register src)) = words.StoreRegister size
word_of (insns.Store size base offset (Immediate number)) = words.StoreNumber size
word_of (insns.Call helper) = words.Call
word_of insns.Exit = words.Exit

-- Returns the texts of an instruction's operands.
abbrev pub operands_of : Insn → List (List ℕ)
operands_of (insns.Arithmetic width operation dst operand) = register_text dst ∷ operand_text operand ∷ []
operands_of (insns.Negate width dst) = register_text dst ∷ []
operands_of (insns.SignExtend width part dst src) = register_text dst ∷ register_text src ∷ []
operands_of (insns.Swap order size dst) = register_text dst ∷ []
operands_of (insns.LoadImmediate dst number) = register_text dst ∷ decimal number ∷ []
operands_of (insns.Jump distance) = signed_text distance ∷ []
operands_of (insns.LongJump distance) = signed_text distance ∷ []
operands_of (insns.Branch width condition dst operand distance) =
    register_text dst ∷ operand_text operand ∷ signed_text distance ∷ []
operands_of (insns.Load size dst base offset) = register_text dst ∷ place_text base offset ∷ []
operands_of (insns.LoadSigned part dst base offset) = register_text dst ∷ place_text base offset ∷ []
operands_of (insns.Store size base offset source) = place_text base offset ∷ operand_text source ∷ []
operands_of (insns.Call helper) = signed_decimal helper ∷ []
operands_of insns.Exit = []

-- Returns the text of the operands after the first, each with a comma and a space before it.
abbrev pub more_text : List (List ℕ) → List ℕ
more_text [] = []
more_text (a ∷ rest) = codes ", " ++ a ++ more_text rest

-- Returns the text of the operands, such as ` r1, 8`.
abbrev pub operands_text : List (List ℕ) → List ℕ
operands_text [] = []
operands_text (a ∷ rest) = codes " " ++ a ++ more_text rest

-- Returns the text of an instruction, such as `add r1, 8`.
unfoldable pub insn_text : Insn → List ℕ
insn_text insn = name_of (word_of insn) ++ operands_text (operands_of insn)

-- Returns the text of an instruction, and a line feed.
abbrev pub line_text : Insn → List ℕ
line_text insn = insn_text insn ++ codes "\n"

-- Returns the text of instructions, one on each line, with its unit before it. The first one is at `unit`.
abbrev pub unit_lines : ℕ → List Insn → List ℕ
unit_lines unit [] = []
unit_lines unit (insn ∷ insns) =
    (decimal unit ++ codes " " ++ line_text insn) ++ unit_lines (unit + units_of insn) insns

-- Returns the text of instructions, one on each line, with a line feed after each.
abbrev pub text_of : List Insn → List ℕ
text_of insns = flat_map line_text insns

-- Defines the operands that each mnemonic takes (own).
use Rattle.std.specs.Prelude.{ℕ, List, [], ◌∷◌, if◌then◌else◌, Option, None, Some, codes, map, option_map}
use Rattle.std.specs.Str.{bytes_eq}
use Rattle.asm.specs.Table.{mnemonic_of, mnemonics, name_of}
use Rattle.asm.specs.declared.mnemonic.Mnemonic.{Mnemonic}
use Rattle.asm.specs.declared.mnemonic.Mnemonic.TheVariants as words
use Rattle.cli_report.specs.declared.mnemonics.Takes.{Takes}
use Rattle.cli_report.specs.declared.mnemonics.Takes.TheVariants as takes

-- Returns which operands a mnemonic takes.
abbrev pub takes_of : Mnemonic → Takes
takes_of (words.Arithmetic width operation) = takes.Arithmetic
takes_of (words.Negate width) = takes.Register
takes_of (words.SignExtend width part) = takes.Registers
takes_of (words.Swap order bytes) = takes.Register
takes_of words.LoadImmediate = takes.Wide
takes_of words.Jump = takes.Target
takes_of words.LongJump = takes.Target
takes_of (words.Branch width condition) = takes.Branch
takes_of (words.Load size) = takes.Load
takes_of (words.LoadSigned part) = takes.Load
takes_of (words.StoreRegister size) = takes.StoreRegister
takes_of (words.StoreNumber size) = takes.StoreNumber
takes_of words.Call = takes.Call
takes_of words.Exit = takes.Nothing

-- Returns which operands the mnemonic `word` takes, or `None` if the word is not a mnemonic.
unfoldable pub taken : List ℕ → Option Takes
taken word = option_map takes_of (mnemonic_of word)

-- All mnemonics, as they are written.
unfoldable pub mnemonic_names : List (List ℕ)
mnemonic_names = map name_of mnemonics

-- Returns the error sentence that says which operands a mnemonic takes.
abbrev pub takes_text : Takes → List ℕ
takes_text takes.Arithmetic = codes "this mnemonic takes `rD, rS` or `rD, number`, with registers r0 to r10"
takes_text takes.Register = codes "this mnemonic takes one register, r0 to r10"
takes_text takes.Registers = codes "this mnemonic takes two registers, r0 to r10"
takes_text takes.Target = codes "this mnemonic takes a target: a name, `+k` or `-k`"
takes_text takes.Branch =
    codes "this mnemonic takes `rD, rS, target` or `rD, number, target`, where a target is a name, `+k` or `-k`"
takes_text takes.Load = codes "this mnemonic takes `rD, [rS+k]`, with registers r0 to r10"
takes_text takes.StoreRegister = codes "this mnemonic takes `[rD+k], rS`, with registers r0 to r10"
takes_text takes.StoreNumber = codes "this mnemonic takes `[rD+k], number`, with registers r0 to r10"
takes_text takes.Wide = codes "this mnemonic takes `rD, number`, with registers r0 to r10"
takes_text takes.Call = codes "this mnemonic takes a helper's name, or its number"
takes_text takes.Nothing = codes "this mnemonic takes no operand"

-- Returns the operands in the first row for the mnemonic `word`, or `None` if there is no such row.
abbrev pub first_taken : List ℕ → List (List ℕ × Takes) → Option Takes
first_taken word [] = None
first_taken word (row ∷ rows) = if bytes_eq row.0 word then Some row.1 else first_taken word rows

-- The text of bytecode that cannot be decoded completely.
use Rattle.std.specs.Prelude.{ℕ, ◌≡◌, ◌==◌, if◌then◌else◌, List, [], ◌++◌, codes, slice_index}
use Rattle.std.specs.List.{flat_map}
use Rattle.hex.specs.Hex.{encode_lower}
use Rattle.codec.specs.declared.fault.CodecFault.{CodecFault}
use Rattle.codec.specs.declared.fault.CodecFault.TheVariants.{LeftOut}
use Rattle.codec.specs.ErrorText.{code_of}
use Rattle.asm.specs.Printing.{insn_text}
use Rattle.asm.specs.Pieces.{Piece, Spelled, Raw, ArePieces}

-- Returns what an unsupported instruction is, by its opcode. Atomic and packet instructions are named by their group
-- (RFC 9669, section 2.4).
abbrev pub kind_of : CodecFault → ℕ → List ℕ
kind_of LeftOut opcode =
    if opcode == 0x18 then codes " wide load"
    else if opcode == 0x85 then codes " call"
    else if opcode == 0xc3 then codes " atomic32"
    else if opcode == 0xdb then codes " atomic64"
    else codes " packet"
kind_of _ opcode = []

-- Returns the text of an instruction or, for a unit that cannot be decoded, `.unit 0x`, its eight bytes in hexadecimal,
-- in order, and the fault in a comment.
abbrev pub piece_text : Piece → List ℕ
piece_text (Spelled insn) = insn_text insn
piece_text (Raw unit fault) =
    codes ".unit 0x" ++ encode_lower unit ++ codes " ; " ++ code_of fault ++ kind_of fault (slice_index unit 0)

-- Returns the text of these pieces, one on each line, with a line feed after each.
abbrev pub pieces_text : List Piece → List ℕ
pieces_text = flat_map (λ piece. piece_text piece ++ codes "\n")

-- States that this is the text of the bytes: of the pieces of which they consist.
abbrev pub IsTextOf : List ℕ → List ℕ → Type 0
IsTextOf bytes text = (pieces : List Piece) × ArePieces pieces bytes × (text ≡ pieces_text pieces)

-- The bytes that were read come before the remaining ones, and their lines are written.
use Rattle.std.proofs.Common.{◌≡◌, ◌%◌, List, length, string_bytes}
use Rattle.asm.specs.Pieces.{Piece}
use Rattle.asm.proofs.PieceLemmas.{IsReadTo}
use Rattle.asm.proofs.partial.disassembler.text_of.Given as goal

abbrev pub invariant-loop-rest : goal.invariant-loop-rest
invariant-loop-rest l = record { whole : length l.rest % 8 ≡ 0; read : (before : List Piece) × IsReadTo l.bytes l.rest (string_bytes l.text) before }

abbrev pub decreases-loop-rest : goal.decreases-loop-rest
decreases-loop-rest l = length l.rest

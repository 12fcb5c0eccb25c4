use Rattle.std.proofs.Common.{◌≡◌, ◌*◌, arith, take}
use Rattle.insn.specs.Insn.{units_of}
use Rattle.asm.specs.Pieces.{Spelled, Raw}
use Rattle.asm.proofs.PieceLemmas.{raw_first, spelled_first}
use Rattle.asm.proofs.partial.disassembler.put_piece.Goals as goal

pub returns-in_ok-put_instruction-in-Ok-clause-piece : goal.returns-in_ok-put_instruction-in-Ok-clause-piece
returns-in_ok-put_instruction-in-Ok-clause-piece c =
    let long : 8 * c.units.result ≡ 8 * units_of c.in-Ok.insn = omega (arith, c.units.ensures.units) in
    (Spelled c.in-Ok.insn, spelled_first c.args.bytes.now c.in-Ok.insn (8 * c.units.result) c.in-Ok.ensures.well_formed long c.in-Ok.ensures.found, c.in_ok-put_instruction-in-Ok.ensures)

pub returns-in_ok-put_raw-in-Err-clause-piece : goal.returns-in_ok-put_raw-in-Err-clause-piece
returns-in_ok-put_raw-in-Err-clause-piece c =
    (Raw (take 8 c.args.bytes.now) c.in-Err.fault, raw_first c.args.bytes.now c.in-Err.fault c.requires c.in-Err.ensures.fault, c.in_ok-put_raw-in-Err.ensures)

use Rattle.std.proofs.Common.{◌≡◌, take}
use Rattle.codec.specs.Spelling.{program_bytes}
use Rattle.codec.proofs.encoder.encode.Given as goal

abbrev pub invariant-loop-insn : goal.invariant-loop-insn
invariant-loop-insn l = l.bytes.items ≡ program_bytes (take l.insn-index l.insn-items)

use Rattle.std.proofs.Common.{◌≡◌, drop}
use Rattle.asm.specs.Line.{is_token}
use Rattle.asm.proofs.outline.token_bytes.Given as goal

abbrev pub invariant-loop-byte : goal.invariant-loop-byte
invariant-loop-byte l = is_token (drop l.byte-index l.text) ≡ is_token l.text

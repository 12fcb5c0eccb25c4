use Rattle.std.proofs.Common.{◌≡◌, drop}
use Rattle.asm.specs.Table.{first_named}
use Rattle.asm.proofs.mnemonic.search.Given as goal

abbrev pub invariant-loop-m : goal.invariant-loop-m
invariant-loop-m l = first_named l.word (drop l.m-index l.all) ≡ first_named l.word l.all

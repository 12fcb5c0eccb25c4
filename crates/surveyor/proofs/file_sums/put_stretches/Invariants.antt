use Rattle.std.proofs.Common.{◌≡◌, ◌++◌, take}
use Rattle.std.specs.Prelude.{flat_map}
use Rattle.std.specs.String.{string_bytes}
use Rattle.surveyor.specs.Summed.{stretch_text}
use Rattle.surveyor.proofs.file_sums.put_stretches.Given as goal

abbrev pub invariant-loop-stretch : goal.invariant-loop-stretch
invariant-loop-stretch l = string_bytes l.out ≡ string_bytes l.fn.out ++ flat_map (stretch_text l.name) (take l.stretch-index l.stretches)

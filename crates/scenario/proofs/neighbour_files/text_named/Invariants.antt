use Rattle.std.proofs.Common.{◌≡◌, drop, option_map}
use Rattle.scenario.specs.ReferenceNames.{text_named}
use Rattle.scenario.proofs.neighbour_files.text_named.Given as goal

abbrev pub invariant-loop-file : goal.invariant-loop-file
invariant-loop-file l = text_named (drop l.file-index l.files) l.key l.name (option_map (λ f. f.now) l.function) ≡ text_named l.files l.key l.name (option_map (λ f. f.now) l.function)

use Rattle.std.proofs.Common.{◌≡◌, ◌++◌, take}
use Rattle.std.specs.Prelude.{codes}
use Rattle.std.specs.Fmt.{decimal}
use Rattle.std.specs.List.{flat_map}
use Rattle.std.specs.String.{string_bytes}
use Rattle.table_scenario.proofs.dotted_label.joined.Given as goal

abbrev pub invariant-loop-general : goal.invariant-loop-general
invariant-loop-general l = string_bytes l.text ≡ decimal l.fn.first ++ flat_map (λ h. codes "." ++ decimal h) (take l.general-index l.rest)

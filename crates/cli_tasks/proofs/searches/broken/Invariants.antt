use Rattle.std.proofs.Common.{◌≡◌, ◌++◌, take}
use Rattle.std.specs.Prelude.{codes}
use Rattle.std.specs.Fmt.{decimal}
use Rattle.std.specs.List.{flat_map}
use Rattle.std.specs.String.{string_bytes}
use Rattle.cli_tasks.proofs.searches.broken.Given as goal

abbrev pub invariant-loop-general : goal.invariant-loop-general
invariant-loop-general l =
    string_bytes l.text ≡ codes "broken traitors" ++ flat_map (λ g. codes " " ++ decimal g) (take l.general-index l.general-items)

use Rattle.std.proofs.Common.{◌≡◌, ◌++◌, take}
use Rattle.std.specs.Prelude.{codes}
use Rattle.std.specs.Fmt.{decimal}
use Rattle.std.specs.List.{flat_map}
use Rattle.std.specs.String.{string_bytes}
use Rattle.cli_tasks.proofs.rule_certificates.uncertified.Given as goal

abbrev pub invariant-loop-order : goal.invariant-loop-order
invariant-loop-order l =
    string_bytes l.line ≡ codes "uncertified majority " ++ decimal l.majority ++ codes " result "
    ++ decimal l.returned ++ codes " list"
    ++ flat_map (λ order. codes " " ++ decimal order) (take l.order-index l.order-items)

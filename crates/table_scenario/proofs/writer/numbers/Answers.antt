use Rattle.std.proofs.Common.{◌≡◌, ◌++◌, append_assoc, codes}
use Rattle.std.specs.Fmt.{decimal}
use Rattle.std.specs.String.{string_bytes}
use Rattle.std.proofs.lemmas.Result.{IfOk-weaker}
use Rattle.table_scenario.proofs.Pieces.{numbers_are}
use Rattle.table_scenario.proofs.writer.numbers.Goals as goal

pub returns : goal.returns
returns g c =
    IfOk-weaker c.format.result _ _
    (λ s h.
    let k : string_bytes s ≡ (codes "generals = " ++ decimal c.generals-generals.result ++ codes "\nbound = " ++ decimal c.bound-bound.result ++ codes "\ncommander = " ++ decimal c.commander-commander.result ++ codes "\norder = " ++ decimal c.first_order-order.result ++ codes "\n") = simp append_assoc h in
    numbers_are (g.H.Heard.seen c.args.table.now) (string_bytes s) c.generals-generals.result c.bound-bound.result c.commander-commander.result c.first_order-order.result c.generals-generals.ensures.value c.bound-bound.ensures.value c.commander-commander.ensures.value c.first_order-order.ensures k)
    c.format.ensures.ok

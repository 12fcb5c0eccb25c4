use Rattle.std.proofs.Common.{◌∙◌, ◌≤◌, ap, length, sym, arith}
use Rattle.std.proofs.lemmas.List.{drop_all}
use Rattle.cli_words.proofs.CommandLemmas.{alone_named, none_named, row_found, row_named, row_passed}
use Rattle.cli_words.proofs.subcommands.named_among.Goals as goal

pub loop-subcommand-preserved : goal.loop-subcommand-preserved
loop-subcommand-preserved c =
    row_passed c.args.name.now c.args.subcommands.now c.loop-subcommand.subcommand-index _ c.loop-subcommand-test.true (sym c.if-eq.ensures)
    ∙ c.loop-subcommand.invariant

pub returns-then-eq : goal.returns-then-eq
returns-then-eq c =
    alone_named c.args.name.now c.args.subcommands.now c.from_ref.result.now _ c.from_ref.ensures.value
    (sym c.loop-subcommand.invariant ∙ row_found c.args.name.now c.args.subcommands.now c.loop-subcommand.subcommand-index _ c.loop-subcommand-test.true (sym c.if-eq.ensures))

pub returns : goal.returns
returns c =
    let past : length c.args.subcommands.now ≤ c.loop-subcommand.subcommand-index = omega arith in
    none_named c.args.name.now c.args.subcommands.now
    (sym c.loop-subcommand.invariant ∙ ap (row_named c.args.name.now) (drop_all c.loop-subcommand.subcommand-index c.args.subcommands.now past))

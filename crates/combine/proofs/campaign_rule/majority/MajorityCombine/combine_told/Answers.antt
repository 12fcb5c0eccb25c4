use Rattle.std.proofs.Common.{sym, ◌∙◌}
use Rattle.std.specs.Prelude.{insert}
use Rattle.combine.proofs.Most.{most_is_majority}
use Rattle.combine.proofs.Joining.{most_anywhere}
use Rattle.combine.proofs.campaign_rule.majority.MajorityCombine.combine_told.Goals as goal

pub returns-then-is_in_most_told : goal.returns-then-is_in_most_told
returns-then-is_in_most_told c =
    most_is_majority (insert c.args.told.now c.args.place c.args.own) c.args.own (most_anywhere c.args.told.now c.args.place c.args.own c.args.own ∙ (sym c.is_in_most_told.ensures ∙ c.if-is_in_most_told.true))

pub returns-then-is_in_most_told-2 : goal.returns-then-is_in_most_told-2
returns-then-is_in_most_told-2 c =
    most_is_majority (insert c.args.told.now c.args.place c.args.own) c.other_of_two-other.result (most_anywhere c.args.told.now c.args.place c.args.own c.other_of_two-other.result ∙ (sym c.is_in_most_told-2.ensures ∙ c.if-is_in_most_told-2.true))

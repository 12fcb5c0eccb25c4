use Rattle.std.proofs.Common.{◌∙◌, ◌∷◌, [], ap, codes, refl}
use Rattle.std.proofs.lemmas.Result.{IfOk-weaker}
use Rattle.clap.specs.Words.{Rule, app_of, with_rule}
use Rattle.surveyor.specs.Flags.{files, option, rule_for, switch}
use Rattle.surveyor.proofs.FlagLemmas.{survey_is}
use Rattle.surveyor.proofs.flags.command.Goals as goal

pub returns : goal.returns
unfolding rule_for
returns c = IfOk-weaker c.arg-2.result _ _ (λ whole adds.
    survey_is (app_of c.in_ok-bare.field-0) (app_of c.in_ok-with_flags.field-0) (app_of c.in_ok-command.command) (app_of c.in_ok-command-2.command) (app_of c.in_ok-command-3.command) (app_of whole)
    (option (codes "generals") ∷ option (codes "bound") ∷ option (codes "traitors") ∷ option (codes "commander") ∷ option (codes "orders") ∷ switch (codes "grid") ∷ option (codes "seeds") ∷ []) (option (codes "patience") ∷ switch (codes "signed") ∷ option (codes "adversary") ∷ [])
    (switch (codes "lines") ∷ switch (codes "details") ∷ switch (codes "table") ∷ switch (codes "csv") ∷ switch (codes "svg") ∷ switch (codes "shrink") ∷ switch (codes "break") ∷ option (codes "campaign") ∷ option (codes "keep") ∷ option (codes "keep-all") ∷ [])
    (option (codes "rule")) (files (codes "sum")) c.in_ok-bare.ensures c.in_ok-with_flags.ensures.app
    (c.in_ok-command.ensures.shape c.argument.ensures.local ∙ ap (λ (r : Rule). with_rule (app_of c.in_ok-with_flags.field-0) r) c.argument.ensures.rule)
    c.in_ok-command-2.ensures.app c.in_ok-command-3.ensures.app
    (adds.shape c.sum_argument.ensures.local ∙ ap (λ (r : Rule). with_rule (app_of c.in_ok-command-3.command) r) c.sum_argument.ensures.rule) refl) c.arg-2.ensures

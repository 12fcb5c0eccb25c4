-- Traitors that are cut off by a patience, from the scenario to the chronicle's text. Written by checks/generate, which computes the right sides by a model.
use Rattle.std.specs.Prelude.{◌≡◌, [], ◌∷◌, replicate, codes, None, Some, refl}
use Rattle.std.specs.Fmt.{digits}
use Rattle.combine.specs.Rule.{majority}
use Rattle.combine.specs.declared.campaign_rule.Rule.TheVariants.{Majority}
use Rattle.label.specs.Labels.{labels}
use Rattle.label.specs.Oral.{om}
use Rattle.semantics.specs.Execution.{step}
use Rattle.round.specs.Scenario.{Scenario}
use Rattle.mem.specs.ContextLayout.{context_bytes}
use Rattle.round.specs.Letters.{messages}
use Rattle.world.specs.Chronicle.{decisions}
use Rattle.trace.specs.Text.{lines_in, text_in}
use Rattle.trace.proofs.Printed.{printed, lines}
use Rattle.trace.proofs.TraitorLieutenant.{turncoat}
use Rattle.trace.proofs.SevenGenerals.{counter}

-- four generals, whose traitor may take three steps
four_cut : Scenario
four_cut = record { generals = 4; bound = 1; commander = 0; order = 1; board = replicate 64 0; programs = None ∷ None ∷ None ∷ Some turncoat ∷ []; patience = Some 3; rule = Majority }

-- his first order still goes out: the last step that he may take is served
cut_behind_three : printed four_cut [] ≡ lines (
    codes "chronicle 2"
    ∷ codes "generals 4 bound 1 commander 0 order 1 patience 3 rule majority"
    ∷ codes "round 1"
    ∷ codes "letter 0 loyal"
    ∷ codes "row 0 1 1 1"
    ∷ codes "letter 1 loyal"
    ∷ codes "letter 2 loyal"
    ∷ codes "letter 3 steps 3"
    ∷ codes "round 2"
    ∷ codes "letter 0 loyal"
    ∷ codes "letter 1 loyal"
    ∷ codes "row 0 1 1"
    ∷ codes "letter 2 loyal"
    ∷ codes "row 0 1 1"
    ∷ codes "letter 3 steps 3"
    ∷ codes "row 0 0 -"
    ∷ codes "decision 1 1"
    ∷ codes "decision 2 1"
    ∷ codes "decision 3 traitor 1"
    ∷ codes "verdict alike yes obeyed yes bound yes"
    ∷ [])
unfolding four_cut turncoat labels om majority context_bytes messages decisions lines_in text_in step digits
cut_behind_three = refl

-- seven generals, whose traitors may take three steps
seven_cut : Scenario
seven_cut = record { generals = 7; bound = 2; commander = 0; order = 0; board = replicate 64 0; programs = Some counter ∷ None ∷ None ∷ None ∷ Some counter ∷ None ∷ None ∷ []; patience = Some 3; rule = Majority }

-- the access of the third step is served, and no order goes out
served_last : printed seven_cut [] ≡ lines (
    codes "chronicle 2"
    ∷ codes "generals 7 bound 2 commander 0 order 0 patience 3 rule majority"
    ∷ codes "round 1"
    ∷ codes "access 0 add 0 1 = 0"
    ∷ codes "access 4 add 0 1 = 1"
    ∷ codes "letter 0 steps 3"
    ∷ codes "row 0 - - - - - -"
    ∷ codes "letter 1 loyal"
    ∷ codes "letter 2 loyal"
    ∷ codes "letter 3 loyal"
    ∷ codes "letter 4 steps 3"
    ∷ codes "letter 5 loyal"
    ∷ codes "letter 6 loyal"
    ∷ codes "round 2"
    ∷ codes "access 0 add 0 1 = 2"
    ∷ codes "access 4 add 0 1 = 3"
    ∷ codes "letter 0 steps 3"
    ∷ codes "letter 1 loyal"
    ∷ codes "row 0 0 0 0 0 0"
    ∷ codes "letter 2 loyal"
    ∷ codes "row 0 0 0 0 0 0"
    ∷ codes "letter 3 loyal"
    ∷ codes "row 0 0 0 0 0 0"
    ∷ codes "letter 4 steps 3"
    ∷ codes "row 0 - - - - -"
    ∷ codes "letter 5 loyal"
    ∷ codes "row 0 0 0 0 0 0"
    ∷ codes "letter 6 loyal"
    ∷ codes "row 0 0 0 0 0 0"
    ∷ codes "round 3"
    ∷ codes "access 0 add 0 1 = 4"
    ∷ codes "access 4 add 0 1 = 5"
    ∷ codes "letter 0 steps 3"
    ∷ codes "letter 1 loyal"
    ∷ codes "row 0 0 0 0 0"
    ∷ codes "row 1 0 0 0 0"
    ∷ codes "row 2 0 0 0 0"
    ∷ codes "row 3 0 0 0 0"
    ∷ codes "row 4 0 0 0 0"
    ∷ codes "letter 2 loyal"
    ∷ codes "row 0 0 0 0 0"
    ∷ codes "row 1 0 0 0 0"
    ∷ codes "row 2 0 0 0 0"
    ∷ codes "row 3 0 0 0 0"
    ∷ codes "row 4 0 0 0 0"
    ∷ codes "letter 3 loyal"
    ∷ codes "row 0 0 0 0 0"
    ∷ codes "row 1 0 0 0 0"
    ∷ codes "row 2 0 0 0 0"
    ∷ codes "row 3 0 0 0 0"
    ∷ codes "row 4 0 0 0 0"
    ∷ codes "letter 4 steps 3"
    ∷ codes "row 0 - - - -"
    ∷ codes "row 1 - - - -"
    ∷ codes "row 2 - - - -"
    ∷ codes "row 3 - - - -"
    ∷ codes "row 4 - - - -"
    ∷ codes "letter 5 loyal"
    ∷ codes "row 0 0 0 0 0"
    ∷ codes "row 1 0 0 0 0"
    ∷ codes "row 2 0 0 0 0"
    ∷ codes "row 3 0 0 0 0"
    ∷ codes "row 4 0 0 0 0"
    ∷ codes "letter 6 loyal"
    ∷ codes "row 0 0 0 0 0"
    ∷ codes "row 1 0 0 0 0"
    ∷ codes "row 2 0 0 0 0"
    ∷ codes "row 3 0 0 0 0"
    ∷ codes "row 4 0 0 0 0"
    ∷ codes "decision 1 0"
    ∷ codes "decision 2 0"
    ∷ codes "decision 3 0"
    ∷ codes "decision 4 traitor 0"
    ∷ codes "decision 5 0"
    ∷ codes "decision 6 0"
    ∷ codes "verdict alike yes obeyed - bound yes"
    ∷ [])
unfolding seven_cut counter labels om majority context_bytes messages decisions lines_in text_in step digits
served_last = refl

-- the same with two steps
seven_short : Scenario
seven_short = record { generals = 7; bound = 2; commander = 0; order = 0; board = replicate 64 0; programs = Some counter ∷ None ∷ None ∷ None ∷ Some counter ∷ None ∷ None ∷ []; patience = Some 2; rule = Majority }

-- no access is made
cut_before : printed seven_short [] ≡ lines (
    codes "chronicle 2"
    ∷ codes "generals 7 bound 2 commander 0 order 0 patience 2 rule majority"
    ∷ codes "round 1"
    ∷ codes "letter 0 steps 2"
    ∷ codes "row 0 - - - - - -"
    ∷ codes "letter 1 loyal"
    ∷ codes "letter 2 loyal"
    ∷ codes "letter 3 loyal"
    ∷ codes "letter 4 steps 2"
    ∷ codes "letter 5 loyal"
    ∷ codes "letter 6 loyal"
    ∷ codes "round 2"
    ∷ codes "letter 0 steps 2"
    ∷ codes "letter 1 loyal"
    ∷ codes "row 0 0 0 0 0 0"
    ∷ codes "letter 2 loyal"
    ∷ codes "row 0 0 0 0 0 0"
    ∷ codes "letter 3 loyal"
    ∷ codes "row 0 0 0 0 0 0"
    ∷ codes "letter 4 steps 2"
    ∷ codes "row 0 - - - - -"
    ∷ codes "letter 5 loyal"
    ∷ codes "row 0 0 0 0 0 0"
    ∷ codes "letter 6 loyal"
    ∷ codes "row 0 0 0 0 0 0"
    ∷ codes "round 3"
    ∷ codes "letter 0 steps 2"
    ∷ codes "letter 1 loyal"
    ∷ codes "row 0 0 0 0 0"
    ∷ codes "row 1 0 0 0 0"
    ∷ codes "row 2 0 0 0 0"
    ∷ codes "row 3 0 0 0 0"
    ∷ codes "row 4 0 0 0 0"
    ∷ codes "letter 2 loyal"
    ∷ codes "row 0 0 0 0 0"
    ∷ codes "row 1 0 0 0 0"
    ∷ codes "row 2 0 0 0 0"
    ∷ codes "row 3 0 0 0 0"
    ∷ codes "row 4 0 0 0 0"
    ∷ codes "letter 3 loyal"
    ∷ codes "row 0 0 0 0 0"
    ∷ codes "row 1 0 0 0 0"
    ∷ codes "row 2 0 0 0 0"
    ∷ codes "row 3 0 0 0 0"
    ∷ codes "row 4 0 0 0 0"
    ∷ codes "letter 4 steps 2"
    ∷ codes "row 0 - - - -"
    ∷ codes "row 1 - - - -"
    ∷ codes "row 2 - - - -"
    ∷ codes "row 3 - - - -"
    ∷ codes "row 4 - - - -"
    ∷ codes "letter 5 loyal"
    ∷ codes "row 0 0 0 0 0"
    ∷ codes "row 1 0 0 0 0"
    ∷ codes "row 2 0 0 0 0"
    ∷ codes "row 3 0 0 0 0"
    ∷ codes "row 4 0 0 0 0"
    ∷ codes "letter 6 loyal"
    ∷ codes "row 0 0 0 0 0"
    ∷ codes "row 1 0 0 0 0"
    ∷ codes "row 2 0 0 0 0"
    ∷ codes "row 3 0 0 0 0"
    ∷ codes "row 4 0 0 0 0"
    ∷ codes "decision 1 0"
    ∷ codes "decision 2 0"
    ∷ codes "decision 3 0"
    ∷ codes "decision 4 traitor 0"
    ∷ codes "decision 5 0"
    ∷ codes "decision 6 0"
    ∷ codes "verdict alike yes obeyed - bound yes"
    ∷ [])
unfolding seven_short counter labels om majority context_bytes messages decisions lines_in text_in step digits
cut_before = refl

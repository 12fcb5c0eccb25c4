-- A campaign of two loyal generals, from the scenario to the chronicle's text. Written by checks/generate, which computes the right sides by a model.
use Rattle.std.specs.Prelude.{◌≡◌, [], ◌∷◌, replicate, codes, None, refl}
use Rattle.std.specs.Fmt.{digits}
use Rattle.combine.specs.Rule.{majority}
use Rattle.combine.specs.declared.campaign_rule.Rule.TheVariants.{Majority}
use Rattle.label.specs.Labels.{labels}
use Rattle.label.specs.Oral.{om}
use Rattle.semantics.specs.Execution.{step}
use Rattle.round.specs.Scenario.{Scenario}
use Rattle.mem.specs.ContextLayout.{context_bytes}
use Rattle.round.specs.Letters.{messages}
use Rattle.world.specs.Chronicle.{decisions}
use Rattle.trace.specs.Text.{lines_in, text_in}
use Rattle.trace.proofs.Printed.{printed, lines}

-- two generals, no traitor
two : Scenario
two = record { generals = 2; bound = 0; commander = 0; order = 7; board = replicate 64 0; programs = None ∷ None ∷ []; patience = None; rule = Majority }

-- the lieutenant decides the order
two_generals : printed two ([]) ≡ lines (
    codes "chronicle 1"
    ∷ codes "generals 2 bound 0 commander 0 order 7"
    ∷ codes "round 1"
    ∷ codes "letter 0 loyal"
    ∷ codes "row 0 7"
    ∷ codes "letter 1 loyal"
    ∷ codes "decision 1 7"
    ∷ codes "verdict alike yes obeyed yes bound yes"
    ∷ [])
unfolding two labels om majority context_bytes messages decisions lines_in text_in step digits
two_generals = refl

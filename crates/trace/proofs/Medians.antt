-- Campaigns by the median, from the scenario to the chronicle's text. Written by checks/generate, which computes the right sides by a model.
use Rattle.std.specs.Prelude.{◌≡◌, [], ◌∷◌, replicate, codes, None, Some, refl}
use Rattle.std.specs.Fmt.{digits}
use Rattle.combine.specs.Rule.{median, is_middle}
use Rattle.combine.specs.declared.campaign_rule.Rule.TheVariants.{Median}
use Rattle.label.specs.Labels.{labels}
use Rattle.label.specs.Oral.{om}
use Rattle.semantics.specs.Execution.{step}
use Rattle.round.specs.Scenario.{Scenario}
use Rattle.mem.specs.ContextLayout.{context_bytes}
use Rattle.round.specs.Letters.{messages}
use Rattle.world.specs.Chronicle.{decisions}
use Rattle.trace.specs.Text.{lines_in, text_in}
use Rattle.trace.proofs.Printed.{printed, lines}
use Rattle.trace.proofs.TraitorCommander.{three_ways}
use Rattle.trace.proofs.ThreeGenerals.{liar}

-- four generals under a commander who tells three orders
under_three : Scenario
under_three = record { generals = 4; bound = 1; commander = 0; order = 0; board = replicate 64 0; programs = Some three_ways ∷ None ∷ None ∷ None ∷ []; patience = None; rule = Median }

-- the middle one is decided
middle_order : printed under_three [] ≡ lines (
    codes "chronicle 2"
    ∷ codes "generals 4 bound 1 commander 0 order 0 patience - rule median"
    ∷ codes "round 1"
    ∷ codes "letter 0 steps 10"
    ∷ codes "row 0 1 2 3"
    ∷ codes "letter 1 loyal"
    ∷ codes "letter 2 loyal"
    ∷ codes "letter 3 loyal"
    ∷ codes "round 2"
    ∷ codes "letter 0 steps 10"
    ∷ codes "letter 1 loyal"
    ∷ codes "row 0 1 1"
    ∷ codes "letter 2 loyal"
    ∷ codes "row 0 2 2"
    ∷ codes "letter 3 loyal"
    ∷ codes "row 0 3 3"
    ∷ codes "decision 1 2"
    ∷ codes "decision 2 2"
    ∷ codes "decision 3 2"
    ∷ codes "verdict alike yes obeyed - bound yes"
    ∷ [])
unfolding under_three three_ways labels om median is_middle context_bytes messages decisions lines_in text_in step digits
middle_order = refl

-- three generals, one of them a traitor
three_median : Scenario
three_median = record { generals = 3; bound = 1; commander = 0; order = 1; board = replicate 64 0; programs = None ∷ None ∷ Some liar ∷ []; patience = None; rule = Median }

-- of two orders the greater one stands in the middle, and the lieutenant obeys
three_obey : printed three_median [] ≡ lines (
    codes "chronicle 2"
    ∷ codes "generals 3 bound 1 commander 0 order 1 patience - rule median"
    ∷ codes "round 1"
    ∷ codes "letter 0 loyal"
    ∷ codes "row 0 1 1"
    ∷ codes "letter 1 loyal"
    ∷ codes "letter 2 steps 4"
    ∷ codes "round 2"
    ∷ codes "letter 0 loyal"
    ∷ codes "letter 1 loyal"
    ∷ codes "row 0 1"
    ∷ codes "letter 2 steps 4"
    ∷ codes "row 0 0"
    ∷ codes "decision 1 1"
    ∷ codes "decision 2 traitor 1"
    ∷ codes "verdict alike yes obeyed yes bound no"
    ∷ [])
unfolding three_median liar labels om median is_middle context_bytes messages decisions lines_in text_in step digits
three_obey = refl

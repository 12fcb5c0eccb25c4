-- Campaigns of seven generals under schedules, from the scenario to the chronicle's text. Written by checks/generate, which computes the right sides by a model.
use Rattle.std.specs.Prelude.{pos, map, true, false, ◌≡◌, List, [], ◌∷◌, replicate, codes, None, Some, refl}
use Rattle.std.specs.Fmt.{digits}
use Rattle.word.specs.declared.Width.TheVariants.{W64}
use Rattle.word.specs.declared.Operation.TheVariants as op
use Rattle.insn.specs.declared.insn.Insn.{Insn}
use Rattle.insn.specs.declared.insn.Insn.TheVariants as i
use Rattle.insn.specs.declared.insn.Operand.TheVariants.{Register, Immediate}
use Rattle.combine.specs.Rule.{majority}
use Rattle.combine.specs.declared.campaign_rule.Rule.TheVariants.{Majority}
use Rattle.label.specs.Labels.{labels}
use Rattle.label.specs.Oral.{om}
use Rattle.semantics.specs.Execution.{step}
use Rattle.round.specs.Scenario.{Scenario}
use Rattle.mem.specs.ContextLayout.{context_bytes}
use Rattle.round.specs.Letters.{messages}
use Rattle.world.specs.World.{opening, run}
use Rattle.world.specs.declared.event.Event.TheVariants.{Close}
use Rattle.world.specs.Lists.{listed_rounds}
use Rattle.world.specs.Chronicle.{decisions}
use Rattle.trace.specs.Text.{lines_in, text_in}
use Rattle.trace.proofs.Printed.{printed, lines}

-- he adds 1 to a word of the board, and tells generals 1, 2 and 3 the lowest bit of what it was
unfoldable pub counter : List Insn
counter =
    i.Arithmetic W64 op.Move 1 (Immediate (pos 0))
    ∷ i.Arithmetic W64 op.Move 2 (Immediate (pos 1))
    ∷ i.Call (pos 3)
    ∷ i.Arithmetic W64 op.Move 6 (Register 0)
    ∷ i.Arithmetic W64 op.And 6 (Immediate (pos 1))
    ∷ i.Arithmetic W64 op.Move 1 (Immediate (pos 1))
    ∷ i.Arithmetic W64 op.Move 2 (Register 6)
    ∷ i.Call (pos 8)
    ∷ i.Arithmetic W64 op.Move 1 (Immediate (pos 2))
    ∷ i.Arithmetic W64 op.Move 2 (Register 6)
    ∷ i.Call (pos 8)
    ∷ i.Arithmetic W64 op.Move 1 (Immediate (pos 3))
    ∷ i.Arithmetic W64 op.Move 2 (Register 6)
    ∷ i.Call (pos 8)
    ∷ i.Exit
    ∷ []

-- seven generals under a traitor, another among the lieutenants
seven : Scenario
seven = record { generals = 7; bound = 2; commander = 0; order = 0; board = replicate 64 0; programs = Some counter ∷ None ∷ None ∷ None ∷ Some counter ∷ None ∷ None ∷ []; patience = None; rule = Majority }

-- without a schedule general 0 comes first
seven_generals : printed seven ([]) ≡ lines (
    codes "chronicle 1"
    ∷ codes "generals 7 bound 2 commander 0 order 0"
    ∷ codes "round 1"
    ∷ codes "access 0 add 0 1 = 0"
    ∷ codes "access 4 add 0 1 = 1"
    ∷ codes "letter 0 steps 15"
    ∷ codes "row 0 0 0 0 - - -"
    ∷ codes "letter 1 loyal"
    ∷ codes "letter 2 loyal"
    ∷ codes "letter 3 loyal"
    ∷ codes "letter 4 steps 15"
    ∷ codes "letter 5 loyal"
    ∷ codes "letter 6 loyal"
    ∷ codes "round 2"
    ∷ codes "access 0 add 0 1 = 2"
    ∷ codes "access 4 add 0 1 = 3"
    ∷ codes "letter 0 steps 15"
    ∷ codes "letter 1 loyal"
    ∷ codes "row 0 0 0 0 0 0"
    ∷ codes "letter 2 loyal"
    ∷ codes "row 0 0 0 0 0 0"
    ∷ codes "letter 3 loyal"
    ∷ codes "row 0 0 0 0 0 0"
    ∷ codes "letter 4 steps 15"
    ∷ codes "row 0 1 1 1 - -"
    ∷ codes "letter 5 loyal"
    ∷ codes "row 0 0 0 0 0 0"
    ∷ codes "letter 6 loyal"
    ∷ codes "row 0 0 0 0 0 0"
    ∷ codes "round 3"
    ∷ codes "access 0 add 0 1 = 4"
    ∷ codes "access 4 add 0 1 = 5"
    ∷ codes "letter 0 steps 15"
    ∷ codes "letter 1 loyal"
    ∷ codes "row 0 0 0 0 0"
    ∷ codes "row 1 0 0 0 0"
    ∷ codes "row 2 1 1 1 1"
    ∷ codes "row 3 0 0 0 0"
    ∷ codes "row 4 0 0 0 0"
    ∷ codes "letter 2 loyal"
    ∷ codes "row 0 0 0 0 0"
    ∷ codes "row 1 0 0 0 0"
    ∷ codes "row 2 1 1 1 1"
    ∷ codes "row 3 0 0 0 0"
    ∷ codes "row 4 0 0 0 0"
    ∷ codes "letter 3 loyal"
    ∷ codes "row 0 0 0 0 0"
    ∷ codes "row 1 0 0 0 0"
    ∷ codes "row 2 1 1 1 1"
    ∷ codes "row 3 0 0 0 0"
    ∷ codes "row 4 0 0 0 0"
    ∷ codes "letter 4 steps 15"
    ∷ codes "row 0 1 1 - -"
    ∷ codes "row 1 1 1 - -"
    ∷ codes "row 2 1 1 - -"
    ∷ codes "row 3 1 1 1 -"
    ∷ codes "row 4 1 1 1 -"
    ∷ codes "letter 5 loyal"
    ∷ codes "row 0 0 0 0 0"
    ∷ codes "row 1 0 0 0 0"
    ∷ codes "row 2 0 0 0 0"
    ∷ codes "row 3 0 0 0 0"
    ∷ codes "row 4 0 0 0 0"
    ∷ codes "letter 6 loyal"
    ∷ codes "row 0 0 0 0 0"
    ∷ codes "row 1 0 0 0 0"
    ∷ codes "row 2 0 0 0 0"
    ∷ codes "row 3 0 0 0 0"
    ∷ codes "row 4 0 0 0 0"
    ∷ codes "decision 1 0"
    ∷ codes "decision 2 0"
    ∷ codes "decision 3 0"
    ∷ codes "decision 4 traitor 0"
    ∷ codes "decision 5 0"
    ∷ codes "decision 6 0"
    ∷ codes "verdict alike yes obeyed - bound yes"
    ∷ [])
unfolding seven counter labels om majority context_bytes messages decisions lines_in text_in step digits
seven_generals = refl

-- a line for the first round puts general 4 in front there
first_round : printed seven (replicate 15 4 ∷ []) ≡ lines (
    codes "chronicle 1"
    ∷ codes "generals 7 bound 2 commander 0 order 0"
    ∷ codes "round 1"
    ∷ codes "access 4 add 0 1 = 0"
    ∷ codes "access 0 add 0 1 = 1"
    ∷ codes "letter 0 steps 15"
    ∷ codes "row 0 1 1 1 - - -"
    ∷ codes "letter 1 loyal"
    ∷ codes "letter 2 loyal"
    ∷ codes "letter 3 loyal"
    ∷ codes "letter 4 steps 15"
    ∷ codes "letter 5 loyal"
    ∷ codes "letter 6 loyal"
    ∷ codes "round 2"
    ∷ codes "access 0 add 0 1 = 2"
    ∷ codes "access 4 add 0 1 = 3"
    ∷ codes "letter 0 steps 15"
    ∷ codes "letter 1 loyal"
    ∷ codes "row 0 1 1 1 1 1"
    ∷ codes "letter 2 loyal"
    ∷ codes "row 0 1 1 1 1 1"
    ∷ codes "letter 3 loyal"
    ∷ codes "row 0 1 1 1 1 1"
    ∷ codes "letter 4 steps 15"
    ∷ codes "row 0 1 1 1 - -"
    ∷ codes "letter 5 loyal"
    ∷ codes "row 0 0 0 0 0 0"
    ∷ codes "letter 6 loyal"
    ∷ codes "row 0 0 0 0 0 0"
    ∷ codes "round 3"
    ∷ codes "access 0 add 0 1 = 4"
    ∷ codes "access 4 add 0 1 = 5"
    ∷ codes "letter 0 steps 15"
    ∷ codes "letter 1 loyal"
    ∷ codes "row 0 1 1 1 1"
    ∷ codes "row 1 1 1 1 1"
    ∷ codes "row 2 1 1 1 1"
    ∷ codes "row 3 0 0 0 0"
    ∷ codes "row 4 0 0 0 0"
    ∷ codes "letter 2 loyal"
    ∷ codes "row 0 1 1 1 1"
    ∷ codes "row 1 1 1 1 1"
    ∷ codes "row 2 1 1 1 1"
    ∷ codes "row 3 0 0 0 0"
    ∷ codes "row 4 0 0 0 0"
    ∷ codes "letter 3 loyal"
    ∷ codes "row 0 1 1 1 1"
    ∷ codes "row 1 1 1 1 1"
    ∷ codes "row 2 1 1 1 1"
    ∷ codes "row 3 0 0 0 0"
    ∷ codes "row 4 0 0 0 0"
    ∷ codes "letter 4 steps 15"
    ∷ codes "row 0 1 1 - -"
    ∷ codes "row 1 1 1 - -"
    ∷ codes "row 2 1 1 - -"
    ∷ codes "row 3 1 1 1 -"
    ∷ codes "row 4 1 1 1 -"
    ∷ codes "letter 5 loyal"
    ∷ codes "row 0 1 1 1 1"
    ∷ codes "row 1 1 1 1 1"
    ∷ codes "row 2 1 1 1 1"
    ∷ codes "row 3 0 0 0 0"
    ∷ codes "row 4 0 0 0 0"
    ∷ codes "letter 6 loyal"
    ∷ codes "row 0 1 1 1 1"
    ∷ codes "row 1 1 1 1 1"
    ∷ codes "row 2 1 1 1 1"
    ∷ codes "row 3 0 0 0 0"
    ∷ codes "row 4 0 0 0 0"
    ∷ codes "decision 1 1"
    ∷ codes "decision 2 1"
    ∷ codes "decision 3 1"
    ∷ codes "decision 4 traitor 0"
    ∷ codes "decision 5 1"
    ∷ codes "decision 6 1"
    ∷ codes "verdict alike yes obeyed - bound yes"
    ∷ [])
unfolding seven counter labels om majority context_bytes messages decisions lines_in text_in step digits
first_round = refl

-- and one for the second there too
two_rounds : printed seven (replicate 15 4 ∷ replicate 15 4 ∷ []) ≡ lines (
    codes "chronicle 1"
    ∷ codes "generals 7 bound 2 commander 0 order 0"
    ∷ codes "round 1"
    ∷ codes "access 4 add 0 1 = 0"
    ∷ codes "access 0 add 0 1 = 1"
    ∷ codes "letter 0 steps 15"
    ∷ codes "row 0 1 1 1 - - -"
    ∷ codes "letter 1 loyal"
    ∷ codes "letter 2 loyal"
    ∷ codes "letter 3 loyal"
    ∷ codes "letter 4 steps 15"
    ∷ codes "letter 5 loyal"
    ∷ codes "letter 6 loyal"
    ∷ codes "round 2"
    ∷ codes "access 4 add 0 1 = 2"
    ∷ codes "access 0 add 0 1 = 3"
    ∷ codes "letter 0 steps 15"
    ∷ codes "letter 1 loyal"
    ∷ codes "row 0 1 1 1 1 1"
    ∷ codes "letter 2 loyal"
    ∷ codes "row 0 1 1 1 1 1"
    ∷ codes "letter 3 loyal"
    ∷ codes "row 0 1 1 1 1 1"
    ∷ codes "letter 4 steps 15"
    ∷ codes "row 0 0 0 0 - -"
    ∷ codes "letter 5 loyal"
    ∷ codes "row 0 0 0 0 0 0"
    ∷ codes "letter 6 loyal"
    ∷ codes "row 0 0 0 0 0 0"
    ∷ codes "round 3"
    ∷ codes "access 0 add 0 1 = 4"
    ∷ codes "access 4 add 0 1 = 5"
    ∷ codes "letter 0 steps 15"
    ∷ codes "letter 1 loyal"
    ∷ codes "row 0 1 1 1 1"
    ∷ codes "row 1 1 1 1 1"
    ∷ codes "row 2 0 0 0 0"
    ∷ codes "row 3 0 0 0 0"
    ∷ codes "row 4 0 0 0 0"
    ∷ codes "letter 2 loyal"
    ∷ codes "row 0 1 1 1 1"
    ∷ codes "row 1 1 1 1 1"
    ∷ codes "row 2 0 0 0 0"
    ∷ codes "row 3 0 0 0 0"
    ∷ codes "row 4 0 0 0 0"
    ∷ codes "letter 3 loyal"
    ∷ codes "row 0 1 1 1 1"
    ∷ codes "row 1 1 1 1 1"
    ∷ codes "row 2 0 0 0 0"
    ∷ codes "row 3 0 0 0 0"
    ∷ codes "row 4 0 0 0 0"
    ∷ codes "letter 4 steps 15"
    ∷ codes "row 0 1 1 - -"
    ∷ codes "row 1 1 1 - -"
    ∷ codes "row 2 1 1 - -"
    ∷ codes "row 3 1 1 1 -"
    ∷ codes "row 4 1 1 1 -"
    ∷ codes "letter 5 loyal"
    ∷ codes "row 0 1 1 1 1"
    ∷ codes "row 1 1 1 1 1"
    ∷ codes "row 2 1 1 1 1"
    ∷ codes "row 3 0 0 0 0"
    ∷ codes "row 4 0 0 0 0"
    ∷ codes "letter 6 loyal"
    ∷ codes "row 0 1 1 1 1"
    ∷ codes "row 1 1 1 1 1"
    ∷ codes "row 2 1 1 1 1"
    ∷ codes "row 3 0 0 0 0"
    ∷ codes "row 4 0 0 0 0"
    ∷ codes "decision 1 0"
    ∷ codes "decision 2 0"
    ∷ codes "decision 3 0"
    ∷ codes "decision 4 traitor 0"
    ∷ codes "decision 5 0"
    ∷ codes "decision 6 0"
    ∷ codes "verdict alike yes obeyed - bound yes"
    ∷ [])
unfolding seven counter labels om majority context_bytes messages decisions lines_in text_in step digits
two_rounds = refl

-- where a round is closed at once, not all loyal generals had posted
hasty : map (λ w. w.full) (run (opening seven) (Close ∷ []) ∷ run (opening seven) (listed_rounds seven 1 []) ∷ []) ≡ false ∷ true ∷ []
unfolding seven counter labels context_bytes messages step
hasty = refl

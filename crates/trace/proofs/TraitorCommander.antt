-- Four generals under a traitor, from the scenario as a value, with its programs, to the chronicle's text. Written by checks/generate, which computes the right sides by a model.
use Rattle.std.specs.Prelude.{pos, ◌≡◌, List, [], ◌∷◌, replicate, codes, None, Some, refl}
use Rattle.std.specs.Fmt.{digits}
use Rattle.word.specs.declared.Width.TheVariants.{W64}
use Rattle.word.specs.declared.Operation.TheVariants as op
use Rattle.insn.specs.declared.insn.Insn.{Insn}
use Rattle.insn.specs.declared.insn.Insn.TheVariants as i
use Rattle.insn.specs.declared.insn.Operand.TheVariants.{Immediate}
use Rattle.combine.specs.Rule.{majority}
use Rattle.combine.specs.declared.campaign_rule.Rule.TheVariants.{Majority}
use Rattle.label.specs.Labels.{labels}
use Rattle.label.specs.Oral.{om}
use Rattle.semantics.specs.Execution.{step}
use Rattle.round.specs.Scenario.{Scenario}
use Rattle.mem.specs.ContextLayout.{context_bytes}
use Rattle.round.specs.Letters.{messages}
use Rattle.world.specs.Chronicle.{decisions}
use Rattle.trace.specs.Text.{lines_in, text_in}
use Rattle.trace.proofs.Printed.{printed, lines}

-- a commander who tells the orders 1, 0 and 1
split : List Insn
split =
    i.Arithmetic W64 op.Move 1 (Immediate (pos 1))
    ∷ i.Arithmetic W64 op.Move 2 (Immediate (pos 1))
    ∷ i.Call (pos 8)
    ∷ i.Arithmetic W64 op.Move 1 (Immediate (pos 2))
    ∷ i.Arithmetic W64 op.Move 2 (Immediate (pos 0))
    ∷ i.Call (pos 8)
    ∷ i.Arithmetic W64 op.Move 1 (Immediate (pos 3))
    ∷ i.Arithmetic W64 op.Move 2 (Immediate (pos 1))
    ∷ i.Call (pos 8)
    ∷ i.Exit
    ∷ []

-- four generals under him
under_split : Scenario
under_split = record { generals = 4; bound = 1; commander = 0; order = 0; board = replicate 64 0; programs = Some split ∷ None ∷ None ∷ None ∷ []; patience = None; rule = Majority }

-- all decide 1
commander_split : printed under_split ([]) ≡ lines (
    codes "chronicle 1"
    ∷ codes "generals 4 bound 1 commander 0 order 0"
    ∷ codes "round 1"
    ∷ codes "letter 0 steps 10"
    ∷ codes "row 0 1 0 1"
    ∷ codes "letter 1 loyal"
    ∷ codes "letter 2 loyal"
    ∷ codes "letter 3 loyal"
    ∷ codes "round 2"
    ∷ codes "letter 0 steps 10"
    ∷ codes "letter 1 loyal"
    ∷ codes "row 0 1 1"
    ∷ codes "letter 2 loyal"
    ∷ codes "row 0 0 0"
    ∷ codes "letter 3 loyal"
    ∷ codes "row 0 1 1"
    ∷ codes "decision 1 1"
    ∷ codes "decision 2 1"
    ∷ codes "decision 3 1"
    ∷ codes "verdict alike yes obeyed - bound yes"
    ∷ [])
unfolding under_split split labels om majority context_bytes messages decisions lines_in text_in step digits
commander_split = refl

-- a commander who tells nothing to general 3
silent : List Insn
silent =
    i.Arithmetic W64 op.Move 1 (Immediate (pos 1))
    ∷ i.Arithmetic W64 op.Move 2 (Immediate (pos 1))
    ∷ i.Call (pos 8)
    ∷ i.Arithmetic W64 op.Move 1 (Immediate (pos 2))
    ∷ i.Arithmetic W64 op.Move 2 (Immediate (pos 0))
    ∷ i.Call (pos 8)
    ∷ i.Exit
    ∷ []

-- four generals under him
under_silent : Scenario
under_silent = record { generals = 4; bound = 1; commander = 0; order = 0; board = replicate 64 0; programs = Some silent ∷ None ∷ None ∷ None ∷ []; patience = None; rule = Majority }

-- nothing counts as 0: all decide 0
commander_silent : printed under_silent ([]) ≡ lines (
    codes "chronicle 1"
    ∷ codes "generals 4 bound 1 commander 0 order 0"
    ∷ codes "round 1"
    ∷ codes "letter 0 steps 7"
    ∷ codes "row 0 1 0 -"
    ∷ codes "letter 1 loyal"
    ∷ codes "letter 2 loyal"
    ∷ codes "letter 3 loyal"
    ∷ codes "round 2"
    ∷ codes "letter 0 steps 7"
    ∷ codes "letter 1 loyal"
    ∷ codes "row 0 1 1"
    ∷ codes "letter 2 loyal"
    ∷ codes "row 0 0 0"
    ∷ codes "letter 3 loyal"
    ∷ codes "row 0 0 0"
    ∷ codes "decision 1 0"
    ∷ codes "decision 2 0"
    ∷ codes "decision 3 0"
    ∷ codes "verdict alike yes obeyed - bound yes"
    ∷ [])
unfolding under_silent silent labels om majority context_bytes messages decisions lines_in text_in step digits
commander_silent = refl

-- a commander who tells three orders
unfoldable pub three_ways : List Insn
three_ways =
    i.Arithmetic W64 op.Move 1 (Immediate (pos 1))
    ∷ i.Arithmetic W64 op.Move 2 (Immediate (pos 1))
    ∷ i.Call (pos 8)
    ∷ i.Arithmetic W64 op.Move 1 (Immediate (pos 2))
    ∷ i.Arithmetic W64 op.Move 2 (Immediate (pos 2))
    ∷ i.Call (pos 8)
    ∷ i.Arithmetic W64 op.Move 1 (Immediate (pos 3))
    ∷ i.Arithmetic W64 op.Move 2 (Immediate (pos 3))
    ∷ i.Call (pos 8)
    ∷ i.Exit
    ∷ []

-- four generals under him
under_three_ways : Scenario
under_three_ways = record { generals = 4; bound = 1; commander = 0; order = 0; board = replicate 64 0; programs = Some three_ways ∷ None ∷ None ∷ None ∷ []; patience = None; rule = Majority }

-- no order has more than half: all decide 0
commander_three_ways : printed under_three_ways ([]) ≡ lines (
    codes "chronicle 1"
    ∷ codes "generals 4 bound 1 commander 0 order 0"
    ∷ codes "round 1"
    ∷ codes "letter 0 steps 10"
    ∷ codes "row 0 1 2 3"
    ∷ codes "letter 1 loyal"
    ∷ codes "letter 2 loyal"
    ∷ codes "letter 3 loyal"
    ∷ codes "round 2"
    ∷ codes "letter 0 steps 10"
    ∷ codes "letter 1 loyal"
    ∷ codes "row 0 1 1"
    ∷ codes "letter 2 loyal"
    ∷ codes "row 0 2 2"
    ∷ codes "letter 3 loyal"
    ∷ codes "row 0 3 3"
    ∷ codes "decision 1 0"
    ∷ codes "decision 2 0"
    ∷ codes "decision 3 0"
    ∷ codes "verdict alike yes obeyed - bound yes"
    ∷ [])
unfolding under_three_ways three_ways labels om majority context_bytes messages decisions lines_in text_in step digits
commander_three_ways = refl

-- Two traitors of four generals, the commander and a lieutenant, from the scenario to the chronicle's text. Written by checks/generate, which computes the right sides by a model.
use Rattle.std.specs.Prelude.{pos, ◌≡◌, List, [], ◌∷◌, replicate, codes, None, Some, refl}
use Rattle.std.specs.Fmt.{digits}
use Rattle.word.specs.declared.Width.TheVariants.{W64}
use Rattle.word.specs.declared.Operation.TheVariants as op
use Rattle.insn.specs.declared.insn.Insn.{Insn}
use Rattle.insn.specs.declared.insn.Insn.TheVariants as i
use Rattle.insn.specs.declared.insn.Operand.TheVariants.{Immediate}
use Rattle.combine.specs.Rule.{majority}
use Rattle.combine.specs.declared.campaign_rule.Rule.TheVariants.{Majority}
use Rattle.label.specs.Labels.{labels}
use Rattle.label.specs.Oral.{om}
use Rattle.semantics.specs.Execution.{step}
use Rattle.round.specs.Scenario.{Scenario}
use Rattle.mem.specs.ContextLayout.{context_bytes}
use Rattle.round.specs.Letters.{messages}
use Rattle.world.specs.Chronicle.{decisions}
use Rattle.trace.specs.Text.{lines_in, text_in}
use Rattle.trace.proofs.Printed.{printed, lines}

-- he tells general 0 the order 1, and general 1 the order 0
divider : List Insn
divider =
    i.Arithmetic W64 op.Move 1 (Immediate (pos 0))
    ∷ i.Arithmetic W64 op.Move 2 (Immediate (pos 1))
    ∷ i.Call (pos 8)
    ∷ i.Arithmetic W64 op.Move 1 (Immediate (pos 1))
    ∷ i.Arithmetic W64 op.Move 2 (Immediate (pos 0))
    ∷ i.Call (pos 8)
    ∷ i.Exit
    ∷ []

-- the commander, general 2, and general 3 divide the two others
divided : Scenario
divided = record { generals = 4; bound = 1; commander = 2; order = 5; board = replicate 64 0; programs = None ∷ None ∷ Some divider ∷ Some divider ∷ []; patience = None; rule = Majority }

two_traitors : printed divided ([]) ≡ lines (
    codes "chronicle 1"
    ∷ codes "generals 4 bound 1 commander 2 order 5"
    ∷ codes "round 1"
    ∷ codes "letter 0 loyal"
    ∷ codes "letter 1 loyal"
    ∷ codes "letter 2 steps 7"
    ∷ codes "row 0 1 0 -"
    ∷ codes "letter 3 steps 7"
    ∷ codes "round 2"
    ∷ codes "letter 0 loyal"
    ∷ codes "row 0 1 1"
    ∷ codes "letter 1 loyal"
    ∷ codes "row 0 0 0"
    ∷ codes "letter 2 steps 7"
    ∷ codes "letter 3 steps 7"
    ∷ codes "row 0 1 0"
    ∷ codes "decision 0 1"
    ∷ codes "decision 1 0"
    ∷ codes "decision 3 traitor 0"
    ∷ codes "verdict alike no obeyed - bound no"
    ∷ [])
unfolding divided divider labels om majority context_bytes messages decisions lines_in text_in step digits
two_traitors = refl

-- A traitor who is honest to one general, from the scenario to the chronicle's text. Written by checks/generate, which computes the right sides by a model.
use Rattle.std.specs.Prelude.{pos, ◌≡◌, List, [], ◌∷◌, replicate, codes, None, Some, refl}
use Rattle.std.specs.Fmt.{digits}
use Rattle.word.specs.declared.Width.TheVariants.{W64}
use Rattle.word.specs.declared.Operation.TheVariants as op
use Rattle.insn.specs.declared.insn.Insn.{Insn}
use Rattle.insn.specs.declared.insn.Insn.TheVariants as i
use Rattle.insn.specs.declared.insn.Operand.TheVariants.{Immediate}
use Rattle.combine.specs.Rule.{majority}
use Rattle.combine.specs.declared.campaign_rule.Rule.TheVariants.{Majority}
use Rattle.label.specs.Labels.{labels}
use Rattle.label.specs.Oral.{om}
use Rattle.semantics.specs.Execution.{step}
use Rattle.round.specs.Scenario.{Scenario}
use Rattle.mem.specs.ContextLayout.{context_bytes}
use Rattle.round.specs.Letters.{messages}
use Rattle.world.specs.Chronicle.{decisions}
use Rattle.trace.specs.Text.{lines_in, text_in}
use Rattle.trace.proofs.Printed.{printed, lines}

-- he is honest to general 1, and tells general 2 the order 9
half : List Insn
half =
    i.Arithmetic W64 op.Move 1 (Immediate (pos 1))
    ∷ i.Call (pos 9)
    ∷ i.Arithmetic W64 op.Move 1 (Immediate (pos 0))
    ∷ i.Arithmetic W64 op.Move 2 (Immediate (pos 2))
    ∷ i.Arithmetic W64 op.Move 3 (Immediate (pos 9))
    ∷ i.Call (pos 6)
    ∷ i.Exit
    ∷ []

-- four generals, a traitor who is honest to one
half_honest : Scenario
half_honest = record { generals = 4; bound = 1; commander = 0; order = 6; board = replicate 64 0; programs = None ∷ None ∷ None ∷ Some half ∷ []; patience = None; rule = Majority }

-- what he took stands in his context
honest_to_one : printed half_honest ([]) ≡ lines (
    codes "chronicle 1"
    ∷ codes "generals 4 bound 1 commander 0 order 6"
    ∷ codes "round 1"
    ∷ codes "letter 0 loyal"
    ∷ codes "row 0 6 6 6"
    ∷ codes "letter 1 loyal"
    ∷ codes "letter 2 loyal"
    ∷ codes "letter 3 steps 7"
    ∷ codes "round 2"
    ∷ codes "letter 0 loyal"
    ∷ codes "letter 1 loyal"
    ∷ codes "row 0 6 6"
    ∷ codes "letter 2 loyal"
    ∷ codes "row 0 6 6"
    ∷ codes "letter 3 steps 7"
    ∷ codes "row 0 6 9"
    ∷ codes "decision 1 6"
    ∷ codes "decision 2 6"
    ∷ codes "decision 3 traitor 6"
    ∷ codes "verdict alike yes obeyed yes bound yes"
    ∷ [])
unfolding half_honest half labels om majority context_bytes messages decisions lines_in text_in step digits
honest_to_one = refl

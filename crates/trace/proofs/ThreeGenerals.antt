-- Three generals, one of them a traitor: too few, from the scenario to the chronicle's text. Written by checks/generate, which computes the right sides by a model.
use Rattle.std.specs.Prelude.{pos, ◌≡◌, List, [], ◌∷◌, replicate, codes, None, Some, refl}
use Rattle.std.specs.Fmt.{digits}
use Rattle.word.specs.declared.Width.TheVariants.{W64}
use Rattle.word.specs.declared.Operation.TheVariants as op
use Rattle.insn.specs.declared.insn.Insn.{Insn}
use Rattle.insn.specs.declared.insn.Insn.TheVariants as i
use Rattle.insn.specs.declared.insn.Operand.TheVariants.{Immediate}
use Rattle.combine.specs.Rule.{majority}
use Rattle.combine.specs.declared.campaign_rule.Rule.TheVariants.{Majority}
use Rattle.label.specs.Labels.{labels}
use Rattle.label.specs.Oral.{om}
use Rattle.semantics.specs.Execution.{step}
use Rattle.round.specs.Scenario.{Scenario}
use Rattle.mem.specs.ContextLayout.{context_bytes}
use Rattle.round.specs.Letters.{messages}
use Rattle.world.specs.Chronicle.{decisions}
use Rattle.trace.specs.Text.{lines_in, text_in}
use Rattle.trace.proofs.Printed.{printed, lines}

-- he tells general 1 the order 0
unfoldable pub liar : List Insn
liar =
    i.Arithmetic W64 op.Move 1 (Immediate (pos 1))
    ∷ i.Arithmetic W64 op.Move 2 (Immediate (pos 0))
    ∷ i.Call (pos 8)
    ∷ i.Exit
    ∷ []

-- three generals, one of them a traitor: too few
three : Scenario
three = record { generals = 3; bound = 1; commander = 0; order = 1; board = replicate 64 0; programs = None ∷ None ∷ Some liar ∷ []; patience = None; rule = Majority }

-- the loyal lieutenant does not obey
three_generals : printed three ([]) ≡ lines (
    codes "chronicle 1"
    ∷ codes "generals 3 bound 1 commander 0 order 1"
    ∷ codes "round 1"
    ∷ codes "letter 0 loyal"
    ∷ codes "row 0 1 1"
    ∷ codes "letter 1 loyal"
    ∷ codes "letter 2 steps 4"
    ∷ codes "round 2"
    ∷ codes "letter 0 loyal"
    ∷ codes "letter 1 loyal"
    ∷ codes "row 0 1"
    ∷ codes "letter 2 steps 4"
    ∷ codes "row 0 0"
    ∷ codes "decision 1 0"
    ∷ codes "decision 2 traitor 1"
    ∷ codes "verdict alike yes obeyed no bound no"
    ∷ [])
unfolding three liar labels om majority context_bytes messages decisions lines_in text_in step digits
three_generals = refl

-- he says nothing
mute : List Insn
mute =
    i.Arithmetic W64 op.Move 0 (Immediate (pos 0))
    ∷ i.Exit
    ∷ []

-- three generals, one of them a traitor
three_mute : Scenario
three_mute = record { generals = 3; bound = 1; commander = 0; order = 1; board = replicate 64 0; programs = None ∷ None ∷ Some mute ∷ []; patience = None; rule = Majority }

-- what does not come counts as 0, and stands in the list
three_mute_generals : printed three_mute ([]) ≡ lines (
    codes "chronicle 1"
    ∷ codes "generals 3 bound 1 commander 0 order 1"
    ∷ codes "round 1"
    ∷ codes "letter 0 loyal"
    ∷ codes "row 0 1 1"
    ∷ codes "letter 1 loyal"
    ∷ codes "letter 2 steps 2"
    ∷ codes "round 2"
    ∷ codes "letter 0 loyal"
    ∷ codes "letter 1 loyal"
    ∷ codes "row 0 1"
    ∷ codes "letter 2 steps 2"
    ∷ codes "row 0 -"
    ∷ codes "decision 1 0"
    ∷ codes "decision 2 traitor 1"
    ∷ codes "verdict alike yes obeyed no bound no"
    ∷ [])
unfolding three_mute mute labels om majority context_bytes messages decisions lines_in text_in step digits
three_mute_generals = refl

-- A traitor who makes each kind of access, from the scenario to the chronicle's text. Written by checks/generate, which computes the right sides by a model.
use Rattle.std.specs.Prelude.{pos, negsuc, ◌≡◌, List, [], ◌∷◌, replicate, codes, None, Some, refl}
use Rattle.std.specs.Fmt.{digits}
use Rattle.word.specs.declared.Width.TheVariants.{W64}
use Rattle.word.specs.declared.Operation.TheVariants as op
use Rattle.insn.specs.declared.insn.Insn.{Insn}
use Rattle.insn.specs.declared.insn.Insn.TheVariants as i
use Rattle.insn.specs.declared.insn.Operand.TheVariants.{Register, Immediate}
use Rattle.combine.specs.Rule.{majority}
use Rattle.combine.specs.declared.campaign_rule.Rule.TheVariants.{Majority}
use Rattle.label.specs.Labels.{labels}
use Rattle.label.specs.Oral.{om}
use Rattle.semantics.specs.Execution.{step}
use Rattle.round.specs.Scenario.{Scenario}
use Rattle.mem.specs.ContextLayout.{context_bytes}
use Rattle.round.specs.Letters.{messages}
use Rattle.world.specs.Chronicle.{decisions}
use Rattle.trace.specs.Text.{lines_in, text_in}
use Rattle.trace.proofs.Printed.{printed, lines}

-- he makes an access of each kind
clerk : List Insn
clerk =
    i.Arithmetic W64 op.Move 1 (Immediate (pos 3))
    ∷ i.Arithmetic W64 op.Move 2 (Immediate (pos 8))
    ∷ i.Call (pos 2)
    ∷ i.Arithmetic W64 op.Move 1 (Immediate (pos 3))
    ∷ i.Arithmetic W64 op.Move 2 (Immediate (pos 2))
    ∷ i.Call (pos 3)
    ∷ i.Arithmetic W64 op.Move 1 (Immediate (pos 3))
    ∷ i.Arithmetic W64 op.Move 2 (Immediate (pos 10))
    ∷ i.Arithmetic W64 op.Move 3 (Immediate (pos 11))
    ∷ i.Call (pos 4)
    ∷ i.Arithmetic W64 op.Move 1 (Immediate (pos 3))
    ∷ i.Arithmetic W64 op.Move 2 (Immediate (pos 10))
    ∷ i.Arithmetic W64 op.Move 3 (Immediate (pos 12))
    ∷ i.Call (pos 4)
    ∷ i.Arithmetic W64 op.Move 1 (Immediate (pos 2))
    ∷ i.Arithmetic W64 op.Move 2 (Register 10)
    ∷ i.Arithmetic W64 op.Add 2 (Immediate (negsuc 23))
    ∷ i.Arithmetic W64 op.Move 3 (Immediate (pos 3))
    ∷ i.Call (pos 5)
    ∷ i.Arithmetic W64 op.Move 1 (Immediate (pos 3))
    ∷ i.Call (pos 1)
    ∷ i.Exit
    ∷ []

-- two generals, words on the board
board : Scenario
board = record { generals = 2; bound = 0; commander = 0; order = 7; board = 0 ∷ 0 ∷ 6 ∷ 5 ∷ replicate 60 0; programs = None ∷ Some clerk ∷ []; patience = None; rule = Majority }

-- each kind of access
each_access : printed board ([]) ≡ lines (
    codes "chronicle 1"
    ∷ codes "generals 2 bound 0 commander 0 order 7"
    ∷ codes "round 1"
    ∷ codes "access 1 swap 3 8 = 5"
    ∷ codes "access 1 add 3 2 = 8"
    ∷ codes "access 1 cas 3 10 11 = 10"
    ∷ codes "access 1 cas 3 10 12 = 11"
    ∷ codes "access 1 copy 2 3 = 6 11 0"
    ∷ codes "access 1 get 3 = 11"
    ∷ codes "letter 0 loyal"
    ∷ codes "row 0 7"
    ∷ codes "letter 1 steps 22"
    ∷ codes "decision 1 traitor 7"
    ∷ codes "verdict alike yes obeyed yes bound no"
    ∷ [])
unfolding board clerk labels om majority context_bytes messages decisions lines_in text_in step digits
each_access = refl

-- he copies no word
idler : List Insn
idler =
    i.Arithmetic W64 op.Move 1 (Immediate (pos 5))
    ∷ i.Arithmetic W64 op.Move 2 (Register 10)
    ∷ i.Arithmetic W64 op.Move 3 (Immediate (pos 0))
    ∷ i.Call (pos 5)
    ∷ i.Exit
    ∷ []

idle : Scenario
idle = record { generals = 2; bound = 0; commander = 0; order = 7; board = replicate 64 0; programs = None ∷ Some idler ∷ []; patience = None; rule = Majority }

copies_none : printed idle ([]) ≡ lines (
    codes "chronicle 1"
    ∷ codes "generals 2 bound 0 commander 0 order 7"
    ∷ codes "round 1"
    ∷ codes "access 1 copy 5 0 ="
    ∷ codes "letter 0 loyal"
    ∷ codes "row 0 7"
    ∷ codes "letter 1 steps 5"
    ∷ codes "decision 1 traitor 7"
    ∷ codes "verdict alike yes obeyed yes bound no"
    ∷ [])
unfolding idle idler labels om majority context_bytes messages decisions lines_in text_in step digits
copies_none = refl

-- Loyal generals who are absent from a round, from the scenario to the chronicle's text. Written by checks/generate, which computes the right sides by a model.
use Rattle.std.specs.Prelude.{true, false, ℕ, pos, map, ◌≡◌, List, [], ◌∷◌, ◌++◌, replicate, codes, None, Some, refl}
use Rattle.std.specs.Fmt.{digits}
use Rattle.word.specs.declared.Width.TheVariants.{W64}
use Rattle.word.specs.declared.Operation.TheVariants as op
use Rattle.insn.specs.declared.insn.Insn.{Insn}
use Rattle.insn.specs.declared.insn.Insn.TheVariants as i
use Rattle.insn.specs.declared.insn.Operand.TheVariants.{Immediate}
use Rattle.combine.specs.Rule.{majority}
use Rattle.combine.specs.declared.campaign_rule.Rule.TheVariants.{Majority}
use Rattle.label.specs.Labels.{labels}
use Rattle.label.specs.Oral.{om}
use Rattle.semantics.specs.Execution.{step}
use Rattle.round.specs.Scenario.{Scenario}
use Rattle.mem.specs.ContextLayout.{context_bytes}
use Rattle.round.specs.Letters.{messages}
use Rattle.world.specs.World.{opening, run}
use Rattle.world.specs.declared.event.Event.TheVariants.{Tick, Post, Close}
use Rattle.world.specs.Chronicle.{decisions, chronicle_of}
use Rattle.world.specs.World.{World}
use Rattle.trace.specs.Text.{lines_in, text_in, chronicle_text}
use Rattle.trace.proofs.Printed.{lines}

-- he tells general 1 the order 1, and general 2 the order 0
divider_later : List Insn
divider_later =
    i.Arithmetic W64 op.Move 1 (Immediate (pos 1))
    ∷ i.Arithmetic W64 op.Move 2 (Immediate (pos 1))
    ∷ i.Call (pos 8)
    ∷ i.Arithmetic W64 op.Move 1 (Immediate (pos 2))
    ∷ i.Arithmetic W64 op.Move 2 (Immediate (pos 0))
    ∷ i.Call (pos 8)
    ∷ i.Exit
    ∷ []

-- generals 1 and 2 are absent in round 2, and then 1 and 2 have posted
four_divided : Scenario
four_divided = record { generals = 4; bound = 1; commander = 0; order = 1; board = replicate 64 0; programs = None ∷ None ∷ None ∷ Some divider_later ∷ []; patience = None; rule = Majority }

deciding : World → List ℕ
deciding w = decisions w.scenario (messages w.closed)

absent : map (λ w. deciding w) (run (opening four_divided) (Post 0 ∷ Post 1 ∷ Post 2 ∷ Close ∷ replicate 7 (Tick 3) ++ Close ∷ []) ∷ run (opening four_divided) (Post 0 ∷ Post 1 ∷ Post 2 ∷ Close ∷ replicate 7 (Tick 3) ++ Post 0 ∷ Post 1 ∷ Post 2 ∷ Close ∷ []) ∷ [])
    ≡ (1 ∷ 0 ∷ 0 ∷ []) ∷ (1 ∷ 1 ∷ 1 ∷ []) ∷ []
unfolding deciding four_divided divider_later labels om majority context_bytes messages decisions lines_in text_in step digits
absent = refl

absent_full : map (λ w. w.full) (run (opening four_divided) (Post 0 ∷ Post 1 ∷ Post 2 ∷ Close ∷ replicate 7 (Tick 3) ++ Close ∷ []) ∷ run (opening four_divided) (Post 0 ∷ Post 1 ∷ Post 2 ∷ Close ∷ replicate 7 (Tick 3) ++ Post 0 ∷ Post 1 ∷ Post 2 ∷ Close ∷ []) ∷ [])
    ≡ false ∷ true ∷ []
unfolding four_divided divider_later labels om majority context_bytes messages decisions lines_in text_in step digits
absent_full = refl

-- what the hurried close leaves to tell: no letters of the loyal in round 2, and no agreement
hurried : chronicle_text (chronicle_of (run (opening four_divided) (Post 0 ∷ Post 1 ∷ Post 2 ∷ Close ∷ replicate 7 (Tick 3) ++ Close ∷ []))) ≡ lines (
    codes "chronicle 1"
    ∷ codes "generals 4 bound 1 commander 0 order 1"
    ∷ codes "round 1"
    ∷ codes "letter 0 loyal"
    ∷ codes "row 0 1 1 1"
    ∷ codes "letter 1 loyal"
    ∷ codes "letter 2 loyal"
    ∷ codes "letter 3 steps 0"
    ∷ codes "round 2"
    ∷ codes "letter 3 steps 7"
    ∷ codes "row 0 1 0"
    ∷ codes "decision 1 1"
    ∷ codes "decision 2 0"
    ∷ codes "decision 3 traitor 0"
    ∷ codes "verdict alike no obeyed no bound yes"
    ∷ [])
unfolding four_divided divider_later labels om majority context_bytes messages decisions lines_in text_in step digits
hurried = refl

-- the same made punctual
punctual : chronicle_text (chronicle_of (run (opening four_divided) (Post 0 ∷ Post 1 ∷ Post 2 ∷ Close ∷ replicate 7 (Tick 3) ++ Post 0 ∷ Post 1 ∷ Post 2 ∷ Close ∷ []))) ≡ lines (
    codes "chronicle 1"
    ∷ codes "generals 4 bound 1 commander 0 order 1"
    ∷ codes "round 1"
    ∷ codes "letter 0 loyal"
    ∷ codes "row 0 1 1 1"
    ∷ codes "letter 1 loyal"
    ∷ codes "letter 2 loyal"
    ∷ codes "letter 3 steps 0"
    ∷ codes "round 2"
    ∷ codes "letter 0 loyal"
    ∷ codes "letter 1 loyal"
    ∷ codes "row 0 1 1"
    ∷ codes "letter 2 loyal"
    ∷ codes "row 0 1 1"
    ∷ codes "letter 3 steps 7"
    ∷ codes "row 0 1 0"
    ∷ codes "decision 1 1"
    ∷ codes "decision 2 1"
    ∷ codes "decision 3 traitor 1"
    ∷ codes "verdict alike yes obeyed yes bound yes"
    ∷ [])
unfolding four_divided divider_later labels om majority context_bytes messages decisions lines_in text_in step digits
punctual = refl

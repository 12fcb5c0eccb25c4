-- Four generals, a traitor among the lieutenants, from the scenario to the chronicle's text. Written by checks/generate, which computes the right sides by a model.
use Rattle.std.specs.Prelude.{pos, map, take, ◌≡◌, List, [], ◌∷◌, ◌++◌, replicate, codes, None, Some, refl}
use Rattle.std.specs.Fmt.{digits}
use Rattle.word.specs.declared.Width.TheVariants.{W64}
use Rattle.word.specs.declared.Operation.TheVariants as op
use Rattle.insn.specs.declared.insn.Insn.{Insn}
use Rattle.insn.specs.declared.insn.Insn.TheVariants as i
use Rattle.insn.specs.declared.insn.Operand.TheVariants.{Immediate}
use Rattle.combine.specs.Rule.{majority}
use Rattle.combine.specs.declared.campaign_rule.Rule.TheVariants.{Majority}
use Rattle.label.specs.Labels.{labels}
use Rattle.label.specs.Oral.{om}
use Rattle.semantics.specs.Execution.{step}
use Rattle.round.specs.Scenario.{Scenario}
use Rattle.mem.specs.ContextLayout.{context_bytes}
use Rattle.round.specs.Contexts.{context_of}
use Rattle.round.specs.Letters.{messages}
use Rattle.world.specs.declared.event.EventError.TheVariants.{NotOpen, NoGeneral}
use Rattle.world.specs.World.{opening, run, refusal}
use Rattle.world.specs.declared.event.Event.TheVariants.{Tick, Post, Close}
use Rattle.world.specs.Lists.{listed_rounds, listed}
use Rattle.world.specs.Chronicle.{decisions, chronicle_of}
use Rattle.trace.specs.Text.{lines_in, text_in, chronicle_text}
use Rattle.trace.proofs.Printed.{printed, lines}

-- he tells generals 1 and 2 the order 0
unfoldable pub turncoat : List Insn
turncoat =
    i.Arithmetic W64 op.Move 1 (Immediate (pos 1))
    ∷ i.Arithmetic W64 op.Move 2 (Immediate (pos 0))
    ∷ i.Call (pos 8)
    ∷ i.Arithmetic W64 op.Move 1 (Immediate (pos 2))
    ∷ i.Arithmetic W64 op.Move 2 (Immediate (pos 0))
    ∷ i.Call (pos 8)
    ∷ i.Exit
    ∷ []

-- four generals, a traitor among the lieutenants
four : Scenario
four = record { generals = 4; bound = 1; commander = 0; order = 1; board = replicate 64 0; programs = None ∷ None ∷ None ∷ Some turncoat ∷ []; patience = None; rule = Majority }

-- the loyal lieutenants obey
traitor_lieutenant : printed four ([]) ≡ lines (
    codes "chronicle 1"
    ∷ codes "generals 4 bound 1 commander 0 order 1"
    ∷ codes "round 1"
    ∷ codes "letter 0 loyal"
    ∷ codes "row 0 1 1 1"
    ∷ codes "letter 1 loyal"
    ∷ codes "letter 2 loyal"
    ∷ codes "letter 3 steps 7"
    ∷ codes "round 2"
    ∷ codes "letter 0 loyal"
    ∷ codes "letter 1 loyal"
    ∷ codes "row 0 1 1"
    ∷ codes "letter 2 loyal"
    ∷ codes "row 0 1 1"
    ∷ codes "letter 3 steps 7"
    ∷ codes "row 0 0 0"
    ∷ codes "decision 1 1"
    ∷ codes "decision 2 1"
    ∷ codes "decision 3 traitor 1"
    ∷ codes "verdict alike yes obeyed yes bound yes"
    ∷ [])
unfolding four turncoat labels om majority context_bytes messages decisions lines_in text_in step digits
traitor_lieutenant = refl

-- entries of a schedule past his end and of no general are skipped
skipped_entries : printed four ((replicate 9 3 ++ 3 ∷ 12 ∷ []) ∷ []) ≡ lines (
    codes "chronicle 1"
    ∷ codes "generals 4 bound 1 commander 0 order 1"
    ∷ codes "round 1"
    ∷ codes "letter 0 loyal"
    ∷ codes "row 0 1 1 1"
    ∷ codes "letter 1 loyal"
    ∷ codes "letter 2 loyal"
    ∷ codes "letter 3 steps 7"
    ∷ codes "round 2"
    ∷ codes "letter 0 loyal"
    ∷ codes "letter 1 loyal"
    ∷ codes "row 0 1 1"
    ∷ codes "letter 2 loyal"
    ∷ codes "row 0 1 1"
    ∷ codes "letter 3 steps 7"
    ∷ codes "row 0 0 0"
    ∷ codes "decision 1 1"
    ∷ codes "decision 2 1"
    ∷ codes "decision 3 traitor 1"
    ∷ codes "verdict alike yes obeyed yes bound yes"
    ∷ [])
unfolding four turncoat labels om majority context_bytes messages decisions lines_in text_in step digits
skipped_entries = refl

-- a traitor is cut off before his first step, and behind his fourth
cut_off : chronicle_text (chronicle_of (run (opening four) (Post 0 ∷ Post 1 ∷ Post 2 ∷ Close ∷ Post 0 ∷ Post 1 ∷ Post 2 ∷ replicate 4 (Tick 3) ++ Close ∷ []))) ≡ lines (
    codes "chronicle 1"
    ∷ codes "generals 4 bound 1 commander 0 order 1"
    ∷ codes "round 1"
    ∷ codes "letter 0 loyal"
    ∷ codes "row 0 1 1 1"
    ∷ codes "letter 1 loyal"
    ∷ codes "letter 2 loyal"
    ∷ codes "letter 3 steps 0"
    ∷ codes "round 2"
    ∷ codes "letter 0 loyal"
    ∷ codes "letter 1 loyal"
    ∷ codes "row 0 1 1"
    ∷ codes "letter 2 loyal"
    ∷ codes "row 0 1 1"
    ∷ codes "letter 3 steps 4"
    ∷ codes "row 0 0 -"
    ∷ codes "decision 1 1"
    ∷ codes "decision 2 1"
    ∷ codes "decision 3 traitor 1"
    ∷ codes "verdict alike yes obeyed yes bound yes"
    ∷ [])
unfolding four turncoat labels om majority context_bytes messages decisions lines_in text_in step digits
cut_off = refl

-- what general 2 of the four is told in round 2, in bytes
context_in_round_2 : take 40 (context_of four (run (opening four) (listed_rounds four 1 [])).closed 2) ≡
    4 ∷ 0 ∷ 0 ∷ 0 ∷ 1 ∷ 0 ∷ 0 ∷ 0 ∷ 2 ∷ 0 ∷ 0 ∷ 0 ∷ 0 ∷ 0 ∷ 0 ∷ 0
    ∷ 2 ∷ 0 ∷ 0 ∷ 0 ∷ 1 ∷ 0 ∷ 0 ∷ 0 ∷ 2 ∷ 0 ∷ 0 ∷ 0 ∷ 0 ∷ 0 ∷ 0 ∷ 0
    ∷ 1 ∷ 0 ∷ 0 ∷ 0 ∷ 0 ∷ 0 ∷ 0 ∷ 0 ∷ []
unfolding four turncoat labels context_bytes messages step
context_in_round_2 = refl

-- a tick of a loyal general, a post of a traitor and of nobody, and any event behind the last round are refused
refused_events :
    map (refusal (opening four)) (Tick 0 ∷ Post 3 ∷ Post 12 ∷ Tick 3 ∷ Post 0 ∷ Close ∷ []) ≡ Some NoGeneral ∷ Some NoGeneral ∷ Some NoGeneral ∷ None ∷ None ∷ None ∷ []
unfolding four turncoat labels context_bytes messages
refused_events = refl

refused_behind : map (refusal (run (opening four) (listed four []))) (Tick 3 ∷ Post 0 ∷ Close ∷ []) ≡ Some NotOpen ∷ Some NotOpen ∷ Some NotOpen ∷ []
unfolding four turncoat labels context_bytes messages step
refused_behind = refl

-- a second post and a tick of an ended activation are not refused
idle_events : map (refusal (run (opening four) (Post 0 ∷ replicate 7 (Tick 3)))) (Post 0 ∷ Tick 3 ∷ []) ≡ None ∷ None ∷ []
unfolding four turncoat labels context_bytes messages step
idle_events = refl

-- the commander's context, and one of a general who relays nothing
contexts : map (take 40) (context_of four [] 0 ∷ context_of four [] 2 ∷ context_of four (run (opening four) (listed_rounds four 1 [])).closed 0 ∷ []) ≡
    (4 ∷ 0 ∷ 0 ∷ 0 ∷ 1 ∷ 0 ∷ 0 ∷ 0 ∷ 0 ∷ 0 ∷ 0 ∷ 0 ∷ 0 ∷ 0 ∷ 0 ∷ 0 ∷ 1 ∷ 0 ∷ 0 ∷ 0 ∷ 1 ∷ 0 ∷ 0 ∷ 0 ∷ 3 ∷ 0 ∷ 0 ∷ 0 ∷ 0 ∷ 0 ∷ 0 ∷ 0 ∷ 1 ∷ 0 ∷ 0 ∷ 0 ∷ 0 ∷ 0 ∷ 0 ∷ 0 ∷ [])
    ∷ (4 ∷ 0 ∷ 0 ∷ 0 ∷ 1 ∷ 0 ∷ 0 ∷ 0 ∷ 2 ∷ 0 ∷ 0 ∷ 0 ∷ 0 ∷ 0 ∷ 0 ∷ 0 ∷ 1 ∷ 0 ∷ 0 ∷ 0 ∷ 0 ∷ 0 ∷ 0 ∷ 0 ∷ 3 ∷ 0 ∷ 0 ∷ 0 ∷ 0 ∷ 0 ∷ 0 ∷ 0 ∷ 0 ∷ 0 ∷ 0 ∷ 0 ∷ 0 ∷ 0 ∷ 0 ∷ 0 ∷ [])
    ∷ (4 ∷ 0 ∷ 0 ∷ 0 ∷ 1 ∷ 0 ∷ 0 ∷ 0 ∷ 0 ∷ 0 ∷ 0 ∷ 0 ∷ 0 ∷ 0 ∷ 0 ∷ 0 ∷ 2 ∷ 0 ∷ 0 ∷ 0 ∷ 0 ∷ 0 ∷ 0 ∷ 0 ∷ 2 ∷ 0 ∷ 0 ∷ 0 ∷ 0 ∷ 0 ∷ 0 ∷ 0 ∷ 0 ∷ 0 ∷ 0 ∷ 0 ∷ 0 ∷ 0 ∷ 0 ∷ 0 ∷ [])
    ∷ []
unfolding four turncoat labels context_bytes messages step
contexts = refl

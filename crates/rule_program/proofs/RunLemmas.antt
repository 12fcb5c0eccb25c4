-- The run of a rule program ends at its exit, which determines the order.
use Rattle.std.proofs.Common.{◌≡◌, ℕ, ◌+◌, ◌-◌, ◌<◌, ◌≤◌, Bool, true, false, cond, List, [], length, refl, sym, ap, subst, ◌∙◌, arith}
use Rattle.std.specs.Prelude.{◌==◌}
use Rattle.std.specs.Int.{from_bool}
use Rattle.insn.specs.declared.insn.Insn.{Insn}
use Rattle.semantics.specs.Relay.{Relay}
use Rattle.semantics.specs.declared.request.Request.{Request}
use Rattle.semantics.specs.State.{State, entry}
use Rattle.semantics.specs.Outbox.{empty_outbox}
use Rattle.semantics.specs.Run.{Progress, Running, Waiting, Exited, Trapped, IsFinal, after}
use Rattle.semantics.proofs.RunLaws.{stays}
use Rattle.machine.specs.Standing.{Standing, before}
use Rattle.machine.specs.Advance.{Exits, Requests}
use Rattle.rule_program.specs.Calls.{IsRuleProgram}
use Rattle.rule_program.specs.Evaluation.{rule_context, rule_relay, run_in, ExitsWith, order_from, evaluated}
use Rattle.rule_program.proofs.CallLemmas.{no_request}

-- Proves that a rule program makes no request.
pub never_asked : (program : List Insn) (context : List ℕ) (relay : Relay) (answers : List (List ℕ)) (limit : ℕ) (s : State) (request : Request) (t : Standing) → IsRuleProgram program → Requests program context relay answers limit s request t → ⊥
never_asked program context relay answers limit s request t rule r = no_request program context relay (before t.state) t.state request rule.callless r.asks

-- Proves that a run that has exited within as many steps as the program has instructions is the whole run.
pub exits_with : (program : List Insn) (context : List ℕ) (relay : Relay) (limit r0 : ℕ) (s : State) (t : Standing) → Exits program context relay [] limit s r0 t → t.state.steps ≤ length program → relay ≡ rule_relay → ExitsWith program context r0
exits_with program context relay limit r0 s t e within same =
    let taken : ℕ = t.state.steps in
    let left : ℕ = length program - taken in
    let run : after program context rule_relay [] taken ≡ Exited r0 t.state = subst (λ (own : Relay). after program context own [] taken ≡ Exited r0 t.state) same e.run in
    let over : IsFinal (after program context rule_relay [] taken) = subst (λ (p : Progress). IsFinal p) (sym run) tt in
    let rest : length program ≡ taken + left = omega arith in (
      t.state,
      ap (λ (k : ℕ). after program context rule_relay [] k) rest ∙ (stays program context rule_relay taken left [] (entry (empty_outbox rule_relay)) over ∙ run),
    )

from_bool-cond : (b : Bool) → from_bool b ≡ cond b 1 0
from_bool-cond true = refl
from_bool-cond false = refl

-- Proves that the number in r0 determines the order.
pub evaluated_by : (program : List Insn) (orders context : List ℕ) (r0 order : ℕ) → context ≡ rule_context orders → ExitsWith program context r0 → order ≡ from_bool (r0 == 1) → order ≡ evaluated program orders
unfolding evaluated
evaluated_by program orders context r0 order same (s, run) is =
    is ∙ (from_bool-cond (r0 == 1) ∙ sym (ap (λ (c : List ℕ). order_from (run_in program c)) (sym same) ∙ ap order_from run))

-- Proves that a choice between 1 and 0 is below 2.
pub choice-below : (b : Bool) → cond {A = ℕ} b 1 0 < 2
choice-below true = omega arith
choice-below false = omega arith

order_from-below : (p : Progress) → order_from p < 2
order_from-below (Running s) = omega arith
order_from-below (Waiting request s) = omega arith
order_from-below (Exited r0 s) = choice-below (r0 == 1)
order_from-below (Trapped cause) = omega arith

-- Proves that a program combines every list to 0 or 1.
pub evaluated-below : (program : List Insn) (orders : List ℕ) → evaluated program orders < 2
unfolding evaluated
evaluated-below program orders = order_from-below (run_in program (rule_context orders))

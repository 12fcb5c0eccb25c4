-- Safe states, step by step.
use Rattle.std.proofs.Common.{ℕ, suc, List}
use Rattle.insn.specs.declared.insn.Insn.{Insn}
use Rattle.semantics.specs.Relay.{Relay}
use Rattle.semantics.specs.State.{State, Outcome, Next, Ask, Exit, Trap}
use Rattle.semantics.specs.Execution.{step}
use Rattle.semantics.specs.Run.{IsSound}
use Rattle.semantics.specs.Safety.{LeadsTo, IsSafe}
use Rattle.semantics.proofs.SafetyLaws.{sound_of_safe}
use Rattle.verify.proofs.Safe.{StartsSafe}

-- If P implies Q for each next state, it does so for the outcome.
pub leads_weaker : (P Q : State → Type 0) (o : Outcome) → ((t : State) → P t → Q t) → LeadsTo P o → LeadsTo Q o
leads_weaker P Q (Next t) w h = w t h
leads_weaker P Q (Ask request t) w h = λ answer f. w _ (h answer f)
leads_weaker P Q (Exit r0 t) w h = tt
leads_weaker P Q (Trap cause) w h = h

-- A state is safe if each next state is, for one step fewer.
pub IsSafe-step : (program : List Insn) (context : List ℕ) (relay : Relay) (n : ℕ) (s : State) → LeadsTo (λ t. IsSafe program context relay n t) (step program context relay s) →
    IsSafe program context relay (suc n) s
unfolding IsSafe
IsSafe-step program context relay n s leads = leads

-- A program whose entry state is safe is sound.
pub sound_of_start : (program : List Insn) → StartsSafe program → IsSound program
sound_of_start program starts = sound_of_safe program starts.safe

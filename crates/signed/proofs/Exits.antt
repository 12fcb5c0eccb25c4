-- An exit does not change the entries.
use Rattle.std.proofs.Common.{◌≡◌, ℕ, List, refl, subst}
use Rattle.insn.specs.declared.insn.Insn.{Insn}
use Rattle.semantics.specs.Relay.{Relay}
use Rattle.semantics.specs.State.{State, Outcome, Next, Ask, Exit, Trap}
use Rattle.semantics.specs.Execution.{step}
use Rattle.semantics.proofs.Walk.{changed_walk, called_walk, step_walk}

abbrev AtExit : State → Outcome → Type 0
AtExit s (Next t) = Unit {0}
AtExit s (Ask request t) = Unit {0}
AtExit s (Exit r0 t) = t.entries ≡ s.entries
AtExit s (Trap cause) = Unit {0}

step_exit : (program : List Insn) (context : List ℕ) (relay : Relay) (s : State) → AtExit s (step program context relay s)
step_exit program context relay s =
    step_walk program context relay s (AtExit s)
    (record {
      trapped = λ cause. tt;
      set = λ dst unit value other. tt;
      moved = λ unit. tt;
      exits = λ n. refl;
      stores = λ size base offset value. changed_walk s (AtExit s) (λ cause. tt) (λ cells. tt) _;
    })
    (called_walk context relay s (AtExit s) (record {
      trapped = λ cause. tt;
      asks = λ request. tt;
      puts = λ r0 choice. tt;
      enters = λ r0 entry. tt;
    }))

pub exit_same : (program : List Insn) (context : List ℕ) (relay : Relay) (s t : State) (r0 : ℕ) → step program context relay s ≡ Exit r0 t → t.entries ≡ s.entries
exit_same program context relay s t r0 e = subst (λ (o : Outcome). AtExit s o) e (step_exit program context relay s)

-- What is true of all steps and runs. For each statement, a function of this crate has it as its contract.
use Rattle.std.specs.Prelude.{ℕ, ◌+◌, ◌-◌, ◌<◌, ◌≡◌, ◌≤◌, true, List, [], length}
use Rattle.std.specs.List.{AllByRecursion}
use Rattle.insn.specs.declared.insn.Insn.{Insn}
use Rattle.insn.specs.Insn.{IsInsn}
use Rattle.label.specs.declared.shape.Shape.{Shape}
use Rattle.semantics.specs.Relay.{IsContext, IsRelay, Relay, oral, signed}
use Rattle.semantics.specs.declared.request.Request.{Request}
use Rattle.semantics.specs.State.{State, entry}
use Rattle.semantics.specs.Outbox.{empty_outbox}
use Rattle.semantics.specs.Entries.{is_sendable, most_entries}
use Rattle.semantics.specs.Call.{resumed}
use Rattle.semantics.specs.Execution.{step}
use Rattle.semantics.specs.Run.{Running, IsFinal, IsSound, onwards, after}
use Rattle.semantics.specs.Safety.{IsSafe}
use Rattle.semantics.specs.Reached.{Reached}
use Rattle.semantics.specs.Whole.{IsWhole, HasWords, Each, CountsOnce}

-- States that each step that does not trap adds one to the number of steps.
abbrev pub StepsAreCounted : Type 0
StepsAreCounted =
    (program : List Insn) (context : List ℕ) (relay : Relay) (s : State) → CountsOnce s (step program context relay s)

-- States that every reached state is whole: it has eleven registers, 512 stack cells, and r10 at the end of the stack.
-- If the instructions are well-formed and the run is one of a campaign, its numbers have at most 64 bits, and its bytes
-- at most 8.
pub record StatesStayWhole : Type 0 where
  pub at_entry : (relay : Relay) → IsWhole (entry (empty_outbox relay))
  pub stepped : (program : List Insn) (context : List ℕ) (relay : Relay) (s : State) → IsWhole s →
      Each IsWhole (step program context relay s)
  pub answered : (request : Request) (words : List ℕ) (s : State) → IsWhole s → IsWhole (resumed request words s)
  pub reached : (program : List Insn) (context : List ℕ) (relay : Relay) (answers : List (List ℕ)) (s : State) →
      Reached program context relay answers s → IsWhole s
  pub words : (program : List Insn) (context : List ℕ) (relay : Relay) (answers : List (List ℕ)) (s : State) →
      AllByRecursion IsInsn program → IsContext context → IsRelay relay →
      Reached program context relay answers s → HasWords s

-- States that a run that has exited, trapped or waits for an answer does not change with further steps.
abbrev pub RunsStayOver : Type 0
RunsStayOver =
    (program : List Insn) (context : List ℕ) (relay : Relay) (k j : ℕ) (answers : List (List ℕ)) (s : State) →
    IsFinal (onwards program context relay k answers s) →
    onwards program context relay (k + j) answers s ≡ onwards program context relay k answers s

-- States that a state that a run reaches is the result of running the program for the state's number of steps, with the
-- same answers.
abbrev pub ReachedIsRun : Type 0
ReachedIsRun = (program : List Insn) (context : List ℕ) (relay : Relay) (answers : List (List ℕ)) (s : State) →
    Reached program context relay answers s → after program context relay answers s.steps ≡ Running s

-- States that a program is sound exactly if its entry state is safe: from there it never traps, and it exits within as
-- many steps as it has instructions.
pub record SoundIsSafeAtEntry : Type 0 where
  pub sound : (program : List Insn) →
      ((context : List ℕ) (relay : Relay) → IsContext context → IsRelay relay →
      IsSafe program context relay (length program) (entry (empty_outbox relay))) →
      IsSound program
  pub safe : (program : List Insn) (context : List ℕ) (relay : Relay) → IsSound program → IsContext context →
      IsRelay relay →
      IsSafe program context relay (length program) (entry (empty_outbox relay))

-- States that every state that a sound program reaches is safe for the remaining steps, and that it has taken fewer
-- steps than the program has instructions.
pub record ReachedIsSafe : Type 0 where
  pub safe : (program : List Insn) (context : List ℕ) (relay : Relay) (answers : List (List ℕ)) (s : State) →
      IsSound program → IsContext context → IsRelay relay →
      Reached program context relay answers s → IsSafe program context relay (length program - s.steps) s
  pub fewer : (program : List Insn) (context : List ℕ) (relay : Relay) (answers : List (List ℕ)) (s : State) →
      IsSound program → IsContext context → IsRelay relay →
      Reached program context relay answers s → s.steps < length program

-- States that every reached state has at most 8 entries, and that the general may make each of them. With oral messages
-- there are no entries, and with signatures the outbox has no orders.
pub record EntriesAreFew : Type 0 where
  pub few : (program : List Insn) (context : List ℕ) (relay : Relay) (answers : List (List ℕ)) (s : State) →
      Reached program context relay answers s → length s.entries ≤ most_entries
  pub sendable : (program : List Insn) (context : List ℕ) (relay : Relay) (answers : List (List ℕ)) (s : State) →
      Reached program context relay answers s → AllByRecursion (λ entry. is_sendable relay entry ≡ true) s.entries
  pub spoken : (program : List Insn) (context : List ℕ) (shape : Shape) (answers : List (List ℕ)) (s : State) →
      Reached program context (oral shape) answers s → s.entries ≡ []
  pub written : (program : List Insn) (context : List ℕ) (shape : Shape) (held : List ℕ) (answers : List (List ℕ))
      (s : State) →
      Reached program context (signed shape held) answers s → s.outbox ≡ []

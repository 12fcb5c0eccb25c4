-- The order to which a rule program combines a list of orders (own).
use Rattle.std.specs.Prelude.{ℕ, ◌≡◌, ◌==◌, if◌then◌else◌, List, [], ◌∷◌, length}
use Rattle.insn.specs.declared.insn.Insn.{Insn}
use Rattle.mem.specs.ContextLayout.{context_bytes}
use Rattle.semantics.specs.Relay.{Relay, oral}
use Rattle.semantics.specs.State.{State}
use Rattle.semantics.specs.Run.{Progress, Exited, after}

-- Returns the context in which a rule program combines a list of orders. Like the context of a traitor it begins with
-- eight numbers, but all except the sixth, the length of the list, are 0. Then come the orders.
abbrev pub rule_context : List ℕ → List ℕ
rule_context orders = context_bytes (0 ∷ 0 ∷ 0 ∷ 0 ∷ 0 ∷ length orders ∷ 0 ∷ 0 ∷ orders)

-- The relay with which a rule program runs. It has no labels, because a program without calls sends nothing.
abbrev pub rule_relay : Relay
rule_relay = oral (record { generals = 1; commander = 0; general = 0; round = 2 })

-- Returns the run of a program in a context, up to as many steps as it has instructions.
abbrev pub run_in : List Insn → List ℕ → Progress
run_in program context = after program context rule_relay [] (length program)

-- States that a program exits in this context with this number in r0.
abbrev pub ExitsWith : List Insn → List ℕ → ℕ → Type 0
ExitsWith program context r0 = (s : State) × (run_in program context ≡ Exited r0 s)

-- Returns the order that a run results in: 1 if the program exits with 1 in r0, and otherwise RETREAT, which is 0.
abbrev pub order_from : Progress → ℕ
order_from (Exited r0 s) = if r0 == 1 then 1 else 0
order_from _ = 0

-- Returns the order, 0 or 1, to which a program combines a list of orders.
unfoldable pub evaluated : List Insn → List ℕ → ℕ
evaluated program orders = order_from (run_in program (rule_context orders))

-- Programs whose entry state is safe (own).
use Rattle.std.specs.Prelude.{ℕ, List, length}
use Rattle.insn.specs.declared.insn.Insn.{Insn}
use Rattle.semantics.specs.Relay.{IsRelay, Relay}
use Rattle.semantics.specs.State.{entry}
use Rattle.semantics.specs.Outbox.{empty_outbox}
use Rattle.semantics.specs.Run.{IsContext}
use Rattle.semantics.specs.Safety.{IsSafe}

-- The program is safe in every context and for every relay, within as many steps as it has instructions.
pub record StartsSafe (program : List Insn) : Type 0 where
  pub safe : (context : List ℕ) (relay : Relay) → IsContext context → IsRelay relay → IsSafe program context relay (length program) (entry (empty_outbox relay))

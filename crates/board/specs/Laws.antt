-- Laws of the board. Each is the contract of a function of this crate.
use Rattle.std.specs.Prelude.{ℕ, ◌≡◌, true, List}
use Rattle.insn.specs.declared.insn.Insn.{Insn}
use Rattle.semantics.specs.Relay.{Relay}
use Rattle.semantics.specs.declared.request.Request.{Request}
use Rattle.semantics.specs.State.{State, Ask}
use Rattle.semantics.specs.Call.{fits}
use Rattle.semantics.specs.Execution.{step}
use Rattle.board.specs.Board.{IsBoard, reply, next}

-- States that the board's reply to any request of a program has the number of words that the request asks for. After
-- that, its words are again a board.
pub record BoardsServe : Type 0 where
  pub answers : (words : List ℕ) (program : List Insn) (context : List ℕ) (relay : Relay) (s asked : State)
      (request : Request) → IsBoard words →
      step program context relay s ≡ Ask request asked → fits request (reply words request) ≡ true
  pub stays : (words : List ℕ) (program : List Insn) (context : List ℕ) (relay : Relay) (s asked : State)
      (request : Request) → IsBoard words →
      step program context relay s ≡ Ask request asked → IsBoard (next words request)

-- What it means that an activation has run for some steps, and what holds for every letter (own).
use Rattle.std.specs.Prelude.{ℕ, zero, suc, ◌≡◌, ◌≤◌, true, List, [], ◌∷◌, Option, None, Some}
use Rattle.insn.specs.declared.insn.Insn.{Insn}
use Rattle.semantics.specs.Relay.{IsContext, Oral}
use Rattle.semantics.specs.Call.{fits}
use Rattle.board.specs.Board.{Access}
use Rattle.round.specs.Letters.{Letter}
use Rattle.round.specs.Contexts.{IsToldTo, shape_told, rows_told, tells_oral}
use Rattle.round.specs.Activation.{Activation, started, Turn, Goes, Asks, Ended, turn}

-- States that an activation goes on by this turn, and that `Rest` holds for the activation after it and the accesses
-- that remain. If the turn is a request, the first access must have the same request, its reply is used, and it is
-- removed. With the accesses `x` and `y`, for example, `x` must have the turn's request, and `Rest` holds with `y`
-- only.
abbrev pub Onward : (Activation → List Access → Activation → Type 0) → Turn → List Access → Activation → Type 0
Onward Rest (Goes a) transcript end = Rest a transcript end
Onward Rest (Asks request answered) [] end = ⊥
Onward Rest (Asks request answered) (x ∷ transcript) end =
    (x.request ≡ request) × Rest (answered x.reply) transcript end
Onward Rest Ended transcript end = ⊥

-- States that an activation gets from one state to another in exactly `k` steps, in which exactly these accesses are
-- made.
abbrev pub Runs : ℕ → Activation → List Access → Activation → Type 0
Runs zero a transcript end = (transcript ≡ []) × (a ≡ end)
Runs (suc k) a transcript end = Onward (Runs k) (turn a) transcript end

-- States that each reply has as many words as its request asks for, and that each word has 64 bits.
abbrev pub AreFitting : List Access → Type 0
AreFitting [] = Unit {0}
AreFitting (x ∷ transcript) = (fits x.request x.reply ≡ true) × AreFitting transcript

-- States that the number of steps is within the patience.
abbrev pub IsWithin : Option ℕ → ℕ → Type 0
IsWithin None steps = Unit {0}
IsWithin (Some patience) steps = steps ≤ patience

-- States that the letter is of a run of this program, or of a loyal general if there is none. A loyal general makes no
-- accesses, and sends each receiver the order in his context. If the context says that orders are oral, he signs
-- nothing. A traitor's outbox is what his program produced from this context in this number of steps, with the accesses
-- of this transcript, whose replies fit.
abbrev pub IsRunOf : Letter → Option (List Insn) → Type 0
IsRunOf l None =
    (l.transcript ≡ []) × (l.steps ≡ 0) × (l.outbox.rows ≡ rows_told l.outbox.relay l.context) × (l.exited ≡ true)
    × (tells_oral l.context → l.outbox.entries ≡ [])
IsRunOf l (Some program) =
    AreFitting l.transcript × (end : Activation)
    × Runs l.steps (started None program l.context l.outbox.relay) l.transcript end
    × (l.outbox.rows ≡ end.state.outbox) × (l.exited ≡ end.over) × (l.outbox.entries ≡ end.state.entries)

-- States what holds for every letter: its context names its general and its round, and its outbox results from a run.
-- The run may be unfinished, and may have taken more steps than the patience allows.
pub record IsLetter (l : Letter) : Type 0 where
  pub context : IsContext l.context
  pub own : IsToldTo l.general l.round l.context
  pub shape : l.outbox.relay.shape ≡ shape_told l.general l.round l.context
  pub kind : tells_oral l.context → l.outbox.relay.kind ≡ Oral
  pub run : IsRunOf l l.program

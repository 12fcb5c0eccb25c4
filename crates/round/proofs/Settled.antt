-- What a run does not change: program, context, relay and patience.
use Rattle.std.proofs.Common.{◌≡◌, ℕ, zero, suc, List, [], ◌∷◌, Bool, true, false, cond, refl, sym, ap, ◌∙◌, Option}
use Rattle.insn.specs.declared.insn.Insn.{Insn}
use Rattle.semantics.specs.Relay.{Relay}
use Rattle.semantics.specs.State.{Outcome, Next, Ask, Exit, Trap}
use Rattle.semantics.specs.Execution.{step}
use Rattle.board.specs.Board.{Access}
use Rattle.round.specs.Activation.{Activation, started, Turn, Goes, Asks, Ended, turned, turn, has_ended}
use Rattle.round.specs.Runs.{Onward, Runs}

pub record IsSettled (a b : Activation) : Type 0 where
  pub program : b.program ≡ a.program
  pub context : b.context ≡ a.context
  pub relay : b.relay ≡ a.relay
  pub patience : b.patience ≡ a.patience

then_settled : (a b c : Activation) → IsSettled a b → IsSettled b c → IsSettled a c
then_settled a b c h k = record { program = k.program ∙ h.program; context = k.context ∙ h.context; relay = k.relay ∙ h.relay; patience = k.patience ∙ h.patience }

abbrev Settles : Activation → Turn → Type 0
Settles a (Goes b) = IsSettled a b
Settles a (Asks q f) = (r : List ℕ) → IsSettled a (f r)
Settles a Ended = Unit {0}

turned_settles : (a : Activation) (o : Outcome) → Settles a (turned a o)
turned_settles a (Next s) = record { program = refl; context = refl; relay = refl; patience = refl }
turned_settles a (Ask q s) = λ r. record { program = refl; context = refl; relay = refl; patience = refl }
turned_settles a (Exit r0 s) = record { program = refl; context = refl; relay = refl; patience = refl }
turned_settles a (Trap cause) = record { program = refl; context = refl; relay = refl; patience = refl }

turn_settles : (a : Activation) → Settles a (turn a)
turn_settles a = by (has_ended a)
  where
    by : (b : Bool) → Settles a (cond b Ended (turned a (step a.program a.context a.relay a.state)))
    by true = tt
    by false = turned_settles a (step a.program a.context a.relay a.state)

settled_by : (a : Activation) (o : Turn) (k : ℕ) (t : List Access) (end : Activation) → ((b : Activation) (t' : List Access) → Runs k b t' end → IsSettled b end) → Settles a o → Onward (Runs k) o t end → IsSettled a end
settled_by a (Goes b) k t end again here h = then_settled a b end here (again b t h)
settled_by a (Asks q f) k [] end again here h = absurd h
settled_by a (Asks q f) k (x ∷ t) end again here h = then_settled a (f x.reply) end (here x.reply) (again (f x.reply) t h.1)
settled_by a Ended k t end again here h = absurd h

pub runs_settled : (k : ℕ) (a : Activation) (t : List Access) (end : Activation) → Runs k a t end → IsSettled a end
runs_settled zero a t end h = record {
  program = ap (λ (b : Activation). b.program) (sym h.1);
  context = ap (λ (b : Activation). b.context) (sym h.1);
  relay = ap (λ (b : Activation). b.relay) (sym h.1);
  patience = ap (λ (b : Activation). b.patience) (sym h.1);
}
runs_settled (suc k) a t end h = settled_by a (turn a) k t end (λ b t' r. runs_settled k b t' end r) (turn_settles a) h

-- A run from a start is one from the start that its end describes.
pub start_told : (p : Option ℕ) (program : List Insn) (context : List ℕ) (relay : Relay) (k : ℕ) (t : List Access) (end : Activation) → Runs k (started p program context relay) t end
    → started end.patience end.program end.context end.relay ≡ started p program context relay
start_told p program context relay k t end h =
    let same = runs_settled k (started p program context relay) t end h in
    (λ i. started (same.patience i) (same.program i) (same.context i) (same.relay i))

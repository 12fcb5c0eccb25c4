-- A program's entries can be sent, and are at most eight.
use Rattle.std.proofs.Common.{◌≡◌, ℕ, zero, suc, ◌≤◌, Bool, true, false, cond, List, [], ◌∷◌, ◌++◌, length, refl, sym, ap, subst, ◌∙◌, Option, arith}
use Rattle.std.specs.Prelude.{◌||◌}
use Rattle.std.specs.List.{AllByRecursion}
use Rattle.insn.specs.declared.insn.Insn.{Insn}
use Rattle.semantics.specs.declared.entry.Entry.{Entry as Entered}
use Rattle.semantics.specs.Call.{fits, resumed}
use Rattle.semantics.specs.Relay.{Relay}
use Rattle.semantics.specs.State.{Outcome, Next, Ask, Exit, Trap}
use Rattle.semantics.specs.Execution.{step}
use Rattle.semantics.specs.Safety.{LeadsTo}
use Rattle.semantics.specs.Entries.{is_sendable}
use Rattle.semantics.specs.Reached.{Reached, at_entry, stepped, answered}
use Rattle.semantics.proofs.EntriesLaws.{few_entries}
use Rattle.semantics.proofs.SafetyLaws.{IsSafe-no_trap}
use Rattle.board.specs.Board.{Access}
use Rattle.round.specs.Activation.{Activation, started, Turn, Goes, Asks, Ended, turn, turned, has_ended}
use Rattle.round.specs.Runs.{Onward, Runs, AreFitting}
use Rattle.round.proofs.Going.{IsGoing, TurnsTo, turn_safe, going_zero, over_ended}
use Rattle.signed.proofs.Exits.{exit_same}

-- States that there are at most eight entries, each of a chain that can be sent.
pub record AreSendable (a : Activation) : Type 0 where
  pub few : length a.state.entries ≤ 8
  pub each : AllByRecursion (λ e. is_sendable a.relay e ≡ true) a.state.entries

-- States that an activation is reached by a run until it has exited.
pub record IsKept (a : Activation) : Type 0 where
  pub answers : List (List ℕ)
  pub reached : a.over ≡ false → Reached a.program a.context a.relay answers a.state
  pub sendable : AreSendable a

abbrev KeptBy : Turn → Type 0
KeptBy (Goes b) = IsKept b
KeptBy (Asks q f) = (r : List ℕ) → fits q r ≡ true → IsKept (f r)
KeptBy Ended = Unit {0}

not_over : (over reached : Bool) → (over || reached) ≡ false → over ≡ false
not_over true reached e = e
not_over false reached e = refl

turned_kept : (a : Activation) (o : Outcome) → step a.program a.context a.relay a.state ≡ o → a.over ≡ false → LeadsTo (λ next. Unit {0}) o → IsKept a → KeptBy (turned a o)
turned_kept a (Next s) e on safe k =
    let there = stepped s (k.reached on) e in
    record {
      answers = k.answers;
      reached = λ over. there;
      sendable = record { few = few_entries.few a.program a.context a.relay k.answers s there; each = few_entries.sendable a.program a.context a.relay k.answers s there };
    }
turned_kept a (Ask q s) e on safe k = λ r fit.
    let there = answered q s r (k.reached on) e fit in
    record {
      answers = k.answers ++ r ∷ [];
      reached = λ over. there;
      sendable = record { few = few_entries.few a.program a.context a.relay (k.answers ++ r ∷ []) (resumed q r s) there; each = few_entries.sendable a.program a.context a.relay (k.answers ++ r ∷ []) (resumed q r s) there };
    }
turned_kept a (Exit r0 s) e on safe k =
    let same = exit_same a.program a.context a.relay a.state s r0 e in
    record {
      answers = k.answers;
      reached = λ over. absurd (let f : true ≡ false = over in cc);
      sendable = record { few = (let l = k.sendable.few in let n = ap length same in omega arith); each = subst (λ (es : List Entered). AllByRecursion (λ x. is_sendable a.relay x ≡ true) es) (sym same) k.sendable.each };
    }
turned_kept a (Trap cause) e on safe k = absurd safe

turn_kept : (n : ℕ) (a : Activation) → IsGoing n a → IsKept a → KeptBy (turn a)
turn_kept n a going k = by (has_ended a) refl
  where
    by : (b : Bool) → has_ended a ≡ b → KeptBy (cond b Ended (turned a (step a.program a.context a.relay a.state)))
    by true e = tt
    by false e = turned_kept a (step a.program a.context a.relay a.state) refl (not_over a.over _ e) (IsSafe-no_trap a.program a.context a.relay n a.state (going e)) k

kept_by : (n k : ℕ) (o : Turn) (t : List Access) (a end : Activation) → TurnsTo n a o → KeptBy o → ((b : Activation) (t' : List Access) → AreFitting t' → IsGoing n b → IsKept b → Runs k b t' end → IsKept end)
    → AreFitting t → Onward (Runs k) o t end → IsKept end
kept_by n k (Goes b) t a end after kept again fit h = again b t fit after.going kept h
kept_by n k (Asks q f) [] a end after kept again fit h = absurd h
kept_by n k (Asks q f) (x ∷ t) a end after kept again fit h =
    let here : fits q x.reply ≡ true = ap (λ r. fits r x.reply) (sym h.0) ∙ fit.0 in
    again (f x.reply) t fit.1 (after x.reply here).going (kept x.reply here) h.1
kept_by n k Ended t a end after kept again fit h = absurd h

-- So is every end of a run of a sound program.
pub runs_kept : (n k : ℕ) (a : Activation) (t : List Access) (end : Activation) → AreFitting t → IsGoing n a → IsKept a → Runs k a t end → IsKept end
runs_kept n zero a t end fit going kept h = (let A : Activation → Type 0 = λ b. IsKept b in subst A h.1 kept)
runs_kept zero (suc k) a t end fit going kept h = absurd (let A : Turn → Type 0 = λ o. Onward (Runs k) o t end in subst A (over_ended a (going_zero a going)) h)
runs_kept (suc n) (suc k) a t end fit going kept h =
    kept_by n k (turn a) t a end (turn_safe n a going) (turn_kept (suc n) a going kept) (λ b t' fit' going' kept' h'. runs_kept n k b t' end fit' going' kept' h') fit h

pub start_kept : (patience : Option ℕ) (program : List Insn) (context : List ℕ) (relay : Relay) → IsKept (started patience program context relay)
start_kept patience program context relay = record { answers = []; reached = λ over. at_entry; sendable = record { few = omega arith; each = tt } }

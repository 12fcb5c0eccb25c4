-- The turns of an activation of a sound program: it neither traps nor takes more steps than the program has
-- instructions.
use Rattle.std.proofs.Common.{◌≡◌, ℕ, suc, ◌+◌, List, Bool, true, false, cond, refl, subst, ◌∙◌}
use Rattle.semantics.specs.declared.request.Request.{Request}
use Rattle.semantics.specs.State.{Outcome, Next, Ask, Exit, Trap}
use Rattle.semantics.specs.Call.{fits}
use Rattle.semantics.specs.Execution.{step}
use Rattle.semantics.specs.Safety.{LeadsTo, IsSafe}
use Rattle.semantics.specs.Whole.{CountsOnce}
use Rattle.semantics.proofs.StepLaws.{step_counts, resumed_counts}
use Rattle.round.specs.Activation.{Activation, Turn, Goes, Asks, Ended, turned, turn, has_ended}
use Rattle.board.specs.Requests.{IsRequest}
use Rattle.board.proofs.Asking.{asks_within}

-- States that the activation has ended or is safe for `n` further steps.
abbrev pub IsGoing : ℕ → Activation → Type 0
IsGoing n a = has_ended a ≡ false → IsSafe a.program a.context a.relay n a.state

-- States that `b` is `a` after one turn: with the same program, context and relay, one more step, and safe for `n`
-- further steps.
pub record IsAfter (n : ℕ) (a b : Activation) : Type 0 where
  pub program : b.program ≡ a.program
  pub context : b.context ≡ a.context
  pub relay : b.relay ≡ a.relay
  pub steps : b.state.steps ≡ a.state.steps + 1
  pub going : IsGoing n b

abbrev pub TurnsTo : ℕ → Activation → Turn → Type 0
TurnsTo n a (Goes b) = IsAfter n a b
TurnsTo n a (Asks q f) = (r : List ℕ) → fits q r ≡ true → IsAfter n a (f r)
TurnsTo n a Ended = Unit {0}

turned_safe : (n : ℕ) (a : Activation) (o : Outcome) → has_ended a ≡ false → CountsOnce a.state o → LeadsTo (λ next. IsSafe a.program a.context a.relay n next) o → TurnsTo n a (turned a o)
turned_safe n a (Next s) on counts safe = record { program = refl; context = refl; relay = refl; steps = counts; going = λ e. safe }
turned_safe n a (Ask q s) on counts safe = λ r fit. record { program = refl; context = refl; relay = refl; steps = resumed_counts q r s ∙ counts; going = λ e. safe r fit }
turned_safe n a (Exit r0 s) on counts safe = record { program = refl; context = refl; relay = refl; steps = counts; going = λ e. absurd (let f : true ≡ false = e in cc) }
turned_safe n a (Trap cause) on counts safe = absurd safe

leads : (n : ℕ) (a : Activation) → IsSafe a.program a.context a.relay (suc n) a.state → LeadsTo (λ next. IsSafe a.program a.context a.relay n next) (step a.program a.context a.relay a.state)
unfolding IsSafe
leads n a h = h

-- An activation that is safe for one more step.
pub turn_safe : (n : ℕ) (a : Activation) → IsGoing (suc n) a → TurnsTo n a (turn a)
turn_safe n a going = by (has_ended a) refl
  where
    by : (b : Bool) → has_ended a ≡ b → TurnsTo n a (cond b Ended (turned a (step a.program a.context a.relay a.state)))
    by true e = tt
    by false e = turned_safe n a (step a.program a.context a.relay a.state) e (step_counts a.program a.context a.relay a.state) (leads n a (going e))

-- An activation without steps left has ended.
pub going_zero : (a : Activation) → IsGoing 0 a → has_ended a ≡ true
unfolding IsSafe
going_zero a going = by (has_ended a) refl
  where
    by : (b : Bool) → has_ended a ≡ b → b ≡ true
    by true e = refl
    by false e = absurd (going e)

-- An activation that has ended takes no turn, and one that takes no turn has ended.
pub over_ended : (a : Activation) → has_ended a ≡ true → turn a ≡ Ended
over_ended a e = rw e refl

not_ended : (a : Activation) (o : Outcome) → turned a o ≡ Ended → ⊥
not_ended a (Next s) e = (let f : Goes (record a { state = s }) ≡ Ended = e in cc)
not_ended a (Ask q s) e = (let f : Asks q _ ≡ Ended = e in cc)
not_ended a (Exit r0 s) e = (let f : Goes (record a { state = s; over = true }) ≡ Ended = e in cc)
not_ended a (Trap cause) e = (let f : Goes _ ≡ Ended = e in cc)

pub ended_over : (a : Activation) → turn a ≡ Ended → has_ended a ≡ true
ended_over a e = by (has_ended a) e
  where
    by : (b : Bool) → cond b Ended (turned a (step a.program a.context a.relay a.state)) ≡ Ended → b ≡ true
    by true h = refl
    by false h = absurd (not_ended a (step a.program a.context a.relay a.state) h)

-- The words that a request names are within the board.
turned_within : (a : Activation) (o : Outcome) → step a.program a.context a.relay a.state ≡ o → (q : Request) (f : List ℕ → Activation) → turned a o ≡ Asks q f → IsRequest q
turned_within a (Next s) is q f e = absurd (let g : Goes (record a { state = s }) ≡ Asks q f = e in cc)
turned_within a (Ask r s) is q f e =
    let same : r ≡ q = (let g : Asks r _ ≡ Asks q f = e in cc) in
    (let A : Request → Type 0 = λ x. IsRequest x in subst A same (asks_within a.program a.context a.relay a.state s r is))
turned_within a (Exit r0 s) is q f e = absurd (let g : Goes (record a { state = s; over = true }) ≡ Asks q f = e in cc)
turned_within a (Trap cause) is q f e = absurd (let g : Goes _ ≡ Asks q f = e in cc)

pub turn_within : (a : Activation) (q : Request) (f : List ℕ → Activation) → turn a ≡ Asks q f → IsRequest q
turn_within a q f e = by (has_ended a) e
  where
    by : (b : Bool) → cond b Ended (turned a (step a.program a.context a.relay a.state)) ≡ Asks q f → IsRequest q
    by true h = absurd (let g : Ended ≡ Asks q f = h in cc)
    by false h = turned_within a (step a.program a.context a.relay a.state) refl q f h

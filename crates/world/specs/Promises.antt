-- What the functions that play a campaign promise: of its decisions and its verdict (TOPLAS 1982, Theorem 1, IC1 and
-- IC2), and of its activations, accesses and letters.
use Rattle.std.specs.Prelude.{ℕ, ◌≡◌, ◌≢◌, ◌≤◌, ◌↔◌, true, false, List, [], ◌++◌, length, slice_get, None, Some}
use Rattle.label.specs.Oral.{IsBound}
use Rattle.label.specs.Lieutenants.{AgreeInList}
use Rattle.semantics.specs.Execution.{step}
use Rattle.semantics.specs.State.{Cause, Trap}
use Rattle.board.specs.Board.{Access, IsLegal}
use Rattle.round.specs.Activation.{Activation, has_ended}
use Rattle.round.specs.Letters.{Letter}
use Rattle.round.specs.Scenario.{Scenario, is_traitor}
use Rattle.world.specs.declared.event.Event.{Event}
use Rattle.world.specs.declared.verdict.Verdict.{Verdict}
use Rattle.world.specs.Agreement.{AreAlike, AreObedient, AreTolerable}
use Rattle.world.specs.Kind.{Kind, opening, run}
use Rattle.world.specs.KindAccounted.{AreAccounted}
use Rattle.world.specs.Part.{Acting}

-- States that, if the traitors are few enough, all loyal lieutenants decide on the same order, and on the commander's
-- order if he is loyal. At most m traitors among more than 3m generals are few enough (`BoundSuffices`).
abbrev pub AgreeIfTolerable : Scenario → List ℕ → Type 0
AgreeIfTolerable s ds =
    AreTolerable s → AgreeInList s.generals s.commander s.order (is_traitor s) ds

-- States that the verdict is right: it says whether the bound holds, whether all loyal lieutenants decide on the same
-- order, and whether they obey a loyal commander. `obeyed` is `None` exactly if the commander is a traitor.
pub record IsVerdictOn (s : Scenario) (ds : List ℕ) (v : Verdict) : Type 0 where
  pub bound : (v.bound ≡ true) ↔ IsBound s.generals s.bound (is_traitor s)
  pub alike : (v.alike ≡ true) ↔ AreAlike s ds
  pub obeyed : is_traitor s s.commander ≡ false → (v.obeyed ≡ Some true) ↔ AreObedient s ds
  pub none : (v.obeyed ≡ None) ↔ (is_traitor s s.commander ≡ true)

-- States that, if a verdict says that the bound holds, it also says that the lieutenants decide alike, and does not say
-- that they disobey.
abbrev pub IsWellUnderBound : Verdict → Type 0
IsWellUnderBound v = v.bound ≡ true → (v.alike ≡ true) × (v.obeyed ≢ Some false)

-- States that an activation will not trap in its next step, and has taken at most as many steps as its program has
-- instructions.
pub record IsSafe (a : Activation) : Type 0 where
  pub untrapped : (cause : Cause) → has_ended a ≡ false → step a.program a.context a.relay a.state ≢ Trap cause
  pub fewer : a.state.steps ≤ length a.program

-- States that every activation is safe in every world through which these events lead.
abbrev pub AreSafeThroughout : Kind → Scenario → List Event → Type 0
AreSafeThroughout K s events = (before after : List Event) (g : ℕ) (a : Activation) → before ++ after ≡ events →
    slice_get (run K (opening K s) before).parts g ≡ Some (Acting a) → IsSafe a

-- States that the accesses are a legal ledger of the board, and that each letter is complete. A traitor's letter is the
-- run of his program to its end, with his accesses. A loyal general's letter sends what he must send.
pub record AreWhole (K : Kind) (s : Scenario) (accesses : List Access) (letters : List (List Letter)) : Type 0 where
  pub legal : IsLegal s.board accesses
  pub accounted : AreAccounted K s [] accesses letters

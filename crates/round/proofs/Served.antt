-- The accesses that were served to a running activation.
use Rattle.std.proofs.Common.{◌≡◌, ℕ, List, [], ◌∷◌, ◌++◌, true, refl, sym, ap, subst, ◌∙◌, Option, Some, None, Result, Ok, Err, append_assoc, append-nil}
use Rattle.std.specs.Prelude.{OnErr}
use Rattle.std.specs.Option.{option_to_list}
use Rattle.semantics.specs.Call.{fits}
use Rattle.board.specs.Board.{Access}
use Rattle.round.specs.Activation.{Activation, turn}
use Rattle.round.specs.Running.{TakesTurn, IsSameRun, Silently, IsOnWay, IsWayServed}
use Rattle.round.proofs.Onwards.{on_silently, on_served, way_begins}

module _ (general round : ℕ) (start : Activation) (before : List Access) where
  -- Nothing was served.
  pub served_silently : (a mid b : Activation) (t old new : List Access) (o : Option Access) → o ≡ None → IsWayServed general round start a before t old → TakesTurn (turn a) o mid → IsSameRun a mid → new ≡ old ++ option_to_list o →
      Silently mid b → IsSameRun mid b → IsWayServed general round start b before t new
  served_silently a mid b t old new o none h turn_is same entered went further = record {
    way = on_silently general round start a mid b t h.way (subst (λ (x : Option Access). TakesTurn (turn a) x mid) none turn_is) same went further;
    whole = subst (λ (x : Option Access). new ≡ old ++ option_to_list x) none entered ∙ (append-nil old ∙ h.whole);
  }

  -- One access was served.
  pub served_more : (a mid b : Activation) (t t' old new : List Access) (o : Option Access) (x : Access) → o ≡ Some x → IsWayServed general round start a before t old → TakesTurn (turn a) o mid → (x.general ≡ general) × (x.round ≡ round) → fits x.request x.reply ≡ true →
      IsSameRun a mid → new ≡ old ++ option_to_list o → Silently mid b → IsSameRun mid b → t' ≡ t ++ x ∷ [] → IsWayServed general round start b before t' new
  served_more a mid b t t' old new o x some h turn_is own fit same entered went further more = record {
    way = subst (λ (l : List Access). IsOnWay general round start b l) (sym more)
        (on_served general round start a mid b t x h.way (subst (λ (y : Option Access). TakesTurn (turn a) y mid) some turn_is) own fit same went further);
    whole = subst (λ (y : Option Access). new ≡ old ++ option_to_list y) some entered ∙ (ap (λ (l : List Access). l ++ x ∷ []) h.whole ∙ (append_assoc before t (x ∷ []) ∙ ap (λ (l : List Access). before ++ l) (sym more)));
  }

  -- The run is stopped after an access that could not be recorded.
  pub given_up_behind : (a mid : Activation) (t old new : List Access) (o : Option Access) (x : Access) → o ≡ Some x → IsWayServed general round start a before t old → TakesTurn (turn a) o mid → (x.general ≡ general) × (x.round ≡ round) → fits x.request x.reply ≡ true →
      IsSameRun a mid → new ≡ old ++ option_to_list o → (b : Activation) × (made : List Access) × IsWayServed general round start b before made new
  given_up_behind a mid t old new o x some h turn_is own fit same entered =
      (mid, t ++ x ∷ [], served_more a mid mid t (t ++ x ∷ []) old new o x some h turn_is own fit same entered (0, (refl, refl)) (record { program = refl; context = refl; relay = refl; patience = refl }) refl)

-- Before the first turn nothing was served.
pub served_first : (general round : ℕ) (a : Activation) (t before : List Access) → t ≡ [] → IsWayServed general round a a before t before
served_first general round a t before none = record {
  way = way_begins general round a t none;
  whole = sym (append-nil before) ∙ ap (λ (l : List Access). before ++ l) (sym none);
}

-- What holds in any case also holds after an error.
pub any_error : {A E : Type 0} (result : Result A E) (P : Type 0) → P → OnErr result P
any_error (Ok x) P h = tt
any_error (Err x) P h = h

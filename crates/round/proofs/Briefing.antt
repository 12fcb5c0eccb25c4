-- The context of an activation that has not taken a step may be replaced.
use Rattle.std.proofs.Common.{◌≡◌, List, [], ℕ, false, ap, sym, subst, ◌∙◌}
use Rattle.semantics.specs.Outbox.{empty_outbox}
use Rattle.semantics.specs.Reached.{Reached, at_entry}
use Rattle.semantics.specs.Relay.{IsContext}
use Rattle.semantics.specs.State.{State, entry}
use Rattle.round.specs.Activation.{Activation, started}
use Rattle.round.specs.Running.{IsLive}

pub briefed : (a old : Activation) (context : List ℕ) → a ≡ old → old ≡ started old.patience old.program old.context old.relay → record a { context = context } ≡ started old.patience old.program context old.relay
briefed a old context same start = ap (λ (x : Activation). record x { context = context }) (same ∙ start)

pub briefed_live : (a old : Activation) (context : List ℕ) → IsLive a → a ≡ old → old ≡ started old.patience old.program old.context old.relay → IsContext context → IsLive (record a { context = context })
briefed_live a old context live same start is =
    let over : a.over ≡ false = ap (λ (x : Activation). x.over) (same ∙ start) in
    let state : a.state ≡ entry (empty_outbox a.relay) = ap (λ (x : Activation). x.state) (same ∙ start) ∙ ap (λ (x : Activation). entry (empty_outbox x.relay)) (sym same) in
    record {
      context = is;
      of_run = λ _. record {
        in_context = is;
        in_limits = (live.of_run over).in_limits;
        answers = [];
        reached = subst (λ (s : State). Reached a.program context a.relay [] s) (sym state) at_entry;
      };
      within = live.within;
    }

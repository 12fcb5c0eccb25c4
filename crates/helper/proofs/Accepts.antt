-- A call traps for the first argument that is not accepted. If all are, it traps only for the memory at a pointer. Both
-- follow from the table.
use Rattle.std.proofs.Common.{ℕ, ◌≡◌, List, ap, sym, ◌∙◌}
use Rattle.std.specs.Prelude.{Result, Ok, Err, Option, Some, None}
use Rattle.semantics.specs.Relay.{Relay}
use Rattle.semantics.specs.declared.request.Helper.{Helper}
use Rattle.semantics.specs.declared.request.Helper.TheVariants.{BoardCopy, SendRow}
use Rattle.semantics.specs.declared.request.Request.{Request}
use Rattle.semantics.specs.State.{Cause, State, Outcome, Next, Ask, Exit, Trap}
use Rattle.semantics.specs.Outbox.{Choice}
use Rattle.semantics.specs.Call.{called, asked, sent}
use Rattle.helper.specs.Table.{or_else, arguments_of, HasWindow, TestsThese, AcceptsThese}
use Rattle.helper.specs.Windows.{refused_together, trap_of}
use Rattle.helper.proofs.Traps.{calls_trap}

pub asked_trap : (s : State) (r : Result Request Cause) (cause : Cause) → asked s r ≡ Trap cause → r ≡ Err cause
asked_trap s (Ok request) cause e = cc
asked_trap s (Err other) cause e = let same : other ≡ cause = cc in ap Err same

pub sent_trap : (relay : Relay) (s : State) (r0 : ℕ → ℕ) (r : Result Choice Cause) (cause : Cause) → sent relay s r0 r ≡ Trap cause → r ≡ Err cause
sent_trap relay s r0 (Ok choice) cause e = cc
sent_trap relay s r0 (Err other) cause e = let same : other ≡ cause = cc in ap Err same

trapped_for : (o : Outcome) (cause : Cause) → trap_of o ≡ Some cause → o ≡ Trap cause
trapped_for (Next s) cause e = cc
trapped_for (Ask request s) cause e = cc
trapped_for (Exit r0 s) cause e = cc
trapped_for (Trap other) cause e = let same : other ≡ cause = cc in ap Trap same

pub calls_test : (h : Helper) → TestsThese h (arguments_of h)
calls_test h context relay s cause e =
    trapped_for (called context relay s (Some h)) cause (calls_trap h context relay s ∙ ap (λ (o : Option Cause). or_else o (refused_together (arguments_of h) context s)) e)

none_is_some : (cause : Cause) → None ≡ Some cause → ⊥
none_is_some cause e = cc

-- Three arguments are rejected together only if one is a pointer.
together : (h : Helper) (context : List ℕ) (s : State) (cause : Cause) → refused_together (arguments_of h) context s ≡ Some cause → HasWindow h
together BoardCopy context s cause e = tt
together SendRow context s cause e = tt
together h context s cause e = none_is_some cause e

pub calls_accept : (h : Helper) → AcceptsThese h (arguments_of h)
calls_accept h context relay s cause e q =
    together h context s cause
    (ap (λ (o : Option Cause). or_else o (refused_together (arguments_of h) context s)) (sym e) ∙ sym (calls_trap h context relay s) ∙ ap trap_of q)

-- The laws of signed worlds follow.
use Rattle.std.proofs.Common.{◌≡◌, ℕ, suc, ◌<◌, true, false, List, length, refl, sym, ap, subst, ◌∙◌, Option, None, Some, arith}
use Rattle.std.specs.Prelude.{is_some}
use Rattle.insn.specs.declared.insn.Insn.{Insn}
use Rattle.round.specs.Scenario.{Scenario, IsScenario, program_of, is_traitor}
use Rattle.world.specs.declared.event.Event.{Event}
use Rattle.world.specs.Kind.{opening}
use Rattle.world.specs.Agreement.{IsFinished}
use Rattle.world.proofs.Kept.{Tells}
use Rattle.world.proofs.Rounds.{opening_kept, run_kept}
use Rattle.world.proofs.Punctual.{punctual_full, run_scenario}
use Rattle.signed.specs.Agreement.{IsSignedBound, SignedAgree}
use Rattle.signed.specs.Sent.{delivered, sent_in}
use Rattle.signed.specs.Kind.{signed_kind, played, accepted_in}
use Rattle.signed.specs.Laws.{ChainsAreUnforged, ChainsAreFew, SignedWorldsAgree, HeldChainsAreFew}
use Rattle.signed.proofs.Along.{sent_length}
use Rattle.signed.proofs.Agreeing.{holds}
use Rattle.signed.proofs.Fewness.{accepted_first, accepted_few, sent_few}
use Rattle.signed.proofs.Finishing.{loyal_in}
use Rattle.signed.proofs.Forging.{all_signed, sent_unforged}
use Rattle.signed.proofs.Holding.{held_few, context_few}
use Rattle.signed.proofs.Worlds.{full_in, played_made}

none_of : (o : Option (List Insn)) → is_some o ≡ false → o ≡ None
none_of None e = refl
none_of (Some p) e = cc

pub same_scenario : (s : Scenario) (events : List Event) → (played s events).scenario ≡ s
same_scenario s events = run_scenario signed_kind events (opening signed_kind s)

-- If every loyal general has posted in each closed round, the loyal generals' letters are all there.
pub told_in : (s : Scenario) (events : List Event) → IsScenario s → (played s events).full ≡ true → (g : ℕ) → g < s.generals → is_traitor s g ≡ false → Tells signed_kind s (played s events).closed g
told_in s events is full g gn loyal =
    let w = played s events in
    let k = run_kept signed_kind events (opening signed_kind s) (opening_kept signed_kind s is.board) in
    let A : Scenario → Type 0 = λ t. g < t.generals → program_of t g ≡ None → Tells signed_kind t w.closed g in
    subst A (same_scenario s events) (k.told full g) gn (none_of (program_of s g) loyal)

pub agree_in : (s : Scenario) (events : List Event) → IsScenario s → IsSignedBound s.generals s.bound (is_traitor s) → IsFinished (played s events)
    → SignedAgree s.generals s.commander s.order (is_traitor s) (accepted_in s (played s events).closed)
agree_in s events is bound f =
    let closed = (played s events).closed in
    let sent = sent_in s closed in
    let long : length closed ≡ suc s.bound = f.closed ∙ ap (λ (t : Scenario). suc t.bound) (same_scenario s events) in
    holds s.generals s.commander s.bound s.order (is_traitor s) (delivered sent) is.commander bound
    (λ g gn bad. all_signed s sent (played_made s events is) g gn)
    (λ g gn loyal. loyal_in s sent (full_in s closed (told_in s events is f.full)) (sent_length s closed ∙ long) g gn loyal)

pub worlds_agree : SignedWorldsAgree
worlds_agree = record {
  full = λ s events p. punctual_full signed_kind s events p;
  agree = agree_in;
  punctual = λ s events is bound p long. agree_in s events is bound (record {
    closed = long ∙ ap (λ (t : Scenario). suc t.bound) (sym (same_scenario s events));
    full = punctual_full signed_kind s events p;
  });
}

pub unforged_in : ChainsAreUnforged
unforged_in s events r g ch is there = sent_unforged s (sent_in s (played s events).closed) (played_made s events is) r g ch is.commander there

pub few_in : ChainsAreFew
few_in = record {
  first = λ s events p v is pn h. accepted_first s (sent_in s (played s events).closed) (played_made s events is) (suc s.bound) p v pn h;
  orders = λ s events p is pn. accepted_few s (sent_in s (played s events).closed) (played_made s events is) (suc s.bound) p pn;
  few = λ s events r g is. sent_few s (sent_in s (played s events).closed) (played_made s events is) r g;
}

pub held_few_in : HeldChainsAreFew
held_few_in = record {
  held = λ s events g is gn le.
      let closed = (played s events).closed in
      held_few s (sent_in s closed) (played_made s events is) is.few is.rounds (let e = sent_length s closed in omega arith) g gn;
  context = λ s events g round is gn le.
      let closed = (played s events).closed in
      context_few s (sent_in s closed) round (played_made s events is) is.few is.rounds (let e = sent_length s closed in omega arith) g gn;
}

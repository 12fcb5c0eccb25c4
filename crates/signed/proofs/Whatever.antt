-- What holds in signed campaigns whatever letters their traitors write.
use Rattle.std.proofs.Common.{◌≡◌, ℕ, suc, ◌<◌, false, List, [], length, ap, ◌∙◌, arith}
use Rattle.round.specs.Scenario.{Scenario, is_traitor}
use Rattle.round.specs.Letters.{Letter, letter_of}
use Rattle.round.proofs.Lists.{some_at}
use Rattle.world.proofs.Kept.{Tells}
use Rattle.signed.specs.Sent.{delivered, sent_in}
use Rattle.signed.specs.Kind.{signed_kind, accepted_in}
use Rattle.signed.specs.Agreement.{IsSignedBound, SignedAgree}
use Rattle.signed.specs.Chronicle.{signed_decisions}
use Rattle.signed.specs.Traitors.{AreAnyLetters, HaveLoyalLetters, WhateverTraitorsWrite}
use Rattle.signed.proofs.Along.{sent_length}
use Rattle.signed.proofs.Agreeing.{holds}
use Rattle.signed.proofs.Fewness.{accepted_first, accepted_few, sent_few}
use Rattle.signed.proofs.Finishing.{loyal_in}
use Rattle.signed.proofs.Forging.{all_signed, sent_unforged}
use Rattle.signed.proofs.Holding.{held_few, context_few}
use Rattle.signed.proofs.Places.{get_or_at}
use Rattle.signed.proofs.Verdicts.{bound_is, decisions_agree, all_well}
use Rattle.signed.proofs.Worlds.{full_in, made_in, played_any}

-- If no loyal general's letter is missing, each is there in every round.
loyal_told : (s : Scenario) (closed : List (List Letter)) → HaveLoyalLetters s closed → (g : ℕ) → g < s.generals → is_traitor s g ≡ false → Tells signed_kind s closed g
loyal_told s closed have g lt loyal k le =
    let at = some_at closed k le in
    ap (λ (row : List Letter). letter_of row g) (get_or_at closed k at.0 [] at.1) ∙ have k g at.0 at.1 lt loyal

agreed : (s : Scenario) (closed : List (List Letter)) → s.commander < s.generals → IsSignedBound s.generals s.bound (is_traitor s) → AreAnyLetters s closed → HaveLoyalLetters s closed
    → length closed ≡ suc s.bound → SignedAgree s.generals s.commander s.order (is_traitor s) (accepted_in s closed)
agreed s closed inside bound all have long =
    let sent = sent_in s closed in
    holds s.generals s.commander s.bound s.order (is_traitor s) (delivered sent) inside bound
    (λ g gn bad. all_signed s sent (made_in s closed all) g gn)
    (λ g gn loyal. loyal_in s sent (full_in s closed (loyal_told s closed have)) (sent_length s closed ∙ long) g gn loyal)

pub proved_whatever : WhateverTraitorsWrite
proved_whatever = record {
  written = played_any;
  unforged = λ s closed r g ch inside all there. sent_unforged s (sent_in s closed) (made_in s closed all) r g ch inside there;
  first = λ s closed p v all lt h. accepted_first s (sent_in s closed) (made_in s closed all) (suc s.bound) p v lt h;
  orders = λ s closed p all lt. accepted_few s (sent_in s closed) (made_in s closed all) (suc s.bound) p lt;
  few = λ s closed r g all. sent_few s (sent_in s closed) (made_in s closed all) r g;
  held = λ s closed g small rounds all lt le.
      held_few s (sent_in s closed) (made_in s closed all) small rounds (let e = sent_length s closed in omega arith) g lt;
  context = λ s closed g round small rounds all lt le.
      context_few s (sent_in s closed) round (made_in s closed all) small rounds (let e = sent_length s closed in omega arith) g lt;
  agree = agreed;
  decided = λ s closed inside bound all have long. decisions_agree s closed (agreed s closed inside bound all have long);
  kept = λ s closed inside enough all have long b.
      all_well s closed (decisions_agree s closed
      (agreed s closed inside (record { enough = enough; few = (bound_is s (signed_decisions s closed)).0 b }) all have long));
}

-- A signed context names its general and the round, describes his relay, and says that orders are signed.
use Rattle.std.proofs.Common.{◌≡◌, ℕ, suc, ◌<◌, ◌≤◌, List, length, refl, sym, arith}
use Rattle.round.specs.Scenario.{Scenario, IsScenario, shape_of}
use Rattle.round.specs.Letters.{Letter}
use Rattle.round.specs.Contexts.{IsToldTo, shape_told, number_told, at_kind, tells_oral}
use Rattle.mem.proofs.ContextNumbers.{number_at}
use Rattle.world.specs.Campaigns.{TellRelays}
use Rattle.signed.specs.Contexts.{signed_context_numbers}
use Rattle.signed.specs.Kind.{signed_kind, signed_context, held_in}

abbrev numbers : Scenario → List (List Letter) → ℕ → List ℕ
numbers s closed g = signed_context_numbers s.generals s.bound s.commander g (suc (length closed)) (held_in s closed g)

own_told : (s : Scenario) (closed : List (List Letter)) (g : ℕ) → IsScenario s → g < s.generals → length closed ≤ s.bound → IsToldTo g (suc (length closed)) (signed_context s closed g)
own_told s closed g is lt le =
    let few = is.few in
    let rounds = is.rounds in
    (number_at (numbers s closed g) 2 8 g refl (omega arith) refl (omega arith), number_at (numbers s closed g) 4 16 (suc (length closed)) refl (omega arith) refl (omega arith))

shape_is_told : (s : Scenario) (closed : List (List Letter)) (g round : ℕ) → IsScenario s → shape_told g round (signed_context s closed g) ≡ shape_of s g round
shape_is_told s closed g round is =
    let few = is.few in
    let inside = is.commander in
    let generals = number_at (numbers s closed g) 0 0 s.generals refl (omega arith) refl (omega arith) in
    let commander = number_at (numbers s closed g) 3 12 s.commander refl (omega arith) refl (omega arith) in
    (λ i. record { generals = generals i; commander = commander i; general = g; round = round })

-- The context says that orders are signed.
pub signed_is_told : (s : Scenario) (closed : List (List Letter)) (g : ℕ) → number_told (signed_context s closed g) at_kind ≡ 1
signed_is_told s closed g = number_at (numbers s closed g) 7 28 1 refl (omega arith) refl (omega arith)

pub not_oral : (s : Scenario) (closed : List (List Letter)) (g : ℕ) → tells_oral (signed_context s closed g) → ⊥
not_oral s closed g spoken = omega (arith, signed_is_told s closed g)

pub signed_relays : TellRelays signed_kind
signed_relays s is = record {
  own = λ closed g lt le. own_told s closed g is lt le;
  shape = λ closed g lt le. sym (shape_is_told s closed g (suc (length closed)) is);
  kind = λ closed g lt le spoken. absurd (not_oral s closed g spoken);
}

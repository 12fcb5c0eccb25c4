-- A loyal general's letter follows from his context.
use Rattle.std.proofs.Common.{◌≡◌, ℕ, suc, ◌+◌, ◌<◌, ◌≤◌, List, [], ◌∷◌, length, map, refl, ap, ◌∙◌, Some, arith}
use Rattle.std.specs.Prelude.{slice_get}
use Rattle.std.specs.List.{enumerate_from}
use Rattle.label.specs.declared.shape.Shape.{Shape}
use Rattle.semantics.specs.Relay.{oral}
use Rattle.label.specs.Relay.{relay, receivers}
use Rattle.semantics.specs.Outbox.{taken_value}
use Rattle.semantics.proofs.PlacesLaws.{row_from}
use Rattle.outbox.specs.Contents.{Contents}
use Rattle.round.specs.Scenario.{Scenario, IsScenario, shape_of}
use Rattle.round.specs.Letters.{Letter, telling}
use Rattle.round.specs.Contexts.{AreWords, took, context_numbers, context_of, IsToldTo, shape_told, tells_oral, outbox_told, letter_told, faithful_letter}
use Rattle.round.specs.Laws.{ContextsTell, LoyalLettersFollow}
use Rattle.mem.proofs.ContextNumbers.{number_at}
use Rattle.round.proofs.Telling.{value_is_told}

-- The context has the campaign's numbers.
pub shape_is_told : (s : Scenario) (before : List (List Letter)) (g round : ℕ) → IsScenario s → shape_told g round (context_of s before g) ≡ shape_of s g round
shape_is_told s before g round is =
    let shape = shape_of s g (suc (length before)) in
    let numbers : List ℕ = context_numbers shape s.bound (map (took s before g) (relay shape)) in
    let few = is.few in
    let inside = is.commander in
    let generals = number_at numbers 0 0 s.generals refl (omega arith) refl (omega arith) in
    let commander = number_at numbers 3 12 s.commander refl (omega arith) refl (omega arith) in
    (λ i. record { generals = generals i; commander = commander i; general = g; round = round })

-- The context has the general's own number and the round.
pub own_is_told : (s : Scenario) (before : List (List Letter)) (g : ℕ) → IsScenario s → g < s.generals → length before ≤ s.bound → IsToldTo g (suc (length before)) (context_of s before g)
own_is_told s before g is inside le =
    let shape = shape_of s g (suc (length before)) in
    let numbers : List ℕ = context_numbers shape s.bound (map (took s before g) (relay shape)) in
    let few = is.few in
    let rounds = is.rounds in
    (number_at numbers 2 8 g refl (omega arith) refl (omega arith), number_at numbers 4 16 (suc (length before)) refl (omega arith) refl (omega arith))

-- The context says that orders are oral.
pub oral_is_told : (s : Scenario) (before : List (List Letter)) (g : ℕ) → IsScenario s → tells_oral (context_of s before g)
oral_is_told s before g is =
    let shape = shape_of s g (suc (length before)) in
    let numbers : List ℕ = context_numbers shape s.bound (map (took s before g) (relay shape)) in
    number_at numbers 7 28 0 refl (omega arith) refl (omega arith)

pub proved_contexts_tell : ContextsTell
proved_contexts_tell = record {
  own = own_is_told;
  shape = λ s before g is inside le. shape_is_told s before g (suc (length before)) is;
  spoken = oral_is_told;
  values = value_is_told;
}

-- A row of numbers has for each place the value of its label.
number_row : (F : ℕ → ℕ) (v k b : ℕ) (ns : List ℕ) → F k ≡ v → map (λ place. Some (F place.rank)) (row_from k b ns) ≡ map (λ p. Some v) ns
number_row F v k b [] e = refl
number_row F v k b (n ∷ ns) e = (λ i. Some (e i) ∷ number_row F v k (b + 1) ns e i)

number_rows : (shape : Shape) (F : ℕ → ℕ) (G : List ℕ → ℕ) (a : ℕ) (ws : List (List ℕ)) → ((i : ℕ) (u : List ℕ) → slice_get ws i ≡ Some u → F (a + i) ≡ G u) →
    map (λ row. map (λ place. Some (F place.rank)) row) (map (λ label. row_from label.0 0 (receivers shape label.1)) (enumerate_from a ws)) ≡ map (λ u. map (λ p. Some (G u)) (receivers shape u)) ws
number_rows shape F G a [] h = refl
number_rows shape F G a (w ∷ ws) h =
    (λ i. number_row F (G w) a 0 (receivers shape w) (let z : a ≡ a + 0 = omega arith in ap F z ∙ h 0 w refl) i
    ∷ number_rows shape F G (a + 1) ws (λ j u e. (let z : a + 1 + j ≡ a + suc j = omega arith in ap F z ∙ h (suc j) u e)) i)

-- The orders in the context are those that the general took.
told_is : (s : Scenario) (before : List (List Letter)) (g : ℕ) → IsScenario s → g < s.generals → length before ≤ s.bound → AreWords s before g
    → outbox_told (shape_of s g (suc (length before))) (context_of s before g) ≡ telling (shape_of s g (suc (length before))) (took s before g)
told_is s before g is within le small =
    let shape = shape_of s g (suc (length before)) in
    let rows = number_rows shape (λ rank. taken_value (context_of s before g) rank) (took s before g) 0 (relay shape)
    (λ rank u at. (let z : 0 + rank ≡ rank = omega arith in ap (λ (n : ℕ). taken_value (context_of s before g) n) z ∙ value_is_told s before g rank u is within le at (small rank u at))) in
    (λ i. record { relay = oral shape; rows = rows i; entries = [] })

-- So the letter made from the context is the loyal one.
pub letter_is : (s : Scenario) (before : List (List Letter)) (g : ℕ) → IsScenario s → g < s.generals → length before ≤ s.bound → AreWords s before g
    → letter_told g (suc (length before)) (context_of s before g) ≡ faithful_letter s before g
letter_is s before g is within le small =
    ap (λ (shape : Shape). record (faithful_letter s before g) { outbox = outbox_told shape (context_of s before g) }) (shape_is_told s before g (suc (length before)) is)
    ∙ ap (λ (o : Contents). record (faithful_letter s before g) { outbox = o }) (told_is s before g is within le small)

pub proved_loyal_letters_follow : LoyalLettersFollow
proved_loyal_letters_follow = record {
  letter = letter_is;
  kept = λ context is. record { context = is; own = (refl, refl); shape = refl; kind = λ spoken. refl; run = (refl, refl, refl, refl, λ spoken. refl) };
}

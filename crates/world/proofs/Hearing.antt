-- What a close delivers to the lieutenants, and from what a loyal general's letter is made.
use Rattle.std.proofs.Common.{◌≡◌, ℕ, zero, suc, ◌<◌, ◌≤◌, List, [], ◌∷◌, ◌++◌, length, drop, refl, sym, ap, subst, ◌∙◌, All, Bool, get_or, Option, Some, None, Result, Ok, Err, arith}
use Rattle.std.specs.Prelude.{slice_get, IfOk}
use Rattle.std.proofs.lemmas.Option.{slice_get_within, slice_get-get_or}
use Rattle.std.proofs.lemmas.List.Elements.{All-append, All-nil}
use Rattle.label.specs.Relay.{IsShape}
use Rattle.board.specs.Board.{Access}
use Rattle.board.specs.Ledger.{RecordedBoard}
use Rattle.semantics.specs.Relay.{Relay}
use Rattle.round.specs.Scenario.{Scenario, IsScenario, shape_of}
use Rattle.round.specs.Letters.{Letter}
use Rattle.round.specs.Contexts.{AreWords, IsToldTo, context_of, shape_told, letter_told, faithful_letter}
use Rattle.round.specs.Activation.{Activation}
use Rattle.round.specs.Origin.{AreLettersOf}
use Rattle.round.specs.Told.{ToldSeen, WasTold}
use Rattle.round.proofs.Contexts.{shape_is}
use Rattle.round.proofs.Loyal.{shape_is_told, own_is_told, letter_is}
use Rattle.world.specs.Part.{Progress, Acting, Silent, Posted}
use Rattle.world.specs.World.{oral_kind, World, each}
use Rattle.world.specs.Reached.{IsHeld}
use Rattle.world.specs.Held.{letter_held, letters_held}
use Rattle.world.specs.Safety.{IsPlaced}
use Rattle.world.proofs.Standing.{parts_are_placed}
use Rattle.world.proofs.Campaigns.{oral_campaigns}

all_one : {A : Type 0} (P : A → Type 0) (x : A) → P x → All P (x ∷ [])
all_one P x h zero d lt = h
all_one P x h (suc k) d lt = absurd (omega arith)

each_all : {A : Type 0} (P : A → Type 0) (n : ℕ) (f : ℕ → List A) → ((g : ℕ) → All P (f g)) → All P (each n f)
each_all P zero f h = All-nil P
each_all P (suc n) f h = All-append P (each n f) (f n) (each_all P n f h) (h n)

-- States that the letter is of this round of the campaign.
abbrev IsOfRound : Scenario → ℕ → Letter → Type 0
IsOfRound s round l = (l.round ≡ round) × (l.outbox.relay.shape ≡ shape_of s l.general round)

written_round : (s : Scenario) (closed : List (List Letter)) (accesses : List Access) (g : ℕ) (o : Option Progress) → ((a : Activation) → o ≡ Some (Acting a) → IsPlaced oral_kind s closed g a) →
    All (IsOfRound s (suc (length closed))) (letter_held s closed accesses g o)
written_round s closed accesses g None h = All-nil (IsOfRound s (suc (length closed)))
written_round s closed accesses g (Some (Acting a)) h = all_one (IsOfRound s (suc (length closed))) _ (refl, ap (λ (r : Relay). r.shape) (h a refl).relay)
written_round s closed accesses g (Some Silent) h = All-nil (IsOfRound s (suc (length closed)))
written_round s closed accesses g (Some Posted) h = all_one (IsOfRound s (suc (length closed))) (faithful_letter s closed g) (refl, refl)

-- The letters of the open round are letters of that round.
pub row_told : (s : Scenario) (closed : List (List Letter)) (k : RecordedBoard) (opened : ℕ) (ps : List Progress) (full : Bool) (told : ToldSeen) (row : List Letter) → IsScenario s → IsHeld s closed k opened ps full → WasTold s closed told →
    row ≡ letters_held s closed (drop opened k.ledger) ps → AreLettersOf s (suc told.rounds) row
row_told s closed k opened ps full told row is h was same i l at =
    let Q : World → Type 0 = λ v. (g : ℕ) (a : Activation) → slice_get v.parts g ≡ Some (Acting a) → IsPlaced oral_kind s v.closed g a in
    let placed = subst Q h.reached.1 (λ g a e. parts_are_placed oral_kind oral_campaigns s h.reached.0 g a is e) in
    let all = each_all (IsOfRound s (suc (length closed))) s.generals (λ g. letter_held s closed (drop opened k.ledger) g (slice_get ps g)) (λ g. written_round s closed (drop opened k.ledger) g (slice_get ps g) (λ a e. placed g a e)) in
    let here : slice_get (letters_held s closed (drop opened k.ledger) ps) i ≡ Some l = ap (λ (r : List Letter). slice_get r i) (sym same) ∙ at in
    let within = slice_get_within (letters_held s closed (drop opened k.ledger) ps) i l here in
    let it : get_or (letters_held s closed (drop opened k.ledger) ps) i l ≡ l = (let f : Some (get_or (letters_held s closed (drop opened k.ledger) ps) i l) ≡ Some l = sym (slice_get-get_or (letters_held s closed (drop opened k.ledger) ps) i l within) ∙ here in cc) in
    let one : IsOfRound s (suc (length closed)) l = subst (IsOfRound s (suc (length closed))) it (all i l within) in
    subst (λ (n : ℕ). IsOfRound s (suc n) l) (sym was.rounds) one

-- What is received after one more round.
pub told_on : (s : Scenario) (closed closed' : List (List Letter)) (row row' : List Letter) (told : ToldSeen) → row ≡ row' → closed' ≡ closed ++ row' ∷ [] → WasTold s (closed ++ row ∷ []) told → WasTold s closed' told
told_on s closed closed' row row' told same pushed was = subst (λ (l : List (List Letter)). WasTold s l told) (ap (λ (r : List Letter). closed ++ r ∷ []) same ∙ sym pushed) was

-- The context describes the relay.
pub told_shape : (s : Scenario) (before : List (List Letter)) (g h r : ℕ) (bytes : List ℕ) → IsScenario s → g < s.generals → length before ≤ s.bound → bytes ≡ context_of s before g → h ≡ g → r ≡ suc (length before) → IsShape (shape_told h r bytes)
told_shape s before g h r bytes is lt le same who when =
    let e : shape_told h r bytes ≡ shape_of s g (suc (length before)) = (λ i. shape_told (who i) (when i) (same i)) ∙ shape_is_told s before g (suc (length before)) is in
    subst IsShape (sym e) (shape_is s g (length before) is lt le)

-- The context names its general and the round.
pub told_own : (s : Scenario) (before : List (List Letter)) (g h r : ℕ) (bytes : List ℕ) → IsScenario s → g < s.generals → length before ≤ s.bound → bytes ≡ context_of s before g → h ≡ g → r ≡ suc (length before) → IsToldTo h r bytes
told_own s before g h r bytes is lt le same who when =
    let own : IsToldTo g (suc (length before)) (context_of s before g) = own_is_told s before g is lt le in
    subst (λ (b : List ℕ). IsToldTo h r b) (sym same)
    (subst (λ (n : ℕ). IsToldTo h n (context_of s before g)) (sym when) (subst (λ (n : ℕ). IsToldTo n (suc (length before)) (context_of s before g)) (sym who) own))

-- A loyal general's letter follows from his context.
pub told_letter : (s : Scenario) (before : List (List Letter)) (g h r : ℕ) (bytes : List ℕ) (l : Letter) → IsScenario s → g < s.generals → length before ≤ s.bound → AreWords s before g → bytes ≡ context_of s before g → h ≡ g →
    r ≡ suc (length before) → l ≡ letter_told h r bytes → l ≡ faithful_letter s before g
told_letter s before g h r bytes l is lt le small same who when is_told =
    is_told ∙ ((λ i. letter_told (who i) (when i) (same i)) ∙ letter_is s before g is lt le small)

pub told_ok : {E : Type 0} (result : Result Letter E) (s : Scenario) (before : List (List Letter)) (g h r : ℕ) (bytes : List ℕ) → IsScenario s → g < s.generals → length before ≤ s.bound → AreWords s before g → bytes ≡ context_of s before g → h ≡ g →
    r ≡ suc (length before) → IfOk result (λ l. l ≡ letter_told h r bytes) → IfOk result (λ l. l ≡ faithful_letter s before g)
told_ok (Ok l) s before g h r bytes is lt le small same who when told = told_letter s before g h r bytes l is lt le small same who when told
told_ok (Err e) s before g h r bytes is lt le small same who when told = tt

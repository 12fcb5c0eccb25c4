-- A loyal general's letter that is made from the chains sent is a letter.
use Rattle.std.proofs.Common.{◌≡◌, ℕ, suc, ◌-◌, ◌*◌, ◌<◌, ◌≤◌, true, List, [], ◌∷◌, map, length, refl, sym, ap, subst, ◌∙◌, arith, flat_map, Option, None}
use Rattle.semantics.specs.Relay.{Relay, IsContext, signed}
use Rattle.label.specs.Relay.{IsShape}
use Rattle.insn.specs.declared.insn.Insn.{Insn}
use Rattle.board.specs.Board.{Access}
use Rattle.outbox.specs.Contents.{Contents}
use Rattle.round.specs.Scenario.{Scenario, IsScenario, shape_of}
use Rattle.round.specs.Contexts.{context_bytes, IsToldTo, shape_told, tells_oral}
use Rattle.round.specs.Runs.{IsLetter}
use Rattle.mem.proofs.Bytes.{bytes_context}
use Rattle.round.proofs.Contexts.{shape_is}
use Rattle.signed.specs.Chains.{Chain}
use Rattle.signed.specs.Contexts.{signed_context_numbers, signer_bits}
use Rattle.signed.specs.Kind.{signed_context}
use Rattle.signed.specs.Loyal.{loyal_entries}
use Rattle.signed.specs.Sent.{Sent, delivered, held_behind, sent_in}
use Rattle.signed.specs.Sending.{context_behind, relay_behind, letter_behind, held_of, AreRows, IsSent}
use Rattle.signed.proofs.Along.{sent_length}
use Rattle.signed.proofs.Receipts.{chains_held}
use Rattle.signed.proofs.Telling.{signed_relays, not_oral}

-- His context after the closed rounds that sent these chains.
told_in : (s : Scenario) (sent : Sent) (g : ℕ) (h : IsSent s sent) → context_behind s sent g ≡ signed_context s h.0 g
told_in s sent g h =
    let closed = h.0 in
    ap (λ (x : Sent). context_behind s x g) h.2
    ∙ ap (λ (k : ℕ). context_bytes (signed_context_numbers s.generals s.bound s.commander g (suc k) (held_behind s.generals (sent_in s closed) g))) (sent_length s closed)

rounds_in : (s : Scenario) (sent : Sent) (h : IsSent s sent) → length sent ≡ length h.0
rounds_in s sent h = ap length h.2 ∙ sent_length s h.0

pub context_whole : (s : Scenario) (sent : Sent) (g : ℕ) → IsContext (context_behind s sent g)
context_whole s sent g = bytes_context _

pub letter_is : (s : Scenario) (sent : Sent) (g : ℕ) → IsScenario s → IsSent s sent → g < s.generals → length sent ≤ s.bound → IsLetter (letter_behind s sent g)
letter_is s sent g is h lt le =
    let closed = h.0 in
    let C : List ℕ → Type 0 = λ context. IsToldTo g (suc (length closed)) context in
    let tell = signed_relays s is in
    let rounds = rounds_in s sent h in
    let told = told_in s sent g h in
    let within : length closed ≤ s.bound = omega arith in
    let never : tells_oral (context_behind s sent g) → ⊥ = λ spoken. not_oral s closed g (subst (λ (c : List ℕ). tells_oral c) told spoken) in
    record {
      context = context_whole s sent g;
      own = subst (λ (k : ℕ). IsToldTo g (suc k) (context_behind s sent g)) (sym rounds) (subst C (sym told) (tell.own closed g lt within));
      shape = (λ i. shape_of s g (suc (rounds i))) ∙ (tell.shape closed g lt within ∙ (λ i. shape_told g (suc (sym rounds i)) (sym told i)));
      kind = λ spoken. absurd (never spoken);
      run = (refl, refl, refl, refl, λ spoken. absurd (never spoken));
    }

-- A letter with these contents is his.
pub written_is : (s : Scenario) (sent : Sent) (g general round : ℕ) (context : List ℕ) (program : Option (List Insn)) (transcript : List Access) (outbox : Contents) →
    general ≡ g → round ≡ suc (length sent) → context ≡ context_behind s sent g → program ≡ None → transcript ≡ [] →
    outbox.relay ≡ relay_behind s sent g → outbox.rows ≡ [] → outbox.entries ≡ loyal_entries s.generals s.commander s.bound s.order (delivered sent) (suc (length sent)) g →
    record { general = general; round = round; context = context; program = program; transcript = transcript; steps = 0; outbox = outbox; exited = true } ≡ letter_behind s sent g
written_is s sent g general round context program transcript outbox a b c p t relay rows entries =
    (λ i. record { general = a i; round = b i; context = c i; program = p i; transcript = t i; steps = 0; outbox = record { relay = relay i; rows = rows i; entries = entries i }; exited = true })

-- The signers of the chains held make his relay.
pub relay_is : (s : Scenario) (sent : Sent) (g round : ℕ) (relay : Relay) → AreRows s.generals sent → round ≡ suc (length sent) → relay ≡ signed (shape_of s g round) (map signer_bits (held_of g sent).chains) → relay ≡ relay_behind s sent g
relay_is s sent g round relay rows counted is =
    is ∙ (λ i. signed (shape_of s g (counted i)) (map signer_bits (chains_held s.generals sent g rows i)))

pub shape_whole : (s : Scenario) (sent : Sent) (g round : ℕ) → IsScenario s → g < s.generals → length sent ≤ s.bound → round ≡ suc (length sent) → IsShape (shape_of s g round)
shape_whole s sent g round is lt le counted = subst (λ (k : ℕ). IsShape (shape_of s g k)) (sym counted) (shape_is s g (length sent) is lt le)

pairs_length : (xs : List Chain) → length (flat_map (λ ch. ch.order ∷ signer_bits ch ∷ []) xs) ≡ 2 * length xs
pairs_length [] = refl
pairs_length (x ∷ xs) = omega (arith, pairs_length xs)

-- The numbers of the chains held make his context.
pub numbers_few : (xs : List Chain) (numbers : List ℕ) → length xs ≤ 500 → numbers ≡ flat_map (λ ch. ch.order ∷ signer_bits ch ∷ []) xs → length numbers ≤ 1000
numbers_few xs numbers few is = let e = ap length is in omega (arith, pairs_length xs)

pub context_is : (s : Scenario) (sent : Sent) (g : ℕ) (n m general c round count others : ℕ) (numbers bytes : List ℕ) → AreRows s.generals sent →
    n ≡ s.generals → m ≡ s.bound → general ≡ g → c ≡ s.commander → round ≡ suc (length sent) → count ≡ length (held_of g sent).chains → others ≡ s.generals - 1 →
    numbers ≡ flat_map (λ ch. ch.order ∷ signer_bits ch ∷ []) (held_of g sent).chains →
    bytes ≡ context_bytes (n ∷ m ∷ general ∷ c ∷ round ∷ count ∷ others ∷ 1 ∷ numbers) → bytes ≡ context_behind s sent g
context_is s sent g n m general c round count others numbers bytes rows a b d e f h o k is =
    is ∙ ((λ i. context_bytes (a i ∷ b i ∷ d i ∷ e i ∷ f i ∷ h i ∷ o i ∷ 1 ∷ k i))
    ∙ ap (λ (xs : List Chain). context_bytes (signed_context_numbers s.generals s.bound s.commander g (suc (length sent)) xs)) (chains_held s.generals sent g rows))

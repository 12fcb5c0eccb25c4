-- The chains that a general received, in the lists of chains sent.
use Rattle.std.proofs.Common.{◌≡◌, ℕ, zero, suc, ◌+◌, ◌-◌, ◌≤◌, List, [], ◌∷◌, ◌++◌, map, take, drop, length, get_or, refl, sym, ap, subst, ◌∙◌, arith, All, append-nil}
use Rattle.std.specs.Prelude.{flat_map}
use Rattle.std.proofs.Math.Seq.{take-suc, take-length, drop-append_seam}
use Rattle.std.proofs.lemmas.Grind.{flat_map-append}
use Rattle.std.proofs.lemmas.List.{map-append}
use Rattle.std.proofs.lemmas.List.Elements.{All-append}
use Rattle.label.specs.Labels.{generals}
use Rattle.label.proofs.Ranks.{range_push}
use Rattle.round.specs.Scenario.{Scenario, IsScenario}
use Rattle.round.specs.Letters.{Letter, letter_of}
use Rattle.signed.specs.Chains.{Chain}
use Rattle.signed.specs.Accepted.{came, held}
use Rattle.signed.specs.Entries.{Dispatch, Entry, dispatched}
use Rattle.signed.specs.Sent.{Sent, delivered, held_behind, sends, round_sent, sent_along, sent_in}
use Rattle.signed.specs.Sending.{received_in, AreRows, HeldChains, held_of, IsSent}
use Rattle.signed.specs.Signers.{Signature}
use Rattle.signed.proofs.Adding.{came_is}
use Rattle.signed.proofs.Along.{held_is}
use Rattle.signed.proofs.Making.{IsMade}
use Rattle.signed.proofs.Places.{row_length}
use Rattle.signed.proofs.Worlds.{written_made}

none_came : (gs : List ℕ) → flat_map {X = ℕ} {A = Chain} (λ h. []) gs ≡ []
none_came [] = refl
none_came (g ∷ gs) = none_came gs

-- The chains held after some rounds were received in these.
pub held_to : (n : ℕ) (sent : Sent) (g k : ℕ) → AreRows n sent → k ≤ length sent → held n (delivered sent) (suc k) g ≡ flat_map (received_in g) (take k sent)
unfolding held
held_to n sent g zero rows le = none_came (generals n)
held_to n sent g (suc k) rows le =
    let row = get_or sent k [] in
    let before = held_to n sent g k rows (omega arith) in
    let now = came_is n sent k g (rows k [] (omega arith)) in
    (λ i. before i ++ now i)
    ∙ (ap (λ (xs : List Chain). flat_map (received_in g) (take k sent) ++ xs) (sym (append-nil (received_in g row)))
    ∙ (sym (flat_map-append (received_in g) (take k sent) (row ∷ []))
    ∙ ap (flat_map (received_in g)) (sym (take-suc sent k [] (omega arith)))))

pub chains_held : (n : ℕ) (sent : Sent) (g : ℕ) → AreRows n sent → flat_map (received_in g) sent ≡ held_behind n sent g
chains_held n sent g rows =
    ap (flat_map (received_in g)) (sym (take-length sent)) ∙ (sym (held_to n sent g (length sent) rows (omega arith)) ∙ sym (held_is n sent g))

-- States that of the chains held after a round, the first were held before it, and the others were received in it.
pub record IsHeldOf (n : ℕ) (sent : Sent) (r g : ℕ) (held_chains : List Chain) (before : ℕ) : Type 0 where
  pub chains : held_chains ≡ held_behind n sent g
  pub earlier : before ≡ length (held n (delivered sent) (suc r) g)
  pub last : drop before held_chains ≡ came n (delivered sent) (suc r) g

last_came : (n : ℕ) (sent : Sent) (r g : ℕ) → length sent ≡ suc r → drop (length (held n (delivered sent) (suc r) g)) (held_behind n sent g) ≡ came n (delivered sent) (suc r) g
unfolding held
last_came n sent r g e =
    ap (drop (length (held n (delivered sent) (suc r) g))) (held_is n sent g ∙ ap (λ (k : ℕ). held n (delivered sent) (suc k) g) e)
    ∙ drop-append_seam (held n (delivered sent) (suc r) g) (came n (delivered sent) (suc r) g)

pub held_last : (n : ℕ) (sent : Sent) (r g : ℕ) → AreRows n sent → length sent ≡ suc r → IsHeldOf n sent r g (held_of g sent).chains (held_of g sent).earlier
held_last n sent r g rows e =
    let before : length sent - 1 ≡ r = omega arith in
    let there : (held_of g sent).chains ≡ held_behind n sent g = chains_held n sent g rows in
    let front : (held_of g sent).earlier ≡ length (held n (delivered sent) (suc r) g) =
    ap (λ (k : ℕ). length (flat_map (received_in g) (take k sent))) before ∙ ap length (sym (held_to n sent g r rows (omega arith))) in
    record {
      chains = there;
      earlier = front;
      last = (λ i. drop (front i) (there i)) ∙ last_came n sent r g e;
    }

rows_along : (s : Scenario) (sent : Sent) (rounds : List (List Letter)) → AreRows s.generals sent → AreRows s.generals (sent_along s sent rounds)
rows_along s sent [] rows = rows
rows_along s sent (row ∷ rounds) rows =
    let P : List (List Dispatch) → Type 0 = λ r. length r ≡ s.generals in
    let one : All P (round_sent s sent row ∷ []) = single (round_sent s sent row) (row_length (λ g. sends s sent g (letter_of row g)) s.generals) in
    rows_along s (sent ++ round_sent s sent row ∷ []) rounds (All-append P sent (round_sent s sent row ∷ []) rows one)
  where
    single : (r : List (List Dispatch)) → length r ≡ s.generals → All (λ x. length x ≡ s.generals) (r ∷ [])
    single r e zero d lt = e
    single r e (suc k) d lt = absurd (omega arith)

rows_in : (s : Scenario) (closed : List (List Letter)) → AreRows s.generals (sent_in s closed)
unfolding sent_in
rows_in s closed = rows_along s [] closed (λ k d lt. absurd (omega arith))

-- The chains that letters have sent are a list for each general in each round.
pub sent_rows : (s : Scenario) (sent : Sent) → IsSent s sent → AreRows s.generals sent
sent_rows s sent h =
    let A : Sent → Type 0 = λ x. AreRows s.generals x in
    subst A (sym h.2) (rows_in s h.0)

-- They are made by entries, or as loyal generals make them.
pub sent_made : (s : Scenario) (sent : Sent) → IsScenario s → IsSent s sent → IsMade s sent
sent_made s sent is h =
    let A : Sent → Type 0 = λ x. IsMade s x in
    subst A (sym h.2) (written_made s h.0 h.1)

-- One more general is considered.
pub row_more : {X : Type 0} (f : ℕ → X) (k : ℕ) (xs : List X) (x : X) (ys : List X) → ys ≡ xs ++ x ∷ [] → xs ≡ map f (generals k) → x ≡ f k → ys ≡ map f (generals (k + 1))
row_more f k xs x ys e h is =
    let m : suc k ≡ k + 1 = omega arith in
    let z : 0 + k ≡ k = omega arith in
    e
    ∙ ((λ i. h i ++ (is ∙ ap f (sym z)) i ∷ [])
    ∙ (sym (map-append f (generals k) ((0 + k) ∷ []))
    ∙ (ap (map f) (sym (range_push 0 k))
    ∙ ap (λ (j : ℕ). map f (generals j)) m)))

-- A general's entries send chains by what he holds.
pub dispatched_is : (s : Scenario) (sent : Sent) (g n : ℕ) (signer : Signature) (held_chains : HeldChains) (entries drafted : List Entry) → AreRows s.generals sent →
    n ≡ s.generals → signer ≡ record { general = g; commander = s.commander } → held_chains ≡ held_of g sent → entries ≡ drafted →
    dispatched n signer.commander signer.general held_chains.chains entries ≡ dispatched s.generals s.commander g (held_behind s.generals sent g) drafted
dispatched_is s sent g n signer held_chains entries drafted rows size own there same =
    (λ i. dispatched (size i) (own i).commander (own i).general (there i).chains (same i))
    ∙ ap (λ (xs : List Chain). dispatched s.generals s.commander g xs drafted) (chains_held s.generals sent g rows)

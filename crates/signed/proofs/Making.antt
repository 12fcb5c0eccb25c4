-- How the chains sent in closed rounds were made.
use Rattle.std.proofs.Common.{◌≡◌, ◌≢◌, ℕ, zero, suc, ◌<◌, ◌≤◌, false, List, [], ◌∷◌, ◌++◌, map, length, get_or, refl, sym, ap, ◌∙◌, arith, inl, inr, length-append}
use Rattle.std.specs.Prelude.{◌⊎◌}
use Rattle.std.proofs.lemmas.Bool.{cases_eq, cases_lt}
use Rattle.round.specs.Scenario.{Scenario, is_traitor}
use Rattle.world.proofs.Listing.{get_or-left, get_or-seam}
use Rattle.signed.specs.Accepted.{Deliveries, held, loyal_chains}
use Rattle.signed.specs.Entries.{Dispatch, Entry, dispatched, most_entries, to_all_others, received}
use Rattle.signed.specs.Sent.{Sent, sent_by, delivered}
use Rattle.signed.proofs.Earlier.{AgreeBefore, held_same, loyal_same}
use Rattle.signed.proofs.Places.{get_or_past}

-- Returns what a general's entries send in a round, given what he received before.
abbrev pub of_entries : Scenario → Deliveries → ℕ → ℕ → List Entry → List Dispatch
of_entries s S r g entries = dispatched s.generals s.commander g (held s.generals S r g) entries

-- Returns what a loyal general sends in a round, given what he received before.
abbrev pub of_loyal : Scenario → Deliveries → ℕ → ℕ → List Dispatch
of_loyal s S r g = map (to_all_others s.generals) (loyal_chains s.generals s.commander s.bound s.order S r g)

pub record IsOfTraitor (s : Scenario) (S : Deliveries) (r g : ℕ) (xs : List Dispatch) : Type 0 where
  pub general : g < s.generals
  pub entries : List Entry
  pub few : length entries ≤ most_entries
  pub sends : xs ≡ of_entries s S r g entries

pub record IsOfLoyal (s : Scenario) (S : Deliveries) (r g : ℕ) (xs : List Dispatch) : Type 0 where
  pub general : g < s.generals
  pub sends : xs ≡ of_loyal s S r g

-- States that a general sent nothing, or what his entries send, or what a loyal general sends.
abbrev pub IsMadeOf : Scenario → Deliveries → ℕ → ℕ → List Dispatch → Type 0
IsMadeOf s S r g xs = (xs ≡ []) ⊎ (IsOfTraitor s S r g xs ⊎ IsOfLoyal s S r g xs)

abbrev pub Row : Type 0
Row = List (List Dispatch)

abbrev pub IsMade : Scenario → Sent → Type 0
IsMade s sent = (r g : ℕ) → IsMadeOf s (delivered sent) r g (sent_by sent r g)

-- States that in each closed round every loyal general sent what SM(m) requires.
abbrev pub IsFull : Scenario → Sent → Type 0
IsFull s sent = (r g : ℕ) → r < length sent → g < s.generals → is_traitor s g ≡ false → sent_by sent (suc r) g ≡ of_loyal s (delivered sent) (suc r) g

-- The rounds before do not change.
pub sent_front : (sent : Sent) (row : Row) (r g : ℕ) → r ≤ length sent → sent_by (sent ++ row ∷ []) r g ≡ sent_by sent r g
sent_front sent row zero g l = refl
sent_front sent row (suc r) g l = ap (λ (xs : Row). get_or xs g []) (get_or-left sent (row ∷ []) r [] (omega arith))

pub sent_last : (sent : Sent) (row : Row) (g : ℕ) → sent_by (sent ++ row ∷ []) (suc (length sent)) g ≡ get_or row g []
sent_last sent row g = ap (λ (xs : Row). get_or xs g []) (get_or-seam sent row [])

pub sent_past : (sent : Sent) (r g : ℕ) → length sent < r → sent_by sent r g ≡ []
sent_past sent zero g l = refl
sent_past sent (suc r) g l = ap (λ (xs : Row). get_or xs g []) (get_or_past sent r [] (omega arith))

pub delivered_front : (sent : Sent) (row : Row) → AgreeBefore (suc (length sent)) (delivered (sent ++ row ∷ [])) (delivered sent)
delivered_front sent row r g p l = ap (received p) (sent_front sent row r g (omega arith))

-- What can be sent in a round depends only on what was received before it.
pub made_same : (s : Scenario) (S T : Deliveries) (k r g : ℕ) (xs : List Dispatch) → AgreeBefore k S T → r ≤ k → IsMadeOf s T r g xs → IsMadeOf s S r g xs
made_same s S T k r g xs same l made = elim made [
  | inl none ↦ inl none
  | inr some ↦ elim some [
    | inl t ↦ inr (inl (record { general = t.general; entries = t.entries; few = t.few; sends = (let e : held s.generals S r g ≡ held s.generals T r g = held_same s.generals k S T r g same l in rw e t.sends) }))
    | inr y ↦ inr (inr (record { general = y.general; sends = y.sends ∙ sym (loyal_sends_same s S T k r g same l) }))
  ]
]
  where
    loyal_sends_same : (s : Scenario) (S T : Deliveries) (k r g : ℕ) → AgreeBefore k S T → r ≤ k → of_loyal s S r g ≡ of_loyal s T r g
    loyal_sends_same s S T k r g same l = ap (map (to_all_others s.generals)) (loyal_same s.generals s.commander s.bound s.order k S T r g same l)

-- One more round, whose letters are made from what was received before.
pub made_more : (s : Scenario) (sent : Sent) (row : Row) → IsMade s sent
    → ((g : ℕ) → IsMadeOf s (delivered sent) (suc (length sent)) g (get_or row g [])) → IsMade s (sent ++ row ∷ [])
made_more s sent row made now r g =
    elim (cases_lt (length sent) r) [
      | inr old ↦ made_same s (delivered (sent ++ row ∷ [])) (delivered sent) (suc (length sent)) r g (sent_by (sent ++ row ∷ []) r g) (delivered_front sent row) (omega arith)
          (rw (sent_front sent row r g old) (made r g))
      | inl later ↦ elim (cases_eq r (suc (length sent))) [
        | inl e ↦ rw e (made_same s (delivered (sent ++ row ∷ [])) (delivered sent) (suc (length sent)) (suc (length sent)) g (sent_by (sent ++ row ∷ []) (suc (length sent)) g) (delivered_front sent row) (omega arith)
            (rw (sent_last sent row g) (now g)))
        | inr ne ↦ inl (sent_past (sent ++ row ∷ []) r g (let d : r ≢ suc (length sent) = ne in omega (arith, length-append sent (row ∷ []))))
      ]
    ]

-- Its loyal letters send what SM(m) requires.
pub full_more : (s : Scenario) (sent : Sent) (row : Row) → IsFull s sent
    → ((g : ℕ) → g < s.generals → is_traitor s g ≡ false → get_or row g [] ≡ of_loyal s (delivered sent) (suc (length sent)) g) → IsFull s (sent ++ row ∷ [])
full_more s sent row full now r g l gn loyal =
    elim (cases_eq r (length sent)) [
      | inl e ↦ rw e (sent_last sent row g ∙ (now g gn loyal ∙ sym (same (suc (length sent)) (omega arith))))
      | inr ne ↦
          let d : r ≢ length sent = ne in
          let within : r < length sent = omega (arith, length-append sent (row ∷ [])) in
          sent_front sent row (suc r) g (omega arith) ∙ (full r g within gn loyal ∙ sym (same (suc r) (omega arith)))
    ]
  where
    same : (k : ℕ) → k ≤ suc (length sent) → of_loyal s (delivered (sent ++ row ∷ [])) k g ≡ of_loyal s (delivered sent) k g
    same k le = ap (map (to_all_others s.generals)) (loyal_same s.generals s.commander s.bound s.order (suc (length sent)) (delivered (sent ++ row ∷ [])) (delivered sent) k g (delivered_front sent row) le)

-- The reasons in the notes on calls.
use Rattle.std.proofs.Common.{◌≡◌, ℕ, ◌<◌, ◌≤◌, List, ◌++◌, length, Bool, true, false, ◌-◌, ◌≢◌, ap, refl, arith, get_or, inl, inr, ◌⊎◌}
use Rattle.std.proofs.lemmas.Option.{slice_get_cases}
use Rattle.std.specs.Prelude.{None, Some, codes, decimal, slice_get, if◌then◌else◌, ◌==◌}
use Rattle.std.specs.Int.{bit_at}
use Rattle.semantics.specs.declared.request.Helper.{Helper}
use Rattle.semantics.specs.declared.request.Helper.TheVariants as helper
use Rattle.label.specs.declared.shape.Shape.{Shape}
use Rattle.label.specs.Relay.{relay}
use Rattle.trial.specs.Notes.{are_signed, dotted, full, no_place, no_row, signed_already, signed_reason, unheard, unheld}

-- Proves what is written if there is a label with this rank that nobody receives.
unreceived_by : (r : Shape) (rank orders : ℕ) (old new text : List ℕ)
    → (((x : List ℕ) × (rank < length (relay r)) × (slice_get (relay r) rank ≡ Some x) × (get_or (relay r) rank x ≡ x)) ⊎ ((length (relay r) ≤ rank) × (slice_get (relay r) rank ≡ None)))
    → rank < length (relay r) → (orders == 0) ≡ false → ((label : List ℕ) → slice_get (relay r) rank ≡ Some label → text ≡ dotted label)
    → new ≡ old ++ (codes "nobody receives the label " ++ text) → new ≡ old ++ no_row r rank orders (slice_get (relay r) rank)
unreceived_by r rank orders old new text (inl (x, within, is, same)) lt some told e = rw (is, some, ← told x is) e
unreceived_by r rank orders old new text (inr (past, none)) lt some told e = absurd (omega (arith, past, lt))

pub unreceived : (r : Shape) (rank orders : ℕ) (old new text : List ℕ) → rank < length (relay r) → (orders == 0) ≡ false
    → ((label : List ℕ) → slice_get (relay r) rank ≡ Some label → text ≡ dotted label)
    → new ≡ old ++ (codes "nobody receives the label " ++ text) → new ≡ old ++ no_row r rank orders (slice_get (relay r) rank)
unreceived r rank orders old new text = unreceived_by r rank orders old new text (slice_get_cases (relay r) rank).1

-- Proves what is written if there is a label with this rank that does not go to the receiver.
unplaced_by : (s : Shape) (rank receiver : ℕ) (old new text such : List ℕ)
    → (((x : List ℕ) × (rank < length (relay s)) × (slice_get (relay s) rank ≡ Some x) × (get_or (relay s) rank x ≡ x)) ⊎ ((length (relay s) ≤ rank) × (slice_get (relay s) rank ≡ None)))
    → rank < length (relay s) → ((label : List ℕ) → slice_get (relay s) rank ≡ Some label → text ≡ dotted label)
    → such ≡ codes "the label " ++ text → new ≡ old ++ unheard s receiver such → new ≡ old ++ no_place s rank receiver (slice_get (relay s) rank)
unplaced_by s rank receiver old new text such (inl (x, within, is, same)) lt told made e = rw (is, ← told x is, ← made) e
unplaced_by s rank receiver old new text such (inr (past, none)) lt told made e = absurd (omega (arith, past, lt))

pub unplaced : (s : Shape) (rank receiver : ℕ) (old new text such : List ℕ) → rank < length (relay s)
    → ((label : List ℕ) → slice_get (relay s) rank ≡ Some label → text ≡ dotted label)
    → such ≡ codes "the label " ++ text → new ≡ old ++ unheard s receiver such → new ≡ old ++ no_place s rank receiver (slice_get (relay s) rank)
unplaced s rank receiver old new text such = unplaced_by s rank receiver old new text such (slice_get_cases (relay s) rank).1

-- Proves what is written if some chain is held, but none with this index.
pub unheld_some : (index count : ℕ) → (count == 0) ≡ false → unheld index count ≡ codes "chain " ++ decimal index ++ codes " is past the last, " ++ decimal (count - 1)
unheld_some index count some = ap (λ (b : Bool). if b then codes "no chain is held" else codes "chain " ++ decimal index ++ codes " is past the last, " ++ decimal (count - 1)) some

-- Proves what is written if the general is one of the signers.
pub already : (general index signers : ℕ) → (bit_at signers general == 1) ≡ true → signed_already general index signers ≡ codes "general " ++ decimal general ++ codes " has already signed chain " ++ decimal index
already general index signers is = ap (λ (b : Bool). if b then codes "general " ++ decimal general ++ codes " has already signed chain " ++ decimal index else full) is

-- Proves what is written for a call that is neither of `sign_order` nor of `pass_on`.
pub other_reason : (shape : Shape) (held : List ℕ) (first : ℕ) (called : Helper) → called ≢ helper.SignOrder → called ≢ helper.PassOn → signed_reason shape held first called ≡ are_signed
other_reason shape held first helper.SignOrder unsigning unpassing = absurd (unsigning refl)
other_reason shape held first helper.PassOn unsigning unpassing = absurd (unpassing refl)
other_reason shape held first called unsigning unpassing = refl

-- The chains that were sent, round by round.
use Rattle.std.proofs.Common.{◌≡◌, ℕ, suc, ◌+◌, List, [], ◌∷◌, ◌++◌, length, refl, ◌∙◌, arith, length-append}
use Rattle.round.specs.Scenario.{Scenario}
use Rattle.round.specs.Letters.{Letter}
use Rattle.signed.specs.Accepted.{held}
use Rattle.signed.specs.Sent.{Sent, delivered, held_behind, round_sent, sent_along, sent_in}

pub held_is : (n : ℕ) (sent : Sent) (g : ℕ) → held_behind n sent g ≡ held n (delivered sent) (suc (length sent)) g
unfolding held_behind
held_is n sent g = refl

along_more : (s : Scenario) (sent : Sent) (rows : List (List Letter)) (row : List Letter) →
    sent_along s sent (rows ++ row ∷ []) ≡ sent_along s sent rows ++ round_sent s (sent_along s sent rows) row ∷ []
along_more s sent [] row = refl
along_more s sent (r ∷ rows) row = along_more s (sent ++ round_sent s sent r ∷ []) rows row

along_length : (s : Scenario) (sent : Sent) (rows : List (List Letter)) → length (sent_along s sent rows) ≡ length sent + length rows
along_length s sent [] = omega arith
along_length s sent (r ∷ rows) = omega (arith, along_length s (sent ++ round_sent s sent r ∷ []) rows, length-append sent (round_sent s sent r ∷ []))

pub sent_none : (s : Scenario) → sent_in s [] ≡ []
unfolding sent_in
sent_none s = refl

-- One more round is closed.
pub sent_more : (s : Scenario) (closed : List (List Letter)) (row : List Letter) → sent_in s (closed ++ row ∷ []) ≡ sent_in s closed ++ round_sent s (sent_in s closed) row ∷ []
unfolding sent_in
sent_more s closed row = along_more s [] closed row

pub sent_length : (s : Scenario) (closed : List (List Letter)) → length (sent_in s closed) ≡ length closed
unfolding sent_in
sent_length s closed = along_length s [] closed ∙ (omega arith)

-- Contexts, relays, letters and parts that are made from the chains sent are those that the kind gives for the letters.
use Rattle.std.proofs.Common.{◌≡◌, ℕ, zero, suc, List, [], ◌∷◌, ◌++◌, length, map, cond, refl, ap, arith, Option, Some, None}
use Rattle.std.specs.Prelude.{nat_lt}
use Rattle.std.proofs.lemmas.List.Elements.{All-append}
use Rattle.insn.specs.declared.insn.Insn.{Insn}
use Rattle.semantics.specs.Relay.{signed}
use Rattle.round.specs.Scenario.{Scenario, program_of, shape_of}
use Rattle.round.specs.Letters.{Letter, letter_of}
use Rattle.round.specs.Contexts.{context_bytes, faithful_letter_with}
use Rattle.round.specs.Activation.{started}
use Rattle.world.specs.declared.part.Progress.{Progress}
use Rattle.world.specs.declared.part.Progress.TheVariants.{Acting}
use Rattle.world.specs.Kind.{each, begins, loyal_letter}
use Rattle.signed.specs.Contexts.{signed_context_numbers, signer_bits}
use Rattle.signed.specs.Entries.{Dispatch}
use Rattle.signed.specs.Kind.{signed_kind, signed_context, signed_relay}
use Rattle.world.specs.KindHeld.{beginnings}
use Rattle.signed.specs.Loyal.{loyal_entries}
use Rattle.signed.specs.Sending.{AreRows, context_behind, relay_behind, letter_behind, begins_behind, beginnings_behind}
use Rattle.signed.specs.Sent.{Sent, delivered, held_behind, sends, round_sent, sent_along, sent_in}
use Rattle.signed.proofs.Along.{sent_length}
use Rattle.world.proofs.Holding.{each-same}
use Rattle.signed.proofs.Places.{row_length}

module _ (s : Scenario) (closed : List (List Letter)) where
  abbrev told_at : ℕ → ℕ → List ℕ
  told_at g n = context_bytes (signed_context_numbers s.generals s.bound s.commander g (suc n) (held_behind s.generals (sent_in s closed) g))

  pub told_behind : (g : ℕ) → context_behind s (sent_in s closed) g ≡ signed_context s closed g
  told_behind g = ap (told_at g) (sent_length s closed)

  pub relayed_behind : (g : ℕ) → relay_behind s (sent_in s closed) g ≡ signed_relay s closed g
  relayed_behind g = ap (λ (n : ℕ). signed (shape_of s g (suc n)) (map signer_bits (held_behind s.generals (sent_in s closed) g))) (sent_length s closed)

  abbrev letter_at : ℕ → ℕ → Letter
  letter_at g n =
      faithful_letter_with g (suc n) (told_at g n)
      (record {
        relay = signed (shape_of s g (suc n)) (map signer_bits (held_behind s.generals (sent_in s closed) g));
        rows = [];
        entries = loyal_entries s.generals s.commander s.bound s.order (delivered (sent_in s closed)) (suc n) g;
      })

  pub written_behind : (g : ℕ) → letter_behind s (sent_in s closed) g ≡ loyal_letter signed_kind s closed g
  written_behind g = ap (letter_at g) (sent_length s closed)

  begun_behind : (g : ℕ) (o : Option (List Insn)) → begins_behind s (sent_in s closed) g o ≡ begins signed_kind s closed g o
  begun_behind g None = refl
  begun_behind g (Some program) = (λ i. Acting (started s.patience program (told_behind g i) (relayed_behind g i)))

  pub parts_behind : beginnings_behind s (sent_in s closed) ≡ beginnings signed_kind s closed
  parts_behind =
      let same : each s.generals (λ g. begins_behind s (sent_in s closed) g (program_of s g) ∷ []) ≡ each s.generals (λ g. begins signed_kind s closed g (program_of s g) ∷ []) =
      each-same s.generals (λ g. begins_behind s (sent_in s closed) g (program_of s g) ∷ []) (λ g. begins signed_kind s closed g (program_of s g) ∷ [])
      (λ g. ap (λ (p : Progress). p ∷ []) (begun_behind g (program_of s g))) in
      (λ i. cond (nat_lt (sent_length s closed i) (suc s.bound)) (same i) [])

-- Each round has a list for each general.
one_row : (n : ℕ) (row : List (List Dispatch)) → length row ≡ n → AreRows n (row ∷ [])
one_row n row e zero d lt = e
one_row n row e (suc k) d lt = absurd (omega arith)

along_rows : (s : Scenario) (sent : Sent) (rows : List (List Letter)) → AreRows s.generals sent → AreRows s.generals (sent_along s sent rows)
along_rows s sent [] are = are
along_rows s sent (row ∷ rows) are =
    along_rows s (sent ++ round_sent s sent row ∷ []) rows
    (All-append (λ (r : List (List Dispatch)). length r ≡ s.generals) sent (round_sent s sent row ∷ []) are
    (one_row s.generals (round_sent s sent row) (row_length (λ g. sends s sent g (letter_of row g)) s.generals)))

pub rows_in : (s : Scenario) (closed : List (List Letter)) → AreRows s.generals (sent_in s closed)
unfolding sent_in
rows_in s closed = along_rows s [] closed (λ k d lt. absurd (omega arith))

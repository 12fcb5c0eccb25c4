-- Lemmas about logs: which chains a log has after some rounds, and after the first of them.
use Rattle.std.proofs.Common.{◌≡◌, ℕ, suc, ◌+◌, ◌≤◌, List, [], ◌∷◌, ◌++◌, length, take, drop, refl, sym, ap, subst, ◌∙◌, arith, inr, append-nil, append_assoc, length-append, Option, Some, None}
use Rattle.std.specs.Prelude.{All}
use Rattle.std.proofs.lemmas.List.{take-append-drop, take_at, length-take-le}
use Rattle.std.proofs.lemmas.List.Elements.{All-nil, All-push, All-take}
use Rattle.std.proofs.lemmas.Option.{get_or_from_slice_get, slice_get_within}
use Rattle.insn.specs.declared.insn.Insn.{Insn}
use Rattle.round.specs.Scenario.{Scenario}
use Rattle.round.specs.Letters.{Letter}
use Rattle.round.proofs.Senders.{letter_stands}
use Rattle.signed.specs.Entries.{Dispatch, dispatched}
use Rattle.signed.specs.Kind.{signed_context, signed_entries, signed_relay}
use Rattle.signed.specs.Logs.{LogSeen, HasFewEntries, IsLogOf, begun_entries, entries_in}
use Rattle.signed.specs.Loyal.{loyal_entries}
use Rattle.signed.specs.Sending.{AreWritten, IsSent, context_behind, entries_behind, relay_behind, signatures}
use Rattle.signed.specs.Sent.{Sent, delivered, held_behind, sends, round_sent, sent_along, sent_in}
use Rattle.signed.proofs.Along.{sent_length, sent_more, sent_none}
use Rattle.signed.proofs.Behind.{relayed_behind, told_behind}

-- Letters with at most eight entries are letters that a campaign allows.
few_written : (s : Scenario) (closed : List (List Letter)) → All (λ row. All HasFewEntries row) closed → AreWritten s closed
few_written s closed few k g row l at lt of =
    let here : All HasFewEntries row = subst (λ (r : List Letter). All HasFewEntries r) (get_or_from_slice_get closed k row row at) (few k row (slice_get_within closed k row at)) in
    let there = letter_stands row g l of in
    inr (subst (λ (m : Letter). HasFewEntries m) (get_or_from_slice_get row there.0 l l there.1) (here there.0 l (slice_get_within row there.0 l there.1)))

-- The chains of further letters come after the chains that were sent already.
along_behind : (s : Scenario) (sent : Sent) (rows : List (List Letter)) → (rest : Sent) × (sent_along s sent rows ≡ sent ++ rest)
along_behind s sent [] = ([], sym (append-nil sent))
along_behind s sent (row ∷ rows) =
    let more = along_behind s (sent ++ round_sent s sent row ∷ []) rows in
    (round_sent s sent row ∷ more.0, more.1 ∙ append_assoc sent (round_sent s sent row ∷ []) more.0)

along_append : (s : Scenario) (sent : Sent) (rows more : List (List Letter)) → sent_along s sent (rows ++ more) ≡ sent_along s (sent_along s sent rows) more
along_append s sent [] more = refl
along_append s sent (row ∷ rows) more = along_append s (sent ++ round_sent s sent row ∷ []) rows more

-- The chains of the first rounds are those that the letters of these rounds send.
pub sent_front : (s : Scenario) (closed : List (List Letter)) (k : ℕ) → k ≤ length closed → take k (sent_in s closed) ≡ sent_in s (take k closed)
unfolding sent_in
sent_front s closed k le =
    let front = take k closed in
    let all : sent_along s [] closed ≡ sent_along s (sent_along s [] front) (drop k closed) =
    ap (sent_along s []) (sym (take-append-drop k closed)) ∙ along_append s [] front (drop k closed) in
    let behind = along_behind s (sent_along s [] front) (drop k closed) in
    let long : length (sent_along s [] front) ≡ k = sent_length s front ∙ length-take-le k closed le in
    ap (take k) (all ∙ behind.1) ∙ take_at (sent_along s [] front) behind.0 k long

-- A new log is the log of no rounds.
pub log_begun : (s : Scenario) (log : LogSeen) → log.rounds ≡ 0 → log.sent ≡ [] → log.signers ≡ signatures s.generals s.commander → IsLogOf s [] log
log_begun s log rounds none signing = record {
  rounds = rounds;
  chains = none ∙ sym (sent_none s);
  signing = signing;
  few = All-nil (λ row. All HasFewEntries row);
}

-- After one more round the log is still that of all its letters.
pub log_more : (s : Scenario) (before : List (List Letter)) (letters : List Letter) (old new : LogSeen) (sendings : List (List Dispatch)) → IsLogOf s before old → new.rounds ≡ old.rounds + 1 →
    new.sent ≡ old.sent ++ sendings ∷ [] → sendings ≡ round_sent s old.sent letters → new.signers ≡ old.signers → All HasFewEntries letters → IsLogOf s (before ++ letters ∷ []) new
log_more s before letters old new sendings log rounds pushed sent signers few = record {
  rounds = (let e = log.rounds in omega (arith, length-append before (letters ∷ [])));
  chains = pushed ∙ ((λ i. log.chains i ++ (sent ∙ ap (λ (x : Sent). round_sent s x letters) log.chains) i ∷ []) ∙ sym (sent_more s before letters));
  signing = signers ∙ log.signing;
  few = All-push (λ row. All HasFewEntries row) before letters log.few few;
}

module _ (s : Scenario) (before : List (List Letter)) (log : LogSeen) (is : IsLogOf s before log) (k : ℕ) (le : k ≤ log.rounds) where
  within : k ≤ length before
  within = let e = is.rounds in omega arith

  pub front_is : take k log.sent ≡ sent_in s (take k before)
  front_is = ap (take k) is.chains ∙ sent_front s before k within

  pub front_length : length (take k log.sent) ≡ k
  front_length = ap length front_is ∙ (sent_length s (take k before) ∙ length-take-le k before within)

  -- The letters of the first rounds have sent the chains of these rounds.
  pub front_sent : IsSent s (take k log.sent)
  front_sent = (take k before, few_written s (take k before) (All-take (λ row. All HasFewEntries row) k before is.few), front_is)

  pub front_context : (g : ℕ) → context_behind s (take k log.sent) g ≡ signed_context s (take k before) g
  front_context g = ap (λ (x : Sent). context_behind s x g) front_is ∙ told_behind s (take k before) g

  pub front_relay : (g : ℕ) → relay_behind s (take k log.sent) g ≡ signed_relay s (take k before) g
  front_relay g = ap (λ (x : Sent). relay_behind s x g) front_is ∙ relayed_behind s (take k before) g

  front_loyal : (g : ℕ) → loyal_entries s.generals s.commander s.bound s.order (delivered (take k log.sent)) (suc (length (take k log.sent))) g ≡ signed_entries s (take k before) g
  front_loyal g =
      ap (λ (x : Sent). loyal_entries s.generals s.commander s.bound s.order (delivered x) (suc (length x)) g) front_is
      ∙ ap (λ (n : ℕ). loyal_entries s.generals s.commander s.bound s.order (delivered (sent_in s (take k before))) (suc n) g) (sent_length s (take k before))

  pub front_entries : (g : ℕ) (o : Option (List Insn)) → entries_behind s (take k log.sent) g o ≡ begun_entries s (take k before) g o
  front_entries g None = front_loyal g
  front_entries g (Some program) = refl

-- A letter sends what its entries send.
pub sends_by : (s : Scenario) (sent : Sent) (g : ℕ) (o : Option Letter) → dispatched s.generals s.commander g (held_behind s.generals sent g) (entries_in o) ≡ sends s sent g o
sends_by s sent g None = refl
sends_by s sent g (Some l) = refl

-- The entries of a loyal general's outbox in a signed campaign (own; TOPLAS 1982, section 4, algorithm SM(m)).
use Rattle.std.specs.Prelude.{ℕ, zero, suc, ◌≡◌, ◌==◌, ◌^◌, nat_le, not, cond, ◌&&◌, List, [], ◌∷◌, ◌++◌, map, length, sum_by}
use Rattle.label.specs.Labels.{on, others}
use Rattle.signed.specs.Chains.{Chain}
use Rattle.signed.specs.Accepted.{Deliveries, came, held, counts, accepted, loyal_chains}
use Rattle.signed.specs.Entries.{Entry, Sign, Pass, dispatched, to_all_others}

-- Returns the generals who are not in the list, as a set: bit `g` is set for general `g`.
abbrev pub bits_but : ℕ → List ℕ → ℕ
bits_but n signers = sum_by (λ g. 2 ^ g) (others n signers)

-- Returns the entries by which general `g` passes on chains of round `k`, each to all who have not signed it. For each
-- order that is not in `seen`, he passes on the first chain that counts for him. `place` is the index of the first of
-- these chains among those that he holds.
abbrev pub passes : ℕ → ℕ → ℕ → ℕ → List ℕ → List Chain → List Entry
passes n k g place seen [] = []
passes n k g place seen (ch ∷ xs) =
    cond (counts k g ch && not (on seen ch.order))
    (Pass place (bits_but n (ch.signers ++ g ∷ [])) ∷ passes n k g (suc place) (ch.order ∷ seen) xs)
    (passes n k g (suc place) seen xs)

-- Returns the entries of a loyal general `g` in a round. In round 1 the commander signs his order, for all others. In
-- rounds 2 to m + 1 a lieutenant passes on, for each order that he accepted in the round before, the first chain that
-- brought it.
unfoldable pub loyal_entries : ℕ → ℕ → ℕ → ℕ → Deliveries → ℕ → ℕ → List Entry
loyal_entries n c m order S zero g = []
loyal_entries n c m order S (suc zero) g = cond (g == c) (Sign order (bits_but n (g ∷ [])) ∷ []) []
loyal_entries n c m order S (suc (suc r)) g =
    let last = passes n (suc r) g (length (held n S (suc r) g)) (accepted n S r g) (came n S (suc r) g) in
    cond (g == c) [] (cond (nat_le (suc r) m) last [])

-- States that a loyal general's entries send exactly the chains that SM(m) has him sign, each to all who have not
-- signed it.
abbrev pub LoyalEntriesAreSent : Type 0
LoyalEntriesAreSent = (n c m order : ℕ) (S : Deliveries) (r g : ℕ) →
    dispatched n c g (held n S r g) (loyal_entries n c m order S r g)
    ≡ map (to_all_others n) (loyal_chains n c m order S r g)

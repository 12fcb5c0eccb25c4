-- The chains that a general receives, those that count for him, and the chains that a loyal general then signs (TOPLAS
-- 1982, section 4, algorithm SM(m)).
use Rattle.std.specs.Prelude.{ℕ, zero, suc, ◌==◌, nat_le, Bool, not, cond, ◌&&◌, List, [], ◌∷◌, ◌++◌, map, filter, flat_map, length}
use Rattle.label.specs.Labels.{on, generals}
use Rattle.signed.specs.Chains.{Chain, orders, signed_alone, signed_also}

-- The chains that were sent, given by round (counted from 1), sender and receiver. They are in the order of the
-- sender's entries.
abbrev pub Deliveries : Type 0
Deliveries = ℕ → ℕ → ℕ → List Chain

-- Returns the chains that general `p` received in round `r`, by sender.
abbrev pub came : ℕ → Deliveries → ℕ → ℕ → List Chain
came n S r p = flat_map (λ g. S r g p) (generals n)

-- Returns the chains that general `p` received in rounds before a given one, by round and sender. The same chain may
-- occur more than once.
unfoldable pub held : ℕ → Deliveries → ℕ → ℕ → List Chain
held n S zero p = []
held n S (suc r) p = held n S r p ++ came n S r p

-- Returns whether a chain counts for general `p` in round `k`: it has exactly `k` signatures, and none of them is his.
abbrev pub counts : ℕ → ℕ → Chain → Bool
counts k p ch = (length ch.signers == k) && not (on ch.signers p)

-- Returns those chains that general `p` received in round `k` and that count for him.
abbrev pub counted : ℕ → Deliveries → ℕ → ℕ → List Chain
counted n S k p = filter (counts k p) (came n S k p)

-- Returns for each order that is not in `seen` the first of these chains that has it.
abbrev pub firsts : List ℕ → List Chain → List Chain
firsts seen [] = []
firsts seen (ch ∷ xs) = cond (on seen ch.order) (firsts seen xs) (ch ∷ firsts (ch.order ∷ seen) xs)

-- Returns the orders that general `p` accepts in the first `r` rounds, in the order of acceptance.
unfoldable pub accepted : ℕ → Deliveries → ℕ → ℕ → List ℕ
accepted n S zero p = []
accepted n S (suc r) p = accepted n S r p ++ orders (firsts (accepted n S r p) (counted n S (suc r) p))

-- Returns the chains by which general `p` accepts new orders in round `r` + 1, one for each order.
abbrev pub added : ℕ → Deliveries → ℕ → ℕ → List Chain
added n S r p = firsts (accepted n S r p) (counted n S (suc r) p)

-- Returns the decision of a lieutenant who accepted these orders: the order if there is exactly one, otherwise 0
-- (RETREAT).
abbrev pub decided : List ℕ → ℕ
decided [] = 0
decided (v ∷ []) = v
decided (v ∷ w ∷ vs) = 0

-- Returns the chains that a loyal general `g` signs in a round. In round 1 the commander signs his order. In each of
-- the rounds 2 to m + 1 a lieutenant signs the chains by which he accepted orders in the round before.
unfoldable pub loyal_chains : ℕ → ℕ → ℕ → ℕ → Deliveries → ℕ → ℕ → List Chain
loyal_chains n c m order S zero g = []
loyal_chains n c m order S (suc zero) g = cond (g == c) (signed_alone order c ∷ []) []
loyal_chains n c m order S (suc (suc r)) g =
    cond (g == c) [] (cond (nat_le (suc r) m) (map (λ ch. signed_also ch g) (added n S r g)) [])

-- Computed examples of what is no chain or does not count.
use Rattle.std.proofs.Common.{◌≡◌, true, false, arith, [], ◌∷◌, refl, None, Some}
use Rattle.signed.specs.Chains.{IsChain, begin, prolong}
use Rattle.signed.specs.Accepted.{counts, firsts, decided}
use Rattle.signed.specs.Entries.{receivers_in}

-- A chain of the wrong length does not count, and neither does one that the receiver has signed.
one_in_first : counts 1 1 (record { order = 7; signers = 0 ∷ [] }) ≡ true
one_in_first = refl

one_in_second : counts 2 1 (record { order = 7; signers = 0 ∷ [] }) ≡ false
one_in_second = refl

two_in_first : counts 1 1 (record { order = 7; signers = 0 ∷ 2 ∷ [] }) ≡ false
two_in_first = refl

own_in_second : counts 2 1 (record { order = 7; signers = 0 ∷ 1 ∷ [] }) ≡ false
own_in_second = refl

-- A chain with one signature twice is none, and neither is one that the commander has not signed first.
twice_no_chain : IsChain 4 0 (record { order = 7; signers = 0 ∷ 1 ∷ 1 ∷ [] }) → ⊥
twice_no_chain h = let d : false ≡ true = h.distinct in cc

headless_no_chain : IsChain 4 0 (record { order = 7; signers = 1 ∷ 0 ∷ [] }) → ⊥
headless_no_chain h = absurd (let f : 1 ≡ 0 = h.first in omega arith)

-- So nobody extends a chain that he has signed, and only the commander begins one.
not_twice : prolong (record { order = 7; signers = 0 ∷ 1 ∷ [] }) 1 ≡ None
not_twice = refl

begun_by_commander : begin 0 0 7 ≡ Some (record { order = 7; signers = 0 ∷ [] })
begun_by_commander = refl

begun_by_another : begin 0 1 7 ≡ None
begun_by_another = refl

-- Of two chains with one order, the first one held is extended. Of several orders, the first chains are extended, in
-- the order in which they are held.
first_prolonged : firsts (5 ∷ []) (record { order = 7; signers = 0 ∷ 3 ∷ [] } ∷ record { order = 5; signers = 0 ∷ 3 ∷ [] } ∷ record { order = 9; signers = 0 ∷ 4 ∷ [] } ∷ record { order = 7; signers = 0 ∷ 4 ∷ [] } ∷ [])
    ≡ record { order = 7; signers = 0 ∷ 3 ∷ [] } ∷ record { order = 9; signers = 0 ∷ 4 ∷ [] } ∷ []
first_prolonged = refl

-- A receiver who is no general, or who has signed the chain, is left out.
dropped : receivers_in 3 8191 (record { order = 7; signers = 0 ∷ 1 ∷ [] }) ≡ 2 ∷ []
dropped = refl

-- One order is decided on. If there is none, or there are two, the decision is RETREAT.
decided_none : decided [] ≡ 0
decided_none = refl

decided_one : decided (7 ∷ []) ≡ 7
decided_one = refl

decided_two : decided (7 ∷ 9 ∷ []) ≡ 0
decided_two = refl

-- Which chains a general of a signed campaign sent another in a round, and which ones a loyal general in his place
-- would have sent (TOPLAS 1982, algorithm SM(m)).
use Rattle.std.specs.Prelude.{ℕ, ◌==◌, Bool, not, ◌&&◌, List, filter, bytes_eq}
use Rattle.std.specs.List.{list_any}
use Rattle.label.specs.Labels.{on}
use Rattle.world.specs.Chronicle.{Chronicle}
use Rattle.signed.specs.Chains.{Chain}
use Rattle.signed.specs.Accepted.{loyal_chains}
use Rattle.signed.specs.Sent.{delivered, sent_in}

-- Returns whether both chains have the same order, and the same signers in the same sequence.
abbrev pub is_same : Chain → Chain → Bool
is_same one other = one.order == other.order && bytes_eq one.signers other.signers

abbrev pub is_among : List Chain → Chain → Bool
is_among xs ch = list_any (is_same ch) xs

-- Returns the chains that `g` sent `p` in a round.
abbrev pub sent_to : Chronicle → ℕ → ℕ → ℕ → List Chain
sent_to c round g p = delivered (sent_in c.scenario c.letters) round g p

-- Returns the chains that a loyal general in the place of `g` would have signed in a round, given what `g` had
-- received.
abbrev pub owed : Chronicle → ℕ → ℕ → List Chain
owed c round g =
    let s = c.scenario in
    loyal_chains s.generals s.commander s.bound s.order (delivered (sent_in s c.letters)) round g

-- Returns the chains that a loyal general in the place of `g` would have sent `p`: those that he would have signed and
-- `p` has not.
abbrev pub owed_to : Chronicle → ℕ → ℕ → ℕ → List Chain
owed_to c round g p = filter (λ ch. not (on ch.signers p)) (owed c round g)

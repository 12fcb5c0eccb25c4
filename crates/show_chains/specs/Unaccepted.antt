-- The chains by which a lieutenant of a signed campaign accepts no order, and why (TOPLAS 1982, algorithm SM(m)).
use Rattle.std.specs.Prelude.{ℕ, ◌+◌, Bool, ◌&&◌, if◌then◌else◌, List, [], ◌++◌, flat_map, codes}
use Rattle.std.specs.Fmt.{decimal}
use Rattle.std.specs.List.{range_with_len}
use Rattle.label.specs.Labels.{on}
use Rattle.world.specs.Chronicle.{Chronicle}
use Rattle.signed.specs.Accepted.{counts}
use Rattle.signed.specs.Chains.{Chain}
use Rattle.signed.specs.Explained.{chains_of}
use Rattle.show_chains.specs.Owed.{is_among, sent_to}
use Rattle.show_chains.specs.Words.{chain_words}

-- Returns whether lieutenant p accepts an order by this chain, which he received in this round. `brought` are all chains
-- by which he accepts orders.
abbrev pub accepts : List Chain → ℕ → ℕ → Chain → Bool
accepts brought round p ch = counts round p ch && is_among brought ch

-- Returns why lieutenant p accepts no order by this chain, which he received in this round. If the chain counts for him,
-- another chain brought him its order.
abbrev pub reason : ℕ → ℕ → Chain → List ℕ
reason round p ch =
    if counts round p ch then codes "known already"
    else if on ch.signers p then codes "he signed it himself"
    else codes "too late, not enough signatures"

-- Writes a line such as `round 2: general 3 sends 1 signed 0.3: known already`.
unfoldable pub reason_line : ℕ → ℕ → ℕ → Chain → List ℕ
reason_line round g p ch = codes "round " ++ decimal round ++ codes ": general " ++ decimal g ++ codes " sends "
    ++ chain_words ch ++ codes ": " ++ reason round p ch ++ codes "\n"

-- Writes this line if p accepts no order by the chain.
abbrev pub line_if : List Chain → ℕ → ℕ → ℕ → Chain → List ℕ
line_if brought round p g ch = if accepts brought round p ch then [] else reason_line round g p ch

-- Writes the lines for the chains that g sent p in a round, for all chains that p received in round `before` + 1, and
-- for all that he received.
abbrev pub lines_from : Chronicle → List Chain → ℕ → ℕ → ℕ → List ℕ
lines_from c brought round p g = flat_map (line_if brought round p g) (sent_to c round g p)

abbrev pub lines_in : Chronicle → List Chain → ℕ → ℕ → List ℕ
lines_in c brought p before =
    flat_map (lines_from c brought (before + 1) p) (range_with_len 0 c.scenario.generals)

unfoldable pub unaccepted_lines : Chronicle → ℕ → List ℕ
unaccepted_lines c p =
    flat_map (lines_in c (chains_of c p) p) (range_with_len 0 (c.scenario.bound + 1))

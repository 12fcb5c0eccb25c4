-- The strokes of a signed campaign's diagram. A stroke is for the chains with one order that one general sends another
-- in a round, and that a loyal general would also send, or for those that he would not.
use Rattle.std.specs.Prelude.{ℕ, suc, ◌+◌, ◌==◌, Bool, true, false, not, List, [], ◌∷◌, ◌++◌, map, filter, flat_map, length, Option, None, Some}
use Rattle.std.specs.List.{range_with_len}
use Rattle.show_diagram.specs.declared.stroke.Stroke.{Stroke}
use Rattle.show_diagram.specs.Lists.{has_row}
use Rattle.show_diagram.specs.Order.{arranged}
use Rattle.world.specs.Chronicle.{Chronicle}
use Rattle.signed.specs.Chains.{Chain, orders}
use Rattle.signed.specs.Accepted.{firsts}
use Rattle.show_chains.specs.declared.stroke.Way.{Way}
use Rattle.show_chains.specs.Owed.{is_among, owed_to, sent_to}

-- A stroke together with its chains.
pub record Drawn : Type 0 where
  pub stroke : Stroke
  pub chains : List Chain

-- Returns the order if the first argument is true, otherwise `None`.
abbrev pub told_if : Bool → ℕ → Option ℕ
told_if true order = Some order
told_if false order = None

abbrev pub of_order : ℕ → List Chain → List Chain
of_order order chains = filter (λ ch. ch.order == order) chains

-- Returns the stroke for `labels` chains with this order, in row 0. `w` has its round, sender and receiver.
abbrev pub plain : Way → ℕ → ℕ → Stroke
plain w order labels = record {
  round = w.round;
  teller = w.teller;
  receiver = w.receiver;
  told = told_if w.sent order;
  differs = w.differs;
  labels = labels;
  row = 0;
}

-- Returns the stroke for those of these chains that have this order. `w` has its round, sender and receiver.
abbrev pub made : Way → List Chain → ℕ → Drawn
made w chains order = record {
  stroke = plain w order (length (of_order order chains));
  chains = of_order order chains;
}

-- Returns a stroke for each order of these chains, in the order of their first occurrence.
abbrev pub grouped : Way → List Chain → List Drawn
grouped w chains = map (made w chains) (orders (firsts [] chains))

-- Returns what the strokes from `g` to `p` in a round have in common (`way`), and these strokes. The first are for
-- chains that a loyal general would also send, then come those for chains that he would not send, then those for chains
-- that only he would send.
abbrev pub way : ℕ → ℕ → ℕ → Bool → Bool → Way
way round p g sent differs = record { round = round; teller = g; receiver = p; sent = sent; differs = differs }

abbrev pub told_between : ℕ → ℕ → ℕ → List Chain → List Chain → List Drawn
told_between round p g sent owed =
    grouped (way round p g true false) (filter (is_among owed) sent)
    ++ grouped (way round p g true true) (filter (λ ch. not (is_among owed ch)) sent)
    ++ grouped (way round p g false true) (filter (λ ch. not (is_among sent ch)) owed)

abbrev pub between : Chronicle → ℕ → ℕ → ℕ → List Drawn
between c round p g = told_between round p g (sent_to c round g p) (owed_to c round g p)

-- Returns all strokes to p in a round, sorted by sender.
abbrev pub told_to : Chronicle → ℕ → ℕ → List Drawn
told_to c round p = flat_map (between c round p) (range_with_len 0 c.scenario.generals)

-- Returns a stroke with this number as its row, and strokes with rows numbered from `row` on.
abbrev pub in_row : Drawn → ℕ → Drawn
in_row x row = record { stroke = record x.stroke { row = row }; chains = x.chains }

abbrev pub numbered : List Drawn → ℕ → List Drawn
numbered [] row = []
numbered (x ∷ xs) row = in_row x row ∷ numbered xs (suc row)

-- Returns whether a stroke is a lie, which means that a loyal general would do otherwise, and who its sender is.
abbrev pub is_lie : Drawn → Bool
is_lie x = x.stroke.differs

abbrev pub sender : Drawn → ℕ
sender x = x.stroke.teller

-- Returns the strokes to `p` in a round in the order of their rows, with row numbers. They are sorted by sender. If
-- there are too many to be drawn, the lies come first.
abbrev pub list_to : Chronicle → ℕ → ℕ → List Drawn
list_to c round p = numbered (arranged is_lie sender (told_to c round p)) 0

-- Returns all strokes of a round, by receiver.
abbrev pub in_round : Chronicle → ℕ → List Drawn
in_round c round = flat_map (list_to c round) (range_with_len 0 c.scenario.generals)

-- Returns all strokes of round `before` + 1, and all strokes of a campaign.
abbrev pub behind : Chronicle → ℕ → List Drawn
behind c before = in_round c (before + 1)

unfoldable pub strokes_of : Chronicle → List Drawn
strokes_of c = flat_map (behind c) (range_with_len 0 (c.scenario.bound + 1))

-- Returns those strokes whose rows are drawn.
abbrev pub with_rows : List Drawn → List Drawn
with_rows xs = filter (λ x. has_row x.stroke) xs

-- Returns the same strokes without their chains.
abbrev pub bare : List Drawn → List Stroke
bare xs = map (λ x. x.stroke) xs

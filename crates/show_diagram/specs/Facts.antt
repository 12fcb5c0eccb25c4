-- The messages of a campaign and the strokes that show them, by the message table t of the campaign's letters.
use Rattle.std.specs.Prelude.{ℕ, zero, suc, ◌+◌, not, List, [], ◌∷◌, ◌++◌, length}
use Rattle.std.specs.List.{flat_map}
use Rattle.label.specs.Labels.{others}
use Rattle.label.specs.Oral.{taken}
use Rattle.book.specs.Conditions.{is_told}
use Rattle.book.specs.Table.{MessageTable, told}
use Rattle.show_diagram.specs.declared.stroke.Stroke.{Stroke}
use Rattle.show_diagram.specs.declared.told_order.Telling.{Telling}
use Rattle.show_diagram.specs.Lists.{all_lists}

-- Returns the message of j to p about the label w. Its `differs` is false if j sends the order that he took for w.
abbrev pub telling_at : MessageTable → List ℕ → ℕ → ℕ → Telling
telling_at t w j p = record {
  round = length w + 1;
  teller = j;
  told = told t.messages (w ++ j ∷ []) p;
  differs = not (is_told (taken (told t.messages) w j) (told t.messages (w ++ j ∷ []) p));
}

-- Returns the message of the commander to p. Its `differs` is false if he sends the order that he was given.
abbrev pub first_telling : MessageTable → ℕ → ℕ → Telling
first_telling t order p = record {
  round = 1;
  teller = t.commander;
  told = told t.messages (t.commander ∷ []) p;
  differs = not (is_told order (told t.messages (t.commander ∷ []) p));
}

-- Returns the messages that p received for the labels that extend w by 1 to k generals, sorted by their next general.
-- A label comes before the labels that extend it.
unfoldable pub tellings_below : MessageTable → ℕ → List ℕ → ℕ → List Telling
tellings_below t zero w p = []
tellings_below t (suc k) w p =
    flat_map (λ j. telling_at t w j p ∷ tellings_below t k (w ++ j ∷ []) p) (others t.generals (p ∷ w))

-- Returns the messages that p received for w extended by j, and for the labels that extend this label by 1 to k
-- generals.
abbrev pub tellings_by : MessageTable → ℕ → List ℕ → ℕ → ℕ → List Telling
tellings_by t k w p j = telling_at t w j p ∷ tellings_below t k (w ++ j ∷ []) p

-- Returns all messages that p received in a campaign whose commander was given `order`. The commander's message comes
-- first.
unfoldable pub tellings_of : MessageTable → ℕ → ℕ → List Telling
tellings_of t order p = first_telling t order p ∷ tellings_below t t.bound (t.commander ∷ []) p

-- Returns all strokes of a campaign whose commander was given `order`.
unfoldable pub strokes_of : MessageTable → ℕ → List Stroke
strokes_of t order = all_lists t.generals t.commander (t.bound + 1) (tellings_of t order)

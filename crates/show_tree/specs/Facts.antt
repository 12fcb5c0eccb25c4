-- What a picture says about a label w in the tree of lieutenant p, by a message table. Up to k further generals can
-- extend the label.
use Rattle.std.specs.Prelude.{ℕ, zero, suc, ◌+◌, ◌-◌, ◌*◌, ◌==◌, Bool, true, false, not, ◌&&◌, if◌then◌else◌, List, [], ◌∷◌, ◌++◌, length, is_none, Option, None, Some}
use Rattle.std.specs.List.{list_all}
use Rattle.combine.specs.declared.outcome.Outcome.{Outcome}
use Rattle.combine.specs.Rule.{outcome_of}
use Rattle.label.specs.Labels.{on, others}
use Rattle.label.specs.Oral.{taken}
use Rattle.book.specs.Conditions.{is_told}
use Rattle.book.specs.Explained.{list_of}
use Rattle.book.specs.Table.{MessageTable, told}
use Rattle.show_tree.specs.declared.node.Trust.{Trust}
use Rattle.show_tree.specs.declared.node.Trust.TheVariants.{Honest, Lie}
use Rattle.show_tree.specs.declared.node.Extent.{Extent}
use Rattle.show_tree.specs.declared.node.Extent.TheVariants.{Last, Open, Folded, Cut}
use Rattle.show_tree.specs.declared.node.View.{View}
use Rattle.show_tree.specs.declared.node.Node.{Node}

-- Returns the outcome of the list that p combines at w, or None if no general can extend w.
abbrev pub outcome_at : MessageTable → ℕ → List ℕ → ℕ → Option Outcome
outcome_at t k w p = if k == 0 then None else Some (outcome_of t.rule (list_of t (k - 1) w p))

-- Returns whether the message of j to p about w is known to be a lie. It is one if j is named as a traitor and does
-- not send the order that he took for w.
abbrev pub mark_at : MessageTable → List ℕ → List ℕ → ℕ → ℕ → Trust
mark_at t traitors w j p =
    if on traitors j && not (is_told (taken (told t.messages) w j) (told t.messages (w ++ j ∷ []) p))
    then Lie j (taken (told t.messages) w j) else Honest

-- Returns whether a mark says that no lie is known.
abbrev pub is_honest : Trust → Bool
is_honest Honest = true
is_honest _ = false

-- Returns whether two received orders are equal, or both are missing.
abbrev pub is_same : Option ℕ → Option ℕ → Bool
is_same None other = is_none other
is_same (Some order) other = is_told order other

-- Returns whether p received the same for w as for w extended by j, and the message of j is not known to be a lie.
abbrev pub tells : MessageTable → List ℕ → List ℕ → ℕ → ℕ → Bool
tells t traitors w j p =
    is_same (told t.messages (w ++ j ∷ []) p) (told t.messages w p) && is_honest (mark_at t traitors w j p)

-- Returns whether the labels below w can be folded into it: p received the same for w and for all labels that extend
-- it by up to k generals, and none of their messages is known to be a lie.
unfoldable pub is_alike : MessageTable → List ℕ → ℕ → List ℕ → ℕ → Bool
is_alike t traitors zero w p = true
is_alike t traitors (suc k) w p =
    list_all (λ j. tells t traitors w j p && is_alike t traitors k (w ++ j ∷ []) p) (others t.generals (p ∷ w))

-- Returns whether p received the same for w, for w extended by j, and for all labels that extend this longer label by
-- up to k generals. None of the messages after w may be known to be a lie.
abbrev pub is_alike_by : MessageTable → List ℕ → ℕ → List ℕ → ℕ → ℕ → Bool
is_alike_by t traitors k w j p = tells t traitors w j p && is_alike t traitors k (w ++ j ∷ []) p

-- Returns how many labels without p extend a label of `size` generals by 1 to k generals. Each general who is neither
-- on the label nor p extends it once, and each such label is extended again.
unfoldable pub below : ℕ → ℕ → ℕ → ℕ
below n size zero = 0
below n size (suc k) = (n - 1 - size) * (1 + below n (size + 1) k)

-- Returns whether the labels that extend w are shown. They are folded into w if they say the same as w and the view
-- allows it. Otherwise they are shown if they are not deeper than the view.
abbrev pub extent_at : MessageTable → List ℕ → View → ℕ → List ℕ → ℕ → Extent
extent_at t traitors view k w p =
    if k == 0 then Last
    else if view.folds && is_alike t traitors k w p then Folded (below t.generals (length w) k)
    else if view.depth == 0 then Cut (below t.generals (length w) k)
    else Open

-- Returns everything that a picture says about the label w. `mark` says whether its message is known to be a lie.
unfoldable pub node_at : MessageTable → List ℕ → View → Trust → ℕ → List ℕ → ℕ → Node
node_at t traitors view mark k w p =
    record {
      label = w;
      told = told t.messages w p;
      outcome = outcome_at t k w p;
      mark = mark;
      extent = extent_at t traitors view k w p;
    }

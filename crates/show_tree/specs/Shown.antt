-- The labels in the tree of lieutenant p that a picture shows (Lynch, Distributed Algorithms, section 6.2).
use Rattle.std.specs.Prelude.{ℕ, zero, suc, ◌-◌, Bool, true, false, if◌then◌else◌, List, [], ◌∷◌, ◌++◌, Option, None, Some}
use Rattle.std.specs.List.{flat_map}
use Rattle.label.specs.Labels.{on, others}
use Rattle.book.specs.Conditions.{is_told}
use Rattle.book.specs.Table.{MessageTable, told}
use Rattle.show_tree.specs.declared.node.Trust.{Trust}
use Rattle.show_tree.specs.declared.node.Trust.TheVariants.{Honest, Lie, Traitor}
use Rattle.show_tree.specs.declared.node.Extent.{Extent}
use Rattle.show_tree.specs.declared.node.Extent.TheVariants.{Open}
use Rattle.show_tree.specs.declared.node.View.{View}
use Rattle.show_tree.specs.declared.node.Node.{Node}
use Rattle.show_tree.specs.Facts.{mark_at, node_at}

-- Returns whether the labels that extend a label are shown.
abbrev pub is_open : Extent → Bool
is_open Open = true
is_open _ = false

-- Returns the view for the labels one level further down, which shows one level less.
abbrev pub deeper : View → View
deeper view = record { depth = view.depth - 1; folds = view.folds; order = view.order }

-- Returns the view with `order` as the order that the commander was given.
abbrev pub ordered : ℕ → View → View
ordered order view = record { depth = view.depth; folds = view.folds; order = Some order }

-- Returns whether the message of a commander who is named as a traitor is a lie: it is known not to be the order that
-- he was given.
abbrev pub commander_mark : Option ℕ → ℕ → Option ℕ → Trust
commander_mark None commander told = Traitor
commander_mark (Some order) commander told = if is_told order told then Honest else Lie commander order

-- Returns whether the commander's own message is known to be a lie. `order` is the order that he was given, if it is
-- known.
abbrev pub root_mark : List ℕ → Option ℕ → ℕ → Option ℕ → Trust
root_mark traitors order commander told = if on traitors commander then commander_mark order commander told else Honest

-- Returns what a picture says about the commander's message to p.
abbrev pub root_node : MessageTable → List ℕ → View → ℕ → Node
root_node t traitors view p =
    node_at t traitors view (root_mark traitors view.order t.commander (told t.messages (t.commander ∷ []) p)) t.bound
    (t.commander ∷ []) p

-- Returns a label, followed by the labels `nodes` below it if these are shown.
abbrev pub with_those : Node → List Node → List Node
with_those node nodes = node ∷ (if is_open node.extent then nodes else [])

-- Returns the shown labels among the labels that extend w by 1 to k generals. They are sorted by their next general,
-- and a label comes before the labels that extend it.
unfoldable pub nodes_below : MessageTable → List ℕ → View → ℕ → List ℕ → ℕ → List Node
nodes_below t traitors view zero w p = []
nodes_below t traitors view (suc k) w p =
    flat_map (λ j. with_those (node_at t traitors view (mark_at t traitors w j p) k (w ++ j ∷ []) p)
    (nodes_below t traitors (deeper view) k (w ++ j ∷ []) p))
    (others t.generals (p ∷ w))

-- Returns w extended by j and the labels below it, if they are shown.
abbrev pub nodes_by : MessageTable → List ℕ → View → ℕ → List ℕ → ℕ → ℕ → List Node
nodes_by t traitors view k w j p = with_those (node_at t traitors view (mark_at t traitors w j p) k (w ++ j ∷ []) p)
    (nodes_below t traitors (deeper view) k (w ++ j ∷ []) p)

-- Returns all labels in the tree of p that are shown. The commander's own label is the first.
unfoldable pub nodes_of : MessageTable → List ℕ → View → ℕ → List Node
nodes_of t traitors view p =
    with_those (root_node t traitors view p)
    (nodes_below t traitors (deeper view) t.bound (t.commander ∷ []) p)

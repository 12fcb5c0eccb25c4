-- Laws of diagrams. Each is the contract of a function of this crate.
use Rattle.std.specs.Prelude.{ℕ, ◌+◌, ◌≡◌, ◌≢◌, ◌<◌, ◌≤◌, ◌↔◌, ◌==◌, ◌&&◌, Bool, true, false, if◌then◌else◌, List, [], ◌∷◌, ◌++◌, length, map, take, drop, count_by, codes, Some}
use Rattle.std.specs.List.{All, list_any, range_with_len}
use Rattle.label.specs.Oral.{taken}
use Rattle.html.specs.Grammar.{IsElement}
use Rattle.book.specs.Table.{MessageTable, told}
use Rattle.round.specs.Letters.{messages}
use Rattle.round.specs.Scenario.{Scenario, IsScenario, is_traitor}
use Rattle.book.specs.WrittenLaws.{IsTableOf}
use Rattle.world.specs.Agreement.{IsFinished}
use Rattle.world.specs.Chronicle.{Chronicle}
use Rattle.world.specs.World.{opening, run}
use Rattle.world.specs.declared.event.Event.{Event}
use Rattle.show_diagram.specs.declared.stroke.Stroke.{Stroke}
use Rattle.show_diagram.specs.declared.told_order.Telling.{Telling}
use Rattle.show_diagram.specs.Facts.{first_telling, strokes_of, telling_at, tellings_of}
use Rattle.show_diagram.specs.Left.{is_left, is_left_lie}
use Rattle.show_diagram.specs.Lists.{is_lie_to, is_same, is_to, labels_of, list_to, with_rows}
use Rattle.show_diagram.specs.Order.{most_rows}
use Rattle.show_diagram.specs.Svg.{svg_text}
use Rattle.show_diagram.specs.Words.{kind}

-- States that every diagram is one XML element followed by a line feed.
abbrev pub DiagramsAreElements : Type 0
DiagramsAreElements =
    (t : MessageTable) (c : Chronicle) → (text : List ℕ) × IsElement text × (svg_text t c ≡ text ++ codes "\n")

-- States that t is the message table of a finished campaign of the scenario s, with all messages of its letters.
pub record IsFinishedTable (s : Scenario) (events : List Event) (t : MessageTable) : Type 0 where
  pub scenario : IsScenario s
  pub finished : IsFinished (run (opening s) events)
  pub table : IsTableOf (messages (run (opening s) events).closed) s.generals s.bound s.commander s.rule t

-- States that the stroke is marked as one that a faithful general would send, so that it is not drawn in red.
abbrev pub IsDrawnHonest : Stroke → Type 0
IsDrawnHonest stroke = (stroke.differs ≡ false) × (kind stroke ≡ codes "told")

-- States that no stroke of a loyal general is drawn in red.
abbrev pub BlamesTraitors : Scenario → MessageTable → Type 0
BlamesTraitors s t = All (λ stroke. is_traitor s stroke.teller ≡ false → IsDrawnHonest stroke) (strokes_of t s.order)

-- States that in a finished campaign only strokes of traitors are drawn in red. A message's `differs` is false
-- exactly if it has the right order: from the commander the order that he was given, and from another general the
-- order that he took.
pub record OnlyTraitorsDiffer : Type 0 where
  pub drawn : (s : Scenario) (events : List Event) (t : MessageTable) → IsFinishedTable s events t →
      BlamesTraitors s t
  pub first : (t : MessageTable) (order p : ℕ) →
      ((first_telling t order p).differs ≡ false) ↔ (told t.messages (t.commander ∷ []) p ≡ Some order)
  pub relayed : (t : MessageTable) (w : List ℕ) (j p : ℕ) →
      ((telling_at t w j p).differs ≡ false)
      ↔ (told t.messages (w ++ j ∷ []) p ≡ Some (taken (told t.messages) w j))

-- Returns the message that a stroke shows.
abbrev pub told_by : Stroke → Telling
told_by stroke = record { round = stroke.round; teller = stroke.teller; told = stroke.told; differs = stroke.differs }

-- Returns whether a stroke shows the given message to p.
abbrev pub is_of : ℕ → Telling → Stroke → Bool
is_of p telling stroke = stroke.receiver == p && is_same telling (told_by stroke)

-- Returns the number of labels for which the receiver of a stroke received its message.
abbrev pub labels_told : MessageTable → ℕ → Stroke → ℕ
labels_told t order stroke = labels_of (tellings_of t order stroke.receiver) (told_by stroke)

-- States that there is exactly one stroke for each message to lieutenant p, and none for other messages. Messages
-- with the same round, sender, order and `differs` count as one. A stroke's `labels` is the number of labels for
-- which its receiver received its message.
pub record StrokesAreExact : Type 0 where
  pub once : (t : MessageTable) (order p : ℕ) (telling : Telling) → p < t.generals → p ≢ t.commander →
      count_by (is_of p telling) (strokes_of t order)
      ≡ (if list_any (is_same telling) (tellings_of t order p) then 1 else 0)
  pub wide : (t : MessageTable) (order : ℕ) →
      All (λ stroke. stroke.labels ≡ labels_told t order stroke) (strokes_of t order)

-- Returns the strokes in the list of what lieutenant p received in a round.
abbrev pub list_in : MessageTable → ℕ → ℕ → ℕ → List Stroke
list_in t order round p = list_to round p (strokes_of t order)

-- Returns the strokes in the list of what lieutenant p received in a round that are drawn.
abbrev pub drawn_in : MessageTable → ℕ → ℕ → ℕ → List Stroke
drawn_in t order round p = list_to round p (with_rows (strokes_of t order))

-- Returns whether a stroke is a lie: a faithful general would send something else.
abbrev pub has_lied : Stroke → Bool
has_lied stroke = stroke.differs

-- Returns whether a stroke is a lie of general j.
abbrev pub has_lied_as : ℕ → Stroke → Bool
has_lied_as j stroke = stroke.differs && stroke.teller == j

-- States which rows of the list of what a lieutenant received in a round are drawn. The rows are numbered from 0, and
-- the first 24 are drawn. If a lie is not drawn, all drawn rows are lies. Each general who lies has a drawn row. The
-- number of drawn strokes and the reported number of others add up to the number of all strokes, and likewise for the
-- lies.
pub record RowsAreExact : Type 0 where
  pub numbered : (t : MessageTable) (order round p : ℕ) → p < t.generals → p ≢ t.commander →
      map (λ (stroke : Stroke). stroke.row) (list_in t order round p)
      ≡ range_with_len 0 (length (list_in t order round p))
  pub first : (t : MessageTable) (order round p : ℕ) → p < t.generals → p ≢ t.commander →
      drawn_in t order round p ≡ take most_rows (list_in t order round p)
  pub lies : (t : MessageTable) (order round p : ℕ) → p < t.generals → p ≢ t.commander →
      list_any has_lied (drop most_rows (list_in t order round p)) ≡ true →
      All (λ stroke. stroke.differs ≡ true) (drawn_in t order round p)
  pub liars : (t : MessageTable) (order round p j : ℕ) → p < t.generals → p ≢ t.commander →
      t.commander < t.generals → t.generals ≤ most_rows →
      list_any (has_lied_as j) (list_in t order round p) ≡ true →
      list_any (has_lied_as j) (drawn_in t order round p) ≡ true
  pub counted : (strokes : List Stroke) (round p : ℕ) →
      count_by (is_to round p) (with_rows strokes) + count_by (is_left round p) strokes
      ≡ count_by (is_to round p) strokes
  pub lies_counted : (strokes : List Stroke) (round p : ℕ) →
      count_by (is_lie_to round p) (with_rows strokes) + count_by (is_left_lie round p) strokes
      ≡ count_by (is_lie_to round p) strokes

-- The lists of what a lieutenant received, one for each round. A list has a row for each message that a general sent
-- him, for any number of labels.
use Rattle.std.specs.Prelude.{ℕ, ◌+◌, ◌==◌, nat_lt, Bool, ◌&&◌, if◌then◌else◌, List, [], ◌∷◌, count_by, filter, flat_map, nat_eq, unwrap_or}
use Rattle.std.specs.Bool.{beq}
use Rattle.std.specs.HashMap.{get, HashMap}
use Rattle.std.specs.List.{range_with_len}
use Rattle.std.specs.Option.{option_eq}
use Rattle.std.specs.declared.hash.BuildHasherDefault.{BuildHasherDefault}
use Rattle.std.specs.declared.hash.FoldHasher.{FoldHasher}
use Rattle.show_diagram.specs.declared.stroke.Stroke.{Stroke}
use Rattle.show_diagram.specs.declared.told_order.Telling.{Telling}
use Rattle.show_diagram.specs.Order.{arranged, firsts, most_rows}

-- Returns whether two messages are shown in one row: they have the same round, sender, order and `differs`.
abbrev pub is_same : Telling → Telling → Bool
is_same one other =
    one.round == other.round
    && (one.teller == other.teller
    && (option_eq nat_eq one.told other.told && beq one.differs other.differs))

-- Returns whether a message is a lie: a faithful general would send something else.
abbrev pub is_lie : Telling → Bool
is_lie telling = telling.differs

-- Returns the sender of a message.
abbrev pub teller : Telling → ℕ
teller telling = telling.teller

-- Returns for how many labels a message was sent, according to `counts`, or 0 if it is not there.
abbrev pub count_of : HashMap Telling ℕ (BuildHasherDefault FoldHasher) → Telling → ℕ
count_of counts telling = unwrap_or (get is_same counts telling) 0

-- Returns the stroke that shows a message to p, which was sent for `labels` labels, in the given row.
abbrev pub stroke_of : ℕ → Telling → ℕ → ℕ → Stroke
stroke_of p telling labels row = record {
  round = telling.round;
  teller = telling.teller;
  receiver = p;
  told = telling.told;
  differs = telling.differs;
  labels = labels;
  row = row;
}

-- Returns the strokes that show these messages to p, in rows numbered from `row` on. `labels` gives for each message
-- how many labels it was sent for.
unfoldable pub strokes_from : ℕ → (Telling → ℕ) → ℕ → List Telling → List Stroke
strokes_from p labels row [] = []
strokes_from p labels row (x ∷ xs) = stroke_of p x (labels x) row ∷ strokes_from p labels (row + 1) xs

-- Returns whether a message was sent in the round.
abbrev pub is_in : ℕ → Telling → Bool
is_in round telling = telling.round == round

-- Returns the number of labels for which the message x was sent, according to the list of all messages.
abbrev pub labels_of : List Telling → Telling → ℕ
labels_of tellings x = count_by (is_same x) tellings

-- Returns the strokes in the list of what p received in a round, where `tellings` are all messages to p.
abbrev pub list_of : ℕ → List Telling → ℕ → List Stroke
list_of p tellings round =
    strokes_from p (labels_of tellings) 0
    (arranged is_lie teller (filter (is_in round) (firsts is_same [] tellings)))

-- Returns the strokes in the list of what p received in round `before + 1`.
abbrev pub list_behind : ℕ → List Telling → ℕ → List Stroke
list_behind p tellings before = list_of p tellings (before + 1)

-- Returns the strokes in the lists of what p received in the first `rounds` rounds.
abbrev pub lists_of : ℕ → List Telling → ℕ → List Stroke
lists_of p tellings rounds = flat_map (list_behind p tellings) (range_with_len 0 rounds)

-- Returns the strokes in the lists of what p received, or none if p is the commander c. `tellings` gives the messages
-- to each general.
abbrev pub lists_to : ℕ → ℕ → (ℕ → List Telling) → ℕ → List Stroke
lists_to c rounds tellings p = if p == c then [] else lists_of p (tellings p) rounds

-- Returns the strokes in the lists of what each of n generals received, except the commander c.
abbrev pub all_lists : ℕ → ℕ → ℕ → (ℕ → List Telling) → List Stroke
all_lists n c rounds tellings = flat_map (lists_to c rounds tellings) (range_with_len 0 n)

-- Returns whether a stroke is in the list of what p received in the round.
abbrev pub is_to : ℕ → ℕ → Stroke → Bool
is_to round p stroke = stroke.round == round && stroke.receiver == p

-- Returns whether a stroke is in the list of what p received in the round, and is a lie.
abbrev pub is_lie_to : ℕ → ℕ → Stroke → Bool
is_lie_to round p stroke = stroke.differs && is_to round p stroke

-- Returns the strokes that are in the list of what p received in the round.
abbrev pub list_to : ℕ → ℕ → List Stroke → List Stroke
list_to round p strokes = filter (is_to round p) strokes

-- Returns whether a stroke is drawn: its row number is below 24.
abbrev pub has_row : Stroke → Bool
has_row stroke = nat_lt stroke.row most_rows

-- Returns the strokes that are drawn.
abbrev pub with_rows : List Stroke → List Stroke
with_rows strokes = filter has_row strokes

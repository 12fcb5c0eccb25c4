-- The program of a traitor who sends what a message table says, in assembly (docs/SANDBOX.md).
use Rattle.std.specs.Prelude.{ℕ, ◌==◌, if◌then◌else◌, List, [], ◌∷◌, ◌++◌, length, get_or, codes, Option, None, Some}
use Rattle.std.specs.Fmt.{decimal}
use Rattle.std.specs.List.{flat_map, range_with_len}
use Rattle.label.specs.Labels.{others}
use Rattle.label.specs.Relay.{relay}
use Rattle.label.specs.declared.shape.Shape.{Shape}
use Rattle.book.specs.Explained.{dotted}
use Rattle.book.specs.Table.{MessageTable, told}

-- Writes the line of the message table for an order, as a comment.
abbrev pub comment_line : List ℕ → ℕ → ℕ → List ℕ
comment_line label p order =
    codes "; tell " ++ label ++ codes " " ++ decimal p ++ codes " " ++ decimal order ++ codes "\n"

-- Writes the call of the helper `send` that sends receiver p an order about the label of this rank.
abbrev pub send_call : ℕ → ℕ → ℕ → List ℕ
send_call rank p order = codes "mov r1, " ++ decimal rank ++ codes "\nmov r2, " ++ decimal p ++ codes "\nlddw r3, "
    ++ decimal order ++ codes "\ncall send\n"

-- Writes the instructions that send receiver p an order, or nothing if none was sent. `label` is the text of the label,
-- with the traitor as its last general, and `rank` the rank of the label that he relays.
abbrev pub message_text : ℕ → List ℕ → ℕ → Option ℕ → List ℕ
message_text rank label p None = []
message_text rank label p (Some order) = comment_line label p order ++ send_call rank p order

-- Writes the instructions that send the orders about the label w, whose last general is the traitor, to all receivers.
abbrev pub label_text : MessageTable → ℕ → List ℕ → List ℕ
label_text t rank w = flat_map (λ p. message_text rank (dotted w) p (told t.messages w p)) (others t.generals w)

-- Writes the instructions by which general g sends the orders about the labels of a list, which he relays, by rank.
abbrev pub relayed_text : MessageTable → ℕ → List (List ℕ) → List ℕ
relayed_text t g labels =
    flat_map (λ rank. label_text t rank (get_or labels rank [] ++ g ∷ [])) (range_with_len 0 (length labels))

-- Returns the relay of general g in a round.
abbrev pub shape_of : MessageTable → ℕ → ℕ → Shape
shape_of t g round =
    record { generals = t.generals; commander = t.commander; general = g; round = round }

-- Writes the instruction that passes over a round's instructions in other rounds. r6 has the number of the round.
abbrev pub jump_line : ℕ → List ℕ
jump_line round = codes "jne r6, " ++ decimal round ++ codes ", after" ++ decimal round ++ codes "\n"

-- Writes the name of the place after a round's instructions.
abbrev pub after_line : ℕ → List ℕ
after_line round = codes "after" ++ decimal round ++ codes ":\n"

-- Writes the instructions that send the orders of a round.
abbrev pub round_text : MessageTable → ℕ → ℕ → List ℕ
round_text t g round = jump_line round ++ (relayed_text t g (relay (shape_of t g round)) ++ after_line round)

-- Returns the rounds in which general g relays orders: the first if he is the commander, or else the later ones.
abbrev pub rounds_of : MessageTable → ℕ → List ℕ
rounds_of t g = if g == t.commander then 1 ∷ [] else range_with_len 2 t.bound

-- Writes the instructions that send the orders of all rounds.
abbrev pub rounds_text : MessageTable → ℕ → List ℕ
rounds_text t g = flat_map (round_text t g) (rounds_of t g)

-- Writes the first lines of a traitor's TOML table, up to the instruction that loads the number of the round.
abbrev pub traitor_head : ℕ → List ℕ
traitor_head g = codes "\n[[traitor]]\ngeneral = " ++ decimal g ++ codes "\nasm = \"\"\"\nldw r6, [r1+16]\n"

-- Writes the TOML table of a traitor, with his number and his program.
abbrev pub traitor_text : MessageTable → ℕ → List ℕ
traitor_text t g = traitor_head g ++ (rounds_text t g ++ codes "mov r0, 0\nexit\n\"\"\"\n")

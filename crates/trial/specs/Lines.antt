-- What is printed for a trial.
use Rattle.std.specs.Prelude.{ℕ, ◌==◌, if◌then◌else◌, List, [], ◌++◌, length, slice_index, codes, Option, Some, None}
use Rattle.std.specs.Fmt.{decimal}
use Rattle.std.specs.List.{flat_map, enumerate_from}
use Rattle.insn.specs.declared.insn.Insn.{Insn}
use Rattle.insn.specs.Program.{slots_of}
use Rattle.label.specs.Relay.{receivers}
use Rattle.semantics.specs.Relay.{oral, relayed}
use Rattle.outbox.specs.Contents.{Contents}
use Rattle.round.specs.Letters.{tells}
use Rattle.trial.specs.Setting.{Setting}
use Rattle.trial.specs.Trial.{Ending}

-- Writes two lines: the size of the program in instructions and units, and its exit value and number of steps.
abbrev pub first_lines : ℕ → ℕ → ℕ → ℕ → List ℕ
first_lines instructions units r0 steps =
    codes "accepted " ++ decimal instructions ++ codes " instructions "
    ++ decimal units ++ codes " units\nr0 " ++ decimal r0
    ++ codes " steps " ++ decimal steps ++ codes "\n"

-- Writes the line of an order, such as `put 0 3 1` (rank, receiver, order), or nothing if no order was set.
abbrev pub put_line : ℕ → ℕ → Option ℕ → List ℕ
put_line rank receiver None = []
put_line rank receiver (Some order) =
    codes "put " ++ decimal rank ++ codes " " ++ decimal receiver ++ codes " " ++ decimal order ++ codes "\n"

-- Writes a line for each order that was set for the label with this rank, sorted by receiver.
unfoldable pub label_lines : Contents → ℕ → List ℕ → List ℕ
label_lines outbox rank label =
    flat_map (λ p. put_line rank p (tells outbox label p)) (receivers outbox.relay.shape label)

-- Writes a line for each order that was set, sorted by the rank of the label and the receiver.
unfoldable pub put_lines : Contents → List ℕ
put_lines outbox = flat_map (λ l. label_lines outbox l.0 l.1) (enumerate_from 0 (relayed outbox.relay))

-- Writes the line of a word of the board, such as `word 5 7` (index, value), or nothing if it equals `before`.
abbrev pub word_line : ℕ → ℕ → ℕ → List ℕ
word_line before index word =
    if word == before then [] else codes "word " ++ decimal index ++ codes " " ++ decimal word ++ codes "\n"

-- Writes a line for each word of the board that differs from its value in `opening`.
unfoldable pub word_lines : List ℕ → List ℕ → List ℕ
word_lines opening words = flat_map (λ w. word_line (slice_index opening w.0) w.0 w.1) (enumerate_from 0 words)

-- Writes all that is printed for a trial with this ending.
abbrev pub trial_lines : List Insn → Setting → Ending → List ℕ
trial_lines program setting e =
    first_lines (length program) (length (slots_of program)) e.r0 e.state.steps
    ++ put_lines (record {
      relay = oral setting.shape;
      rows = e.state.outbox;
      entries = e.state.entries;
    }) ++ word_lines setting.board e.words

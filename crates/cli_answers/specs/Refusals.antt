-- The JSON object that says why a task was not done: a file was rejected, or it could not be read (own).
use Rattle.std.specs.Prelude.{ℕ, ◌==◌, ◌&&◌, ◌||◌, not, Bool, if◌then◌else◌, List, [], ◌∷◌, drop, find, reverse, take, slice_get, slice_index, Option, None, Some, option_and_then, option_map, bytes_eq, codes}
use Rattle.std.specs.Option.{option_or}
use Rattle.serde_json.specs.Data.{string, Members, put}
use Rattle.text.specs.Parts.{before, lines_of, pieces}
use Rattle.text.specs.Stop.{feed, space}
use Rattle.cli_answers.specs.Advice.{help_of, with_explanation, with_help}
use Rattle.cli_answers.specs.Labels.{at_first}
use Rattle.cli_answers.specs.Objects.{or, unshaped}
use Rattle.cli_answers.specs.Shaped.{first_shaped}
use Rattle.cli_answers.specs.Shapes.{error_places}
use Rattle.cli_answers.specs.Texts.{behind_stop, called, with_text}

-- Returns whether an error code says that the verifier rejects a program: it begins with V, or is S8, the code for a
-- traitor's program.
abbrev pub is_unsafe : List ℕ → Bool
is_unsafe code = slice_index code 0 == 86 || bytes_eq code (codes "S8")

-- Returns the class of a rejected file by its error code: `unsafe` if the verifier rejects a program, else
-- `malformed`.
abbrev pub class_of : List ℕ → List ℕ
class_of code = if is_unsafe code then codes "unsafe" else codes "malformed"

-- Returns whether the line begins with `error: `.
abbrev pub is_reported : List ℕ → Bool
is_reported line = bytes_eq (take 7 line) (codes "error: ")

-- Returns the first line that begins with `error: `, without this prefix, or None if no line begins with it.
abbrev pub reported : List (List ℕ) → Option (List ℕ)
reported lines = option_map (drop 7) (find is_reported lines)

-- Returns whether a line of the verifier's explanation is neither a note nor a help message.
abbrev pub is_why : List ℕ → Bool
is_why line = not (bytes_eq (take 6 line) (codes "note: ") || bytes_eq (take 6 line) (codes "help: "))

-- Returns the line of the verifier's explanation that says why a program is rejected: the last one that is neither a
-- note nor a help message.
abbrev pub why : List (List ℕ) → Option (List ℕ)
why lines = find is_why (reverse lines)

-- Returns the line that says why a file is rejected, if no line begins with `error: `. For the verifier's codes it is
-- in the explanation, and for the codes of an object file it is the first line.
abbrev pub said : List ℕ → List (List ℕ) → Option (List ℕ)
said code lines =
    if slice_index code 0 == 86 then why lines else if slice_index code 0 == 79 then slice_get lines 0 else None

-- Returns the sentence that says why a file is rejected with this code, or None if the lines do not have one.
abbrev pub sentence_of : List ℕ → List (List ℕ) → Option (List ℕ)
sentence_of code lines = option_or (reported lines) (said code lines)

-- Returns the words without the prefix ` is named by `, or None if they do not begin with it.
abbrev pub namer_behind : List ℕ → Option (List ℕ)
namer_behind words = if bytes_eq (take 13 words) (codes " is named by ") then Some (drop 13 words) else None

-- Returns where a file is named: the text after the last ` is named by ` in a line.
abbrev pub namer : List ℕ → Option (List ℕ)
namer [] = None
namer (c ∷ cs) = option_or (namer cs) (namer_behind (c ∷ cs))

-- Returns the second of the lines, or None if there are fewer than two.
abbrev pub second_of : List (List ℕ) → Option (List ℕ)
second_of lines = slice_get lines 1

-- Returns where a scenario names the object file that is rejected with this code, as the second of the lines says.
abbrev pub namer_of : List ℕ → List (List ℕ) → Option (List ℕ)
namer_of code lines = if slice_index code 0 == 79 then option_and_then namer (second_of lines) else None

-- Adds a sentence to an object as its member `sentence`, or nothing for None.
abbrev pub with_sentence : Option (List ℕ) → Members → Members
with_sentence None ms = ms
with_sentence (Some s) ms = with_text (codes "sentence") s ms

-- Adds where a file is named to an object as its member `named_by`, or nothing for None.
abbrev pub with_namer : Option (List ℕ) → Members → Members
with_namer None ms = ms
with_namer (Some key) ms = with_text (codes "named_by") key ms

-- Returns whether the place of an error code is a key of a scenario or a setting: the code begins with K, or with S and
-- is none of those for a traitor's program.
abbrev pub is_keyed : List ℕ → Bool
is_keyed code =
    slice_index code 0 == 75 || (slice_index code 0 == 83 && not (bytes_eq code (codes "S7") || bytes_eq code (codes "S8")))

-- Returns the object of a place by its numbers: a line or unit, a traitor and his program's error code, or a general.
abbrev pub numbered : List ℕ → Members
numbered place = or (first_shaped at_first error_places (pieces space place)) (called (codes "refused"))

-- Returns an object for a rejected file with the numbers of the place, unless this is a key.
abbrev pub placed_refusal : List ℕ → List ℕ → Members
placed_refusal code place = if is_keyed code then called (codes "refused") else numbered place

-- Adds what the verifier's explanation says, if the verifier rejects a program.
abbrev pub with_verified : List ℕ → List (List ℕ) → Members → Members
with_verified code lines ms = if is_unsafe code then with_explanation (why lines) lines ms else ms

-- Adds what an explanation says besides the sentence.
abbrev pub with_advice : List ℕ → List (List ℕ) → Members → Members
with_advice code lines ms = with_verified code lines (with_help (help_of lines) ms)

-- Returns the object for a rejected file: its error code, the place of the error and its class. `lines` may add where
-- an object file is named, why the file is rejected, and advice.
abbrev pub refused_object : List ℕ → List (List ℕ) → Members
refused_object told lines =
    let code = before space told in
    with_advice code lines
    (with_sentence (sentence_of code lines)
    (with_namer (namer_of code lines)
    (put (codes "class") (string (class_of code))
    (with_text (codes "place") (behind_stop space told)
    (with_text (codes "code") code (placed_refusal code (behind_stop space told)))))))

-- Returns the object for a file that could not be read: the fault, the file as its place, and its class. `lines` may
-- add where the file is named, and a sentence that says why.
abbrev pub fault_object : List ℕ → List (List ℕ) → Members
fault_object told lines =
    with_sentence (reported lines)
    (with_namer (option_and_then namer (slice_get lines 0))
    (put (codes "class") (string (codes "unreadable"))
    (with_text (codes "place") (behind_stop space told)
    (with_text (codes "fault") (before space told) (called (codes "fault"))))))

-- Returns the object for the text that says why a task was not done. The first word of the text says whether a file
-- was rejected or could not be read. For any other word, the object has the first line as text.
unfoldable pub refusal_object : List ℕ → Members
refusal_object text =
    let line = before feed text in
    let word = before space line in
    let lines = lines_of (behind_stop feed text) in
    if bytes_eq word (codes "refused") then refused_object (behind_stop space line) lines
    else if bytes_eq word (codes "fault") then fault_object (behind_stop space line) lines
    else unshaped line

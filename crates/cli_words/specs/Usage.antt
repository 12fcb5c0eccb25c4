-- Defines how a subcommand is used, and which values it takes from the words after its name (own).
use Rattle.std.specs.Prelude.{ℕ, ◌==◌, ◌++◌, Bool, true, false, List, [], ◌∷◌, Option, Some, None}
use Rattle.std.specs.Prelude.{codes, drop, encode_utf8, find, if◌then◌else◌, is_some, length, option_and_then, option_map, slice_get}
use Rattle.std.specs.Option.{option_map_or}
use Rattle.std.specs.Str.{bytes_eq, chars}
use Rattle.clap.specs.Lexer.{long_of, short_of}
use Rattle.clap.specs.Walk.{attached_value}

-- A text, as bytes.
abbrev pub Text : Type 0
Text = List ℕ

-- A flag: a switch `--NAME`, which has no value, an option `--NAME VALUE` or `--NAME=VALUE`, or an option that is
-- written with its letter, as `-L VALUE`, `-LVALUE` or `-L=VALUE`.
pub data Flag : Type 0 where
  switch : Text → Flag
  option : Text → Flag
  letter : Text → ℕ → Flag

-- A subcommand: its name, the names of its places, which are required positional arguments, and its flags, each of
-- which may be used once.
pub record Usage : Type 0 where
  pub name : Text
  pub places : List Text
  pub flags : List Flag

-- Checks whether the flag is written `--NAME`, where `name` is NAME.
abbrev pub is_long : Text → Flag → Bool
is_long name (switch own) = bytes_eq own name
is_long name (option own) = bytes_eq own name
is_long name (letter own c) = false

-- Checks whether the flag is written with the letter `c`.
abbrev pub is_short : ℕ → Flag → Bool
is_short c (switch name) = false
is_short c (option name) = false
is_short c (letter name own) = own == c

-- ---- what a word looks like

-- The form of a word: `--`, or `--NAME` or `--NAME=VALUE`, or a hyphen with a letter and the text after it, or no flag.
pub data Look : Type 0 where
  end_of_flags : Look
  long : Text → Option Text → Look
  short : ℕ → Text → Look
  plain : Look

-- Returns the form of a word that begins with one hyphen. `flags` is the text after the hyphen.
abbrev pub short_look : Text → Look
short_look flags = option_map_or (λ c. short c (drop (length (encode_utf8 c)) flags)) (slice_get (chars flags) 0) plain

-- Returns the form of a word.
unfoldable pub look_of : Text → Look
look_of word = if bytes_eq word (codes "--") then end_of_flags
    else option_map_or (λ p. long p.0 p.1) (long_of word) (option_map_or short_look (short_of word) plain)

-- ---- how far the words were read

-- What the next word may be: any word, the value of an option or, after `--`, only a word for a place.
pub data Next : Type 0 where
  anything : Next
  value_of : Text → Next
  only_places : Next

-- The state between two words: the places that have no word yet, the values so far with their names (`true` for a
-- switch), and what the next word may be.
pub record State : Type 0 where
  pub left : List Text
  pub met : List (Text × Text)
  pub next : Next

-- Returns the value so far for this name, or `None` if there is none.
abbrev pub value_at : Text → List (Text × Text) → Option Text
value_at name met = option_map (λ p. p.1) (find (λ p. bytes_eq p.0 name) met)

-- ---- one more word

-- Stores a value for this name. Returns `None` if the name has a value already.
abbrev pub met_once : Text → Text → State → Option State
met_once name value state = if is_some (value_at name state.met) then None
    else Some (record state { met = state.met ++ (name, value) ∷ []; next = anything })

-- Stores the word at the first of the places `left`, which have no word yet. Returns `None` if there are none.
abbrev pub placed_in : List Text → Text → State → Option State
placed_in [] word state = None
placed_in (name ∷ left) word state = Some (record state { left = left; met = state.met ++ (name, word) ∷ [] })

-- Stores the word at the first place that has no word yet. Returns `None` if there is none.
abbrev pub placed : Text → State → Option State
placed word state = placed_in state.left word state

-- Reads a flag, with the value that its word contains, if there is one. Without a value, an option takes the next word.
-- Returns `None` if there is no such flag, or if a switch has a value.
abbrev pub flag_met : Option Flag → Option Text → State → Option State
flag_met (Some (switch name)) None state = met_once name (codes "true") state
flag_met (Some (option name)) None state = Some (record state { next = value_of name })
flag_met (Some (option name)) (Some value) state = met_once name value state
flag_met (Some (letter name c)) None state = Some (record state { next = value_of name })
flag_met (Some (letter name c)) (Some value) state = met_once name value state
flag_met (Some (switch name)) (Some value) state = None
flag_met None value state = None

-- Reads a word that is not an option's value, by its form. Returns `None` if the subcommand does not accept it.
abbrev pub read_on : List Flag → Look → Text → State → Option State
read_on flags end_of_flags word state = Some (record state { next = only_places })
read_on flags (long name value) word state = flag_met (find (is_long name) flags) value state
read_on flags (short c rest) word state = flag_met (find (is_short c) flags) (attached_value rest) state
read_on flags plain word state = placed word state

-- Stores a word as the value of an option. Returns `None` if it has the form of a flag.
abbrev pub valued : Look → Text → Text → State → Option State
valued plain name word state = met_once name word state
valued _ name word state = None

-- Reads a word, by what it may be. Returns `None` if the subcommand does not accept it.
abbrev pub after_next : List Flag → Next → Text → State → Option State
after_next flags anything word state = read_on flags (look_of word) word state
after_next flags (value_of name) word state = valued (look_of word) name word state
after_next flags only_places word state = placed word state

-- Reads one more word. Returns `None` if the subcommand does not accept it.
abbrev pub after : List Flag → Text → State → Option State
after flags word state = after_next flags state.next word state

-- ---- all words

-- Reads these words one after the other. Returns `None` if the subcommand does not accept one of them.
unfoldable pub read_from : List Flag → State → List Text → Option State
read_from flags state [] = Some state
read_from flags state (word ∷ rest) = option_and_then (λ next. read_from flags next rest) (after flags word state)

-- Checks whether the next word must be the value of an option.
abbrev pub waits : Next → Bool
waits (value_of name) = true
waits _ = false

-- Returns the values after all words were read. Returns `None` if a place has no word, or if an option has no value.
abbrev pub met_at_end : List Text → Next → List (Text × Text) → Option (List (Text × Text))
met_at_end [] next met = if waits next then None else Some met
met_at_end (name ∷ left) next met = None

-- Returns the values that the subcommand takes from the words, with their names. Returns `None` if it does not accept
-- the words.
abbrev pub taken_in : Usage → List Text → Option (List (Text × Text))
taken_in usage words =
    option_and_then (λ state. met_at_end state.left state.next state.met)
    (read_from usage.flags (record { left = usage.places; met = []; next = anything }) words)

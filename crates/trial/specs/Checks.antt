-- The checks of a setting's keys, in order. Each returns a value or the first fault (own; TOML 1.0 for the text).
use Rattle.std.specs.Prelude.{ℕ, suc, ℤ, pos, negsuc, Bool, ◌+◌, ◌-◌, min, nat_lt, nat_le, ◌&&◌, cond, List, length, slice_set, replicate, Option, Some, None, Result, Ok, Err, codes}
use Rattle.std.specs.Option.{ok_or}
use Rattle.toml.specs.Data.{Data, Items, Members, no_items, item, no_members, member, get_member, as_integer, as_array}
use Rattle.semantics.specs.Limits.{board_words}
use Rattle.label.specs.declared.shape.Shape.{Shape}
use Rattle.label.specs.Relay.{relay}
use Rattle.trial.specs.declared.place.SettingKey.TheVariants as names
use Rattle.trial.specs.declared.place.SettingPlace.{SettingPlace}
use Rattle.trial.specs.declared.place.SettingPlace.TheVariants as places
use Rattle.trial.specs.declared.fault.SettingFault.{SettingFault}
use Rattle.trial.specs.declared.fault.SettingFault.TheVariants as faults
use Rattle.trial.specs.Names.{is_key}
use Rattle.trial.specs.Flaws.{Flaw, unknown, faulty, ◌>>=◌}
use Rattle.trial.specs.Setting.{Setting}

-- Returns the first key of a table that no setting has. The members are sorted, so it is the least such key by bytes.
abbrev pub first_unknown : Members → Option (List ℕ)
first_unknown no_members = None
first_unknown (member k d ms) = cond (is_key k) (first_unknown ms) (Some k)

-- Returns the flaw of an unknown key, or Ok if all keys are known.
abbrev pub known : Option (List ℕ) → Result (Unit {0}) Flaw
known None = Ok tt
known (Some k) = Err (unknown k)

-- Returns the value of a required key, or the fault `Key` if the key is missing.
abbrev pub required : SettingPlace → Option Data → Result Data Flaw
required s None = Err (faulty faults.Key s)
required s (Some d) = Ok d

-- Returns the integer that a value is, or the fault `Kind` if it is not an integer.
abbrev pub whole : SettingPlace → Data → Result ℤ Flaw
whole s d = ok_or (as_integer d) (faulty faults.Kind s)

-- Returns an integer as a number from 0 on, or the fault f if it is negative.
abbrev pub natural : SettingFault → SettingPlace → ℤ → Result ℕ Flaw
natural f s (pos n) = Ok n
natural f s (negsuc n) = Err (faulty f s)

-- Returns the fault f at the place s unless the condition holds.
abbrev pub test : Bool → SettingFault → SettingPlace → Result (Unit {0}) Flaw
test b f s = cond b (Ok tt) (Err (faulty f s))

-- Returns the number at a required key, which must be from `least` to `most`, or its first fault.
unfoldable pub number : SettingPlace → ℕ → ℕ → Option Data → Result ℕ Flaw
number s least most o = do
  d ← required s o
  z ← whole s d
  n ← natural faults.Range s z
  within ← test (nat_le least n && nat_le n most) faults.Range s
  Ok n

-- Returns the general at a required key, a number below n, or the first fault.
unfoldable pub general : SettingPlace → ℕ → Option Data → Result ℕ Flaw
general s n o = do
  d ← required s o
  z ← whole s d
  g ← natural faults.General s z
  within ← test (nat_lt g n) faults.General s
  Ok g

-- Applies a step to each element of an array in order, and stops at the first flaw. The first element has the index
-- i.
unfoldable pub over : {A : Type 0} → (ℕ → A → Data → Result A Flaw) → ℕ → A → Items → Result A Flaw
over step i x no_items = Ok x
over step i x (item d ds) = step i x d >>= λ y. over step (i + 1) y ds

-- Sets the order that was taken for the label with this rank to the number d, from 0 to 2^32 - 1.
abbrev pub set_order : ℕ → List ℕ → Data → Result (List ℕ) Flaw
set_order rank orders d = number (places.Order rank) 0 4294967295 (Some d) >>= λ order. Ok (slice_set orders rank order)

-- Returns the number of elements of an array.
abbrev pub items_length : Items → ℕ
items_length no_items = 0
items_length (item d ds) = suc (items_length ds)

-- Returns the elements of an array, or the fault `Kind` if the value is not an array.
abbrev pub elements : SettingPlace → Data → Result Items Flaw
elements s d = ok_or (as_array d) (faulty faults.Kind s)

-- Returns the fault `Range` at the key `taken` if there are more orders than labels.
abbrev pub are_few : ℕ → ℕ → Result (Unit {0}) Flaw
are_few labels number = test (nat_le number labels) faults.Range (places.Key names.Taken)

-- Returns the order that was taken for each label, by rank. The last labels have RETREAT, 0, if the array is too
-- short.
unfoldable pub orders : ℕ → Items → Result (List ℕ) Flaw
orders labels ds = do
  few ← are_few labels (items_length ds)
  over set_order 0 (replicate labels 0) ds

-- Returns the order that was taken for each label, by rank. All of them are RETREAT, 0, if the key is missing.
unfoldable pub taken : ℕ → Option Data → Result (List ℕ) Flaw
taken labels None = Ok (replicate labels 0)
taken labels (Some d) = do
  ds ← elements (places.Key names.Taken) d
  orders labels ds

-- Returns a word of the board, or its fault. A TOML integer that is not negative always fits into a word.
unfoldable pub word : SettingPlace → Data → Result ℕ Flaw
word s d = do
  z ← whole s d
  natural faults.Range s z

-- Sets the word of the board with this index to the number d.
abbrev pub set_word : ℕ → List ℕ → Data → Result (List ℕ) Flaw
set_word slot words d = word (places.Word slot) d >>= λ w. Ok (slice_set words slot w)

-- Returns the 64 words of the board from an array. The last words are 0 if the array is too short.
unfoldable pub words : Items → Result (List ℕ) Flaw
words ds = do
  few ← test (nat_le (items_length ds) board_words) faults.Range (places.Key names.Board)
  over set_word 0 (replicate board_words 0) ds

-- Returns the words of the board at the start of a trial. All of them are 0 if the key is missing.
unfoldable pub board : Option Data → Result (List ℕ) Flaw
board None = Ok (replicate board_words 0)
board (Some d) = do
  ds ← elements (places.Key names.Board) d
  words ds

-- Returns the relay of general g in round r, among n generals with commander c.
abbrev pub shape_of : ℕ → ℕ → ℕ → ℕ → Shape
shape_of n c g r = record { generals = n; commander = c; general = g; round = r }

-- Returns the setting that a table describes, or its first flaw.
unfoldable pub setting : Members → Result Setting Flaw
setting ms = do
  none ← known (first_unknown ms)
  n ← number (places.Key names.Generals) 2 13 (get_member (codes "generals") ms)
  m ← number (places.Key names.Bound) 0 (min 4 (n - 2)) (get_member (codes "bound") ms)
  c ← general (places.Key names.Commander) n (get_member (codes "commander") ms)
  g ← general (places.Key names.General) n (get_member (codes "general") ms)
  r ← number (places.Key names.Round) 1 (m + 1) (get_member (codes "round") ms)
  orders ← taken (length (relay (shape_of n c g r))) (get_member (codes "taken") ms)
  words ← board (get_member (codes "board") ms)
  Ok (record { shape = shape_of n c g r; bound = m; taken = orders; board = words })

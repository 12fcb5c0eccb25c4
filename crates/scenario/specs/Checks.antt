-- The checks of a scenario's keys, in order. Each returns the value, or fails with the first fault (own; TOML 1.0 for
-- the text).
use Rattle.std.specs.Prelude.{ℕ, suc, ℤ, pos, negsuc, Bool, ◌+◌, ◌-◌, ◌<◌, ◌≤◌, min, nat_lt, nat_le, ◌&&◌, cond, if◌then◌else◌, List, slice_set, replicate, Option, Some, None, Result, Ok, Err, codes, bytes_eq}
use Rattle.std.specs.Option.{ok_or}
use Rattle.toml.specs.Data.{Data, Items, Members, no_items, item, no_members, member, get_member, as_integer, as_str, as_array}
use Rattle.combine.specs.declared.campaign_rule.Rule.{Rule}
use Rattle.combine.specs.Names.{default_rule, rule_named}
use Rattle.round.specs.Scenario.{IsPatience}
use Rattle.scenario.specs.declared.messages.Messages.{Messages}
use Rattle.scenario.specs.declared.messages.Messages.TheVariants.{Oral, Signed}
use Rattle.scenario.specs.declared.messages.Kinds.{Kinds}
use Rattle.scenario.specs.declared.messages.Kinds.TheVariants.{OralAlone, Both}
use Rattle.scenario.specs.declared.place.ScenarioKey.TheVariants as names
use Rattle.scenario.specs.declared.place.ScenarioPlace.{ScenarioPlace}
use Rattle.scenario.specs.declared.place.ScenarioPlace.TheVariants as places
use Rattle.scenario.specs.declared.fault.ScenarioFault.{ScenarioFault}
use Rattle.scenario.specs.declared.fault.ScenarioFault.TheVariants as faults
use Rattle.scenario.specs.Names.{is_top_key}
use Rattle.scenario.specs.Flaws.{Flaw, unknown, faulty, ◌>>=◌}

-- Returns the first key that `is_key` does not accept, or `None` if it accepts all. Keys ascend by bytes, so it is the
-- least one.
abbrev pub first_unknown : (List ℕ → Bool) → Members → Option (List ℕ)
first_unknown is_key no_members = None
first_unknown is_key (member k d ms) = cond (is_key k) (first_unknown is_key ms) (Some k)

-- Fails if there is an unknown key, in the traitor's table `at` or at the top.
abbrev pub known : Option ℕ → Option (List ℕ) → Result (Unit {0}) Flaw
known at None = Ok tt
known at (Some k) = Err (unknown at k)

-- Returns the value of a required key. Fails if the key is missing.
abbrev pub required : ScenarioPlace → Option Data → Result Data Flaw
required s None = Err (faulty faults.Key s)
required s (Some d) = Ok d

-- Returns a value as an integer. Fails if it is not one.
abbrev pub whole : ScenarioPlace → Data → Result ℤ Flaw
whole s d = ok_or (as_integer d) (faulty faults.Kind s)

-- Returns an integer that is not negative. Fails with the fault `f` if it is negative.
abbrev pub natural : ScenarioFault → ScenarioPlace → ℤ → Result ℕ Flaw
natural f s (pos n) = Ok n
natural f s (negsuc n) = Err (faulty f s)

-- Fails with the fault `f` at the place `s` if the condition is false.
abbrev pub test : Bool → ScenarioFault → ScenarioPlace → Result (Unit {0}) Flaw
test b f s = cond b (Ok tt) (Err (faulty f s))

-- Returns the number at a required key. Fails if it is not from `least` to `most`.
unfoldable pub number : ScenarioPlace → ℕ → ℕ → Option Data → Result ℕ Flaw
number s least most o = do
  d ← required s o
  z ← whole s d
  n ← natural faults.Range s z
  within ← test (nat_le least n && nat_le n most) faults.Range s
  Ok n

-- Returns the number at an optional key, or `None` if the key is missing. Fails if the number is not from `least` to
-- `most`.
unfoldable pub optional_number : ScenarioPlace → ℕ → ℕ → Option Data → Result (Option ℕ) Flaw
optional_number s least most None = Ok None
optional_number s least most (Some d) = do
  n ← number s least most (Some d)
  Ok (Some n)

-- Returns the number of one of `n` generals at a required key. Fails with the fault `low` if the number is negative.
unfoldable pub general : ScenarioPlace → ScenarioFault → ℕ → Option Data → Result ℕ Flaw
general s low n o = do
  d ← required s o
  z ← whole s d
  g ← natural low s z
  within ← test (nat_lt g n) faults.General s
  Ok g

-- Applies a step to each item in turn, where the items are counted from `i`, and returns the last result. Fails with
-- the first fault of a step.
unfoldable pub over : {A : Type 0} → (ℕ → A → Data → Result A Flaw) → ℕ → A → Items → Result A Flaw
over step i x no_items = Ok x
over step i x (item d ds) = step i x d >>= λ y. over step (i + 1) y ds

-- Returns word `i` of the list `board`. Fails if it is not an integer, or if it is negative.
unfoldable pub word : ℕ → Data → Result ℕ Flaw
word i d = do
  z ← whole (places.Word i) d
  natural faults.Range (places.Word i) z

abbrev pub is_integer : ℕ → Unit {0} → Data → Result (Unit {0}) Flaw
is_integer i u d = whole (places.Word i) d >>= λ z. Ok tt

abbrev pub set_word : ℕ → List ℕ → Data → Result (List ℕ) Flaw
set_word i ws d = word i d >>= λ w. Ok (slice_set ws i w)

-- Returns the number of items.
abbrev pub items_length : Items → ℕ
items_length no_items = 0
items_length (item d ds) = suc (items_length ds)

-- Returns the items of a value that is an array. Fails if it is not one.
abbrev pub elements : ScenarioPlace → Data → Result Items Flaw
elements s d = ok_or (as_array d) (faulty faults.Kind s)

-- Returns the board's 64 words, from a list of at most 64 integers that are not negative. Fails with the first fault.
unfoldable pub board_words : Items → Result (List ℕ) Flaw
board_words ds = do
  all ← over is_integer 0 tt ds
  few ← test (nat_le (items_length ds) 64) faults.Range (places.Key names.Board)
  over set_word 0 (replicate 64 0) ds

-- Returns the board's 64 words. They are 0 if the key is missing.
unfoldable pub board : Option Data → Result (List ℕ) Flaw
board None = Ok (replicate 64 0)
board (Some d) = do
  ds ← elements (places.Key names.Board) d
  board_words ds

-- Returns the rule with this name. Fails if no rule has it.
abbrev pub rule_by_name : List ℕ → Result Rule Flaw
rule_by_name t = ok_or (rule_named t) (faulty faults.Range (places.Key names.Rule))

-- Returns the rule by which a scenario combines orders. It is the default rule if the key is missing.
unfoldable pub rule : Option Data → Result Rule Flaw
rule None = Ok default_rule
rule (Some d) = do
  t ← ok_or (as_str d) (faulty faults.Kind (places.Key names.Rule))
  rule_by_name t

-- Returns how orders are sent, for the text `oral` or `signed`. `signed` is accepted only if the reader accepts both
-- kinds of campaigns.
abbrev pub messages_by_name : Kinds → List ℕ → Result Messages Flaw
messages_by_name OralAlone t =
    if bytes_eq t (codes "oral") then Ok Oral
    else Err (faulty faults.Range (places.Key names.Messages))
messages_by_name Both t =
    if bytes_eq t (codes "oral") then Ok Oral
    else if bytes_eq t (codes "signed") then Ok Signed
    else Err (faulty faults.Range (places.Key names.Messages))

-- Returns how orders are sent in a scenario: orally if the key is missing.
unfoldable pub messages : Kinds → Option Data → Result Messages Flaw
messages kinds None = Ok Oral
messages kinds (Some d) = do
  t ← ok_or (as_str d) (faulty faults.Kind (places.Key names.Messages))
  messages_by_name kinds t

-- Fails if a signed campaign has a key `rule`, since it combines no orders.
abbrev pub fitting : Messages → Option Data → Result (Unit {0}) Flaw
fitting Signed (Some rule) = Err (faulty faults.Key (places.Key names.Rule))
fitting _ _ = Ok tt

-- The head of a scenario: the numbers of its campaign, the rule that combines orders, and how orders are sent.
pub record Head : Type 0 where
  pub generals : ℕ
  pub bound : ℕ
  pub commander : ℕ
  pub order : ℕ
  pub board : List ℕ
  pub patience : Option ℕ
  pub rule : Rule
  pub messages : Messages

-- States that a head is within its limits. There are at most 13 generals, and the bound is at most 4 and at most the
-- number of generals less 2. The commander is a general, and a patience is 1 to 4,096 steps.
pub record IsHeadWithin (generals bound commander : ℕ) (patience : Option ℕ) : Type 0 where
  pub few : generals ≤ 13
  pub rounds : bound ≤ 4
  pub enough : bound + 2 ≤ generals
  pub leads : commander < generals
  pub waits : IsPatience patience

-- Reads the head of a scenario: everything except its traitors. `kinds` says which campaigns are accepted.
unfoldable pub head : Kinds → Members → Result Head Flaw
head kinds ms = do
  none ← known None (first_unknown is_top_key ms)
  n ← number (places.Key names.Generals) 2 13 (get_member (codes "generals") ms)
  m ← number (places.Key names.Bound) 0 (min 4 (n - 2)) (get_member (codes "bound") ms)
  c ← general (places.Key names.Commander) faults.Range n (get_member (codes "commander") ms)
  o ← number (places.Key names.Order) 0 4294967295 (get_member (codes "order") ms)
  b ← board (get_member (codes "board") ms)
  p ← optional_number (places.Key names.Patience) 1 4096 (get_member (codes "patience") ms)
  r ← rule (get_member (codes "rule") ms)
  w ← messages kinds (get_member (codes "messages") ms)
  fits ← fitting w (get_member (codes "rule") ms)
  Ok (record { generals = n; bound = m; commander = c; order = o; board = b; patience = p; rule = r; messages = w })

-- Returns the elements of the list of traitors, without a check of them. There are none if the key is missing.
unfoldable pub tables : Option Data → Result Items Flaw
tables None = Ok no_items
tables (Some d) = elements (places.Key names.Traitor) d

-- The results of the checks for some texts, computed by the proof checker.
use Rattle.std.specs.Prelude.{◌≡◌, ℕ, List, [], ◌∷◌, ◌++◌, flat_map, replicate, codes, Option, Some, None, Result, Ok, Err, refl}
use Rattle.std.specs.Option.{option_map, ok_or}
use Rattle.toml.specs.Data.{get_member, get_item}
use Rattle.toml.specs.Parse.{parse_document}
use Rattle.toml.proofs.OnLiterals.{toml_on_literals}
use Rattle.combine.specs.declared.campaign_rule.Rule.TheVariants.{Majority, Median}
use Rattle.scenario.specs.declared.messages.Messages.TheVariants.{Oral, Signed}
use Rattle.scenario.specs.declared.messages.Kinds.TheVariants.{OralAlone, Both}
use Rattle.scenario.specs.declared.place.ScenarioKey.TheVariants as names
use Rattle.scenario.specs.declared.place.ScenarioPlace.{ScenarioPlace}
use Rattle.scenario.specs.declared.place.ScenarioPlace.TheVariants as places
use Rattle.scenario.specs.declared.fault.ScenarioFault.{ScenarioFault}
use Rattle.scenario.specs.declared.fault.ScenarioFault.TheVariants as faults
use Rattle.scenario.specs.Flaws.{Flaw, unknown, faulty, ◌>>=◌}
use Rattle.scenario.specs.Checks.{Head, head, number, optional_number, general, rule, messages, board, board_words, over, word, tables}
use Rattle.scenario.specs.Strategies.{program_named}
use Rattle.scenario.specs.Tables.{Table, Assembly, source, strategy, table_in, table}

-- The head of a text with these lines, checked.
checked : List (List ℕ) → Option (Result Head Flaw)
checked lines = option_map (head Both) (parse_document (flat_map (λ l. l ++ 10 ∷ []) lines))

-- The result with a fault at a place.
stops : ScenarioFault → ScenarioPlace → Option (Result Head Flaw)
stops fault place = Some (Err (faulty fault place))

-- Numbers out of their ranges, and missing keys.
too_many : checked (codes "generals = 14" ∷ []) ≡ stops faults.Range (places.Key names.Generals)
unfolding checked stops toml_on_literals head number optional_number general rule messages board board_words over word
too_many = refl

bound_of_four : checked (codes "generals = 4" ∷ codes "bound = 3" ∷ []) ≡ stops faults.Range (places.Key names.Bound)
unfolding checked stops toml_on_literals head number optional_number general rule messages board board_words over word
bound_of_four = refl

-- A commander below 0 is out of range, and one after the last general does not exist.
below_the_first : checked (codes "generals = 4" ∷ codes "bound = 1" ∷ codes "commander = -1" ∷ []) ≡ stops faults.Range (places.Key names.Commander)
unfolding checked stops toml_on_literals head number optional_number general rule messages board board_words over word
below_the_first = refl

past_the_last : checked (codes "generals = 4" ∷ codes "bound = 1" ∷ codes "commander = 4" ∷ []) ≡ stops faults.General (places.Key names.Commander)
unfolding checked stops toml_on_literals head number optional_number general rule messages board board_words over word
past_the_last = refl

no_order : checked (codes "generals = 4" ∷ codes "bound = 1" ∷ codes "commander = 0" ∷ []) ≡ stops faults.Key (places.Key names.Order)
unfolding checked stops toml_on_literals head number optional_number general rule messages board board_words over word
no_order = refl

order_too_great : checked (codes "generals = 4" ∷ codes "bound = 1" ∷ codes "commander = 0" ∷ codes "order = 4294967296" ∷ []) ≡ stops faults.Range (places.Key names.Order)
unfolding checked stops toml_on_literals head number optional_number general rule messages board board_words over word
order_too_great = refl

order_of_text : checked (codes "generals = 4" ∷ codes "bound = 1" ∷ codes "commander = 0" ∷ codes "order = \"1\"" ∷ []) ≡ stops faults.Kind (places.Key names.Order)
unfolding checked stops toml_on_literals head number optional_number general rule messages board board_words over word
order_of_text = refl

-- An unknown key is the first fault. Of several unknown keys it is the least by bytes.
least_key : checked (codes "zeta = 1" ∷ codes "alpha = 2" ∷ codes "generals = 14" ∷ []) ≡ Some (Err (unknown None (codes "alpha")))
unfolding checked stops toml_on_literals head number optional_number general rule messages board board_words over word
least_key = refl

-- In a board, the types of all elements are checked first, then the length, and then the ranges of the elements.
kinds_first : checked (codes "generals = 4" ∷ codes "bound = 1" ∷ codes "commander = 0" ∷ codes "order = 1" ∷ codes "board = [1, -1, \"x\"]" ∷ []) ≡ stops faults.Kind (places.Word 2)
unfolding checked stops toml_on_literals head number optional_number general rule messages board board_words over word
kinds_first = refl

least_word : checked (codes "generals = 4" ∷ codes "bound = 1" ∷ codes "commander = 0" ∷ codes "order = 1" ∷ codes "board = [1, -1, -2]" ∷ []) ≡ stops faults.Range (places.Word 1)
unfolding checked stops toml_on_literals head number optional_number general rule messages board board_words over word
least_word = refl

too_long : checked (codes "generals = 4" ∷ codes "bound = 1" ∷ codes "commander = 0" ∷ codes "order = 1" ∷ codes "board = [-1, -1, -1, -1, -1, -1, -1, -1, -1, -1, -1, -1, -1, -1, -1, -1, -1, -1, -1, -1, -1, -1, -1, -1, -1, -1, -1, -1, -1, -1, -1, -1, -1, -1, -1, -1, -1, -1, -1, -1, -1, -1, -1, -1, -1, -1, -1, -1, -1, -1, -1, -1, -1, -1, -1, -1, -1, -1, -1, -1, -1, -1, -1, -1, -1]" ∷ [])
    ≡ stops faults.Range (places.Key names.Board)
unfolding checked stops toml_on_literals head number optional_number general rule messages board board_words over word
too_long = refl

no_list : checked (codes "generals = 4" ∷ codes "bound = 1" ∷ codes "commander = 0" ∷ codes "order = 1" ∷ codes "board = 7" ∷ []) ≡ stops faults.Kind (places.Key names.Board)
unfolding checked stops toml_on_literals head number optional_number general rule messages board board_words over word
no_list = refl

-- The patience and the rule.
no_patience : checked (codes "generals = 4" ∷ codes "bound = 1" ∷ codes "commander = 0" ∷ codes "order = 1" ∷ codes "patience = 0" ∷ []) ≡ stops faults.Range (places.Key names.Patience)
unfolding checked stops toml_on_literals head number optional_number general rule messages board board_words over word
no_patience = refl

too_patient : checked (codes "generals = 4" ∷ codes "bound = 1" ∷ codes "commander = 0" ∷ codes "order = 1" ∷ codes "patience = 4097" ∷ []) ≡ stops faults.Range (places.Key names.Patience)
unfolding checked stops toml_on_literals head number optional_number general rule messages board board_words over word
too_patient = refl

patience_of_text : checked (codes "generals = 4" ∷ codes "bound = 1" ∷ codes "commander = 0" ∷ codes "order = 1" ∷ codes "patience = \"3\"" ∷ []) ≡ stops faults.Kind (places.Key names.Patience)
unfolding checked stops toml_on_literals head number optional_number general rule messages board board_words over word
patience_of_text = refl

mean : checked (codes "generals = 4" ∷ codes "bound = 1" ∷ codes "commander = 0" ∷ codes "order = 1" ∷ codes "rule = \"mean\"" ∷ []) ≡ stops faults.Range (places.Key names.Rule)
unfolding checked stops toml_on_literals head number optional_number general rule messages board board_words over word
mean = refl

rule_of_number : checked (codes "generals = 4" ∷ codes "bound = 1" ∷ codes "commander = 0" ∷ codes "order = 1" ∷ codes "rule = 1" ∷ []) ≡ stops faults.Kind (places.Key names.Rule)
unfolding checked stops toml_on_literals head number optional_number general rule messages board board_words over word
rule_of_number = refl

patience_before_rule : checked (codes "generals = 4" ∷ codes "bound = 1" ∷ codes "commander = 0" ∷ codes "order = 1" ∷ codes "rule = \"mean\"" ∷ codes "patience = 0" ∷ [])
    ≡ stops faults.Range (places.Key names.Patience)
unfolding checked stops toml_on_literals head number optional_number general rule messages board board_words over word
patience_before_rule = refl

-- How orders are sent is checked after the rule.
by_carrier : checked (codes "generals = 4" ∷ codes "bound = 1" ∷ codes "commander = 0" ∷ codes "order = 1" ∷ codes "messages = \"carrier\"" ∷ []) ≡ stops faults.Range (places.Key names.Messages)
unfolding checked stops toml_on_literals head number optional_number general rule messages board board_words over word
by_carrier = refl

messages_of_number : checked (codes "generals = 4" ∷ codes "bound = 1" ∷ codes "commander = 0" ∷ codes "order = 1" ∷ codes "messages = 1" ∷ []) ≡ stops faults.Kind (places.Key names.Messages)
unfolding checked stops toml_on_literals head number optional_number general rule messages board board_words over word
messages_of_number = refl

rule_before_messages : checked (codes "generals = 4" ∷ codes "bound = 1" ∷ codes "commander = 0" ∷ codes "order = 1" ∷ codes "messages = 1" ∷ codes "rule = \"mean\"" ∷ []) ≡ stops faults.Range (places.Key names.Rule)
unfolding checked stops toml_on_literals head number optional_number general rule messages board board_words over word
rule_before_messages = refl

-- A signed campaign has no rule. A reader of oral campaigns stops before this check.
signed_with_rule : checked (codes "generals = 4" ∷ codes "bound = 1" ∷ codes "commander = 0" ∷ codes "order = 1" ∷ codes "messages = \"signed\"" ∷ codes "rule = \"majority\"" ∷ []) ≡ stops faults.Key (places.Key names.Rule)
unfolding checked stops toml_on_literals head number optional_number general rule messages board board_words over word
signed_with_rule = refl

checked_as_oral : List (List ℕ) → Option (Result Head Flaw)
checked_as_oral lines = option_map (head OralAlone) (parse_document (flat_map (λ l. l ++ 10 ∷ []) lines))

signed_is_refused : checked_as_oral (codes "generals = 4" ∷ codes "bound = 1" ∷ codes "commander = 0" ∷ codes "order = 1" ∷ codes "messages = \"signed\"" ∷ codes "rule = \"majority\"" ∷ []) ≡ stops faults.Range (places.Key names.Messages)
unfolding checked_as_oral stops toml_on_literals head number optional_number general rule messages board board_words over word
signed_is_refused = refl

signed : checked (codes "generals = 3" ∷ codes "bound = 1" ∷ codes "commander = 0" ∷ codes "order = 1" ∷ codes "messages = \"signed\"" ∷ [])
    ≡ Some (Ok (record { generals = 3; bound = 1; commander = 0; order = 1; board = replicate 64 0; patience = None; rule = Majority; messages = Signed }))
unfolding checked stops toml_on_literals head number optional_number general rule messages board board_words over word
signed = refl

-- The head of a text without faults.
whole : checked (codes "generals = 4" ∷ codes "bound = 1" ∷ codes "commander = 0" ∷ codes "order = 1" ∷ codes "board = [7, 8]" ∷ codes "patience = 3" ∷ codes "rule = \"median\"" ∷ [])
    ≡ Some (Ok (record { generals = 4; bound = 1; commander = 0; order = 1; board = 7 ∷ 8 ∷ replicate 62 0; patience = Some 3; rule = Median; messages = Oral }))
unfolding checked stops toml_on_literals head number optional_number general rule messages board board_words over word
whole = refl

plain : checked (codes "generals = 4" ∷ codes "bound = 1" ∷ codes "commander = 0" ∷ codes "order = 1" ∷ [])
    ≡ Some (Ok (record { generals = 4; bound = 1; commander = 0; order = 1; board = replicate 64 0; patience = None; rule = Majority; messages = Oral }))
unfolding checked stops toml_on_literals head number optional_number general rule messages board board_words over word
plain = refl

-- The table with this number, if an earlier table is for general 3 of 4.
tabled : ℕ → List (List ℕ) → Option (Result Table Flaw)
tabled i ls = option_map (λ ms. tables (get_member (codes "traitor") ms) >>= λ ds. ok_or (get_item i ds) (unknown None []) >>= λ d. table 4 (None ∷ None ∷ None ∷ Some [] ∷ []) i d) (parse_document (flat_map (λ l. l ++ 10 ∷ []) ls))

halts : ScenarioFault → ScenarioPlace → Option (Result Table Flaw)
halts fault place = Some (Err (faulty fault place))

-- A traitor has only one table.
twice : tabled 1 (codes "[[traitor]]" ∷ codes "general = 2" ∷ codes "asm = \"exit\"" ∷ codes "[[traitor]]" ∷ codes "general = 3" ∷ []) ≡ halts faults.Twice (places.Entry 1 names.General)
unfolding tabled halts toml_on_literals tables table table_in source general
twice = refl

-- A general below 0 or after the last one does not exist.
nobody : tabled 0 (codes "[[traitor]]" ∷ codes "general = -1" ∷ []) ≡ halts faults.General (places.Entry 0 names.General)
unfolding tabled halts toml_on_literals tables table table_in source general
nobody = refl

fifth : tabled 0 (codes "[[traitor]]" ∷ codes "general = 4" ∷ []) ≡ halts faults.General (places.Entry 0 names.General)
unfolding tabled halts toml_on_literals tables table table_in source general
fifth = refl

nameless : tabled 0 (codes "[[traitor]]" ∷ codes "asm = \"exit\"" ∷ []) ≡ halts faults.Key (places.Entry 0 names.General)
unfolding tabled halts toml_on_literals tables table table_in source general
nameless = refl

-- A table must have exactly one of `asm`, `code` and `strategy`. This is checked before their types.
both : tabled 0 (codes "[[traitor]]" ∷ codes "general = 1" ∷ codes "asm = 1" ∷ codes "code = 2" ∷ []) ≡ halts faults.Key (places.Entry 0 names.Asm)
unfolding tabled halts toml_on_literals tables table table_in source general
both = refl

neither : tabled 0 (codes "[[traitor]]" ∷ codes "general = 1" ∷ []) ≡ halts faults.Key (places.Entry 0 names.Asm)
unfolding tabled halts toml_on_literals tables table table_in source general
neither = refl

code_of_number : tabled 0 (codes "[[traitor]]" ∷ codes "general = 1" ∷ codes "code = 2" ∷ []) ≡ halts faults.Kind (places.Entry 0 names.Code)
unfolding tabled halts toml_on_literals tables table table_in source general
code_of_number = refl

strategy_beside_code : tabled 0 (codes "[[traitor]]" ∷ codes "general = 1" ∷ codes "code = \"\"" ∷ codes "strategy = 2" ∷ []) ≡ halts faults.Key (places.Entry 0 names.Asm)
unfolding tabled halts toml_on_literals tables table table_in source strategy general
strategy_beside_code = refl

strategy_of_number : tabled 0 (codes "[[traitor]]" ∷ codes "general = 1" ∷ codes "strategy = 2" ∷ []) ≡ halts faults.Kind (places.Entry 0 names.Strategy)
unfolding tabled halts toml_on_literals tables table table_in source strategy general
strategy_of_number = refl

no_strategy : tabled 0 (codes "[[traitor]]" ∷ codes "general = 1" ∷ codes "strategy = \"split\"" ∷ []) ≡ halts faults.Range (places.Entry 0 names.Strategy)
unfolding tabled halts toml_on_literals tables table table_in source strategy program_named general
no_strategy = refl

silent : tabled 0 (codes "[[traitor]]" ∷ codes "general = 1" ∷ codes "strategy = \"silent\"" ∷ []) ≡ Some (Ok (record { general = 1; source = Assembly (codes "mov r0, 0\nexit\n") }))
unfolding tabled halts toml_on_literals tables table table_in source strategy program_named general
silent = refl

other_key : tabled 0 (codes "[[traitor]]" ∷ codes "general = 9" ∷ codes "colour = 2" ∷ []) ≡ Some (Err (unknown (Some 0) (codes "colour")))
unfolding tabled halts toml_on_literals tables table table_in source general
other_key = refl

no_table : tabled 0 (codes "traitor = [1]" ∷ []) ≡ halts faults.Kind (places.Table 0)
unfolding tabled halts toml_on_literals tables table table_in source general
no_table = refl

right : tabled 0 (codes "[[traitor]]" ∷ codes "general = 1" ∷ codes "asm = \"exit\"" ∷ []) ≡ Some (Ok (record { general = 1; source = Assembly (codes "exit") }))
unfolding tabled halts toml_on_literals tables table table_in source general
right = refl

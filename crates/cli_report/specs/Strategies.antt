-- Defines the report that a traitor's table names a strategy that does not exist: the sentence, and a similar name
-- (own).
use Rattle.std.specs.Prelude.{ℕ, ◌+◌, List, ◌++◌, Option, None, Some, codes, option_and_then, option_map}
use Rattle.std.specs.List.{join_by}
use Rattle.scenario.specs.Strategies.{strategy_names}
use Rattle.scenario.specs.declared.fault.ScenarioFault.{ScenarioFault}
use Rattle.scenario.specs.declared.fault.ScenarioFault.TheVariants.{Range}
use Rattle.scenario.specs.declared.place.ScenarioKey.TheVariants.{Strategy}
use Rattle.scenario.specs.declared.place.ScenarioPlace.{ScenarioPlace}
use Rattle.scenario.specs.declared.place.ScenarioPlace.TheVariants.{Entry}
use Rattle.cli_report.specs.Keys.{Found, found, quoted_value}
use Rattle.cli_report.specs.Nearest.{near}
use Rattle.cli_report.specs.Report.{near_words}

-- The names of all strategies, separated by commas.
abbrev pub strategies_listed : List ℕ
strategies_listed = join_by (λ name. name) (codes ", ") strategy_names

-- The error sentence for a value that is not the name of a strategy.
abbrev pub strategy_sentence : List ℕ
strategy_sentence = codes "a strategy must be one of these texts, in quotation marks: " ++ strategies_listed

-- Returns the number of the traitor's table, counted from 0, that names an unknown strategy, or `None` for another
-- fault.
abbrev pub misnaming_table : ScenarioFault → ScenarioPlace → Option ℕ
misnaming_table Range (Entry index Strategy) = Some index
misnaming_table fault place = None

-- Returns the line of a scenario that names an unknown strategy, or `None` for another fault.
unfoldable pub misnaming_line : ScenarioFault → ScenarioPlace → List ℕ → Option Found
misnaming_line fault place text =
    option_and_then (λ index. found (index + 1) (codes "strategy") text) (misnaming_table fault place)

-- Returns the help message for a fault at a place in a scenario. If a table names an unknown strategy, the message
-- names a similar one. Returns `None` if there is none, or for another fault.
unfoldable pub strategy_help : ScenarioFault → ScenarioPlace → List ℕ → Option (List ℕ)
strategy_help fault place text =
    option_map (near_words (codes "strategy"))
    (option_and_then (λ line. near (quoted_value line) strategy_names) (misnaming_line fault place text))

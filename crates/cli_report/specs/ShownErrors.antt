-- Defines how errors are displayed: as usual, but with the control characters of an unknown key escaped.
use Rattle.std.specs.Prelude.{ℕ, List, ◌++◌, Some, None, codes, decimal, string_bytes}
use Rattle.scenario.specs.ErrorText as scenario
use Rattle.scenario.specs.declared.fault.ScenarioError.{ScenarioError}
use Rattle.scenario.specs.declared.fault.ScenarioError.TheVariants.{Unknown}
use Rattle.trial.specs.ErrorText as trial
use Rattle.trial.specs.declared.fault.SettingError.{SettingError}
use Rattle.trial.specs.declared.fault.SettingError.TheVariants as setting
use Rattle.streams.specs.Escapes.{escaped}
use Rattle.streams.specs.declared.escaped.Kept.TheVariants.{Nothing}

-- Returns a key with its control characters escaped.
abbrev pub shown_key : List ℕ → List ℕ
shown_key key = escaped Nothing key

-- Returns how the error of a scenario is displayed.
abbrev pub scenario_text : ScenarioError → List ℕ
scenario_text (Unknown None key) = codes "S2 " ++ shown_key (string_bytes key)
scenario_text (Unknown (Some index) key) = codes "S2 traitor[" ++ decimal index ++ codes "]." ++ shown_key (string_bytes key)
scenario_text error = scenario.told error

-- Returns how the error of a setting is displayed.
abbrev pub setting_text : SettingError → List ℕ
setting_text (setting.Unknown key) = codes "K2 " ++ shown_key (string_bytes key)
setting_text error = trial.told error

-- Defines the report of each error in the text of a scenario or a setting (own).
use Rattle.std.specs.Prelude.{ℕ, ◌≡◌, List, ◌++◌, None, codes, string_bytes}
use Rattle.scenario.specs.declared.fault.ScenarioError.{ScenarioError}
use Rattle.scenario.specs.declared.fault.ScenarioError.TheVariants as scenario
use Rattle.trial.specs.declared.fault.SettingError.{SettingError}
use Rattle.trial.specs.declared.fault.SettingError.TheVariants as setting
use Rattle.cli_report.specs.Judged.{IsJudged, judged_of}
use Rattle.cli_report.specs.Report.{report_text}
use Rattle.cli_report.specs.Scenarios.{IsProgramTold, place_told, unknown_told}
use Rattle.cli_report.specs.Settings.{setting_place_told, setting_unknown_told}
use Rattle.cli_report.specs.Toml.{TellsToml}

-- Returns the report that there was not enough memory, for the file `name`.
abbrev pub memory_told : List ℕ → List ℕ
memory_told name = report_text name (codes "there is not enough memory") None None

-- States that `told` is the report of an error in a scenario.
abbrev pub ReportsScenario : List ℕ → List ℕ → ScenarioError → List ℕ → Type 0
ReportsScenario name text scenario.Toml told = TellsToml name text told
ReportsScenario name text (scenario.Unknown at key) told = told ≡ unknown_told name text at (string_bytes key)
ReportsScenario name text (scenario.At fault place) told = told ≡ place_told name text fault place
ReportsScenario name text (scenario.Program general fault) told = IsProgramTold name text general fault told
ReportsScenario name text scenario.Memory told = told ≡ memory_told name

-- States that `told` is what follows the refusal line for an error in a scenario: the report and, if the verifier
-- rejects a program, the explanation of the program.
abbrev pub TellsScenario : List ℕ → List ℕ → ScenarioError → List ℕ → Type 0
TellsScenario name text error told =
    (report : List ℕ) × ReportsScenario name text error report
    × ((behind : List ℕ) × IsJudged text (judged_of error) behind × (told ≡ report ++ behind))

-- States that `told` is the report of an error in a setting.
abbrev pub TellsSetting : List ℕ → List ℕ → SettingError → List ℕ → Type 0
TellsSetting name text setting.Toml told = TellsToml name text told
TellsSetting name text (setting.Unknown key) told = told ≡ setting_unknown_told name text (string_bytes key)
TellsSetting name text (setting.At fault place) told = told ≡ setting_place_told name text fault place
TellsSetting name text setting.Memory told = told ≡ memory_told name

-- The scenario of a message table, in which traitors send what the table says (docs/FORMATS.md, "Scenarios").
use Rattle.std.specs.Prelude.{ℕ, ◌==◌, nat_lt, ◌&&◌, ◌||◌, Bool, if◌then◌else◌, List, [], ◌∷◌, ◌++◌, filter, codes}
use Rattle.std.specs.Fmt.{decimal}
use Rattle.std.specs.List.{flat_map}
use Rattle.combine.specs.declared.campaign_rule.Rule.{Rule}
use Rattle.combine.specs.Names.{is_default}
use Rattle.combine.specs.Rule.{rule_name}
use Rattle.label.specs.Labels.{on, generals}
use Rattle.label.specs.Oral.{taken}
use Rattle.book.specs.Table.{MessageTable, told}
use Rattle.table_scenario.specs.Programs.{traitor_text}

-- Checks whether a lieutenant relays at most 800 orders in a campaign of n generals with the bound m.
abbrev pub is_short : ℕ → ℕ → Bool
is_short n m = nat_lt m 3 || nat_lt n 9 || (m == 3 && nat_lt n 12)

-- Returns the order that the first lieutenant took from the commander.
abbrev pub first_order : MessageTable → ℕ
first_order t = taken (told t.messages) (t.commander ∷ []) (if t.commander == 0 then 1 else 0)

-- Writes the keys `generals`, `bound`, `commander` and `order`.
abbrev pub numbers_text : MessageTable → List ℕ
numbers_text t = codes "generals = " ++ decimal t.generals ++ codes "\nbound = " ++ decimal t.bound
    ++ codes "\ncommander = " ++ decimal t.commander ++ codes "\norder = " ++ decimal (first_order t) ++ codes "\n"

-- Writes the key `rule`, unless the rule is the default.
abbrev pub rule_text : Rule → List ℕ
rule_text rule = if is_default rule then [] else codes "rule = \"" ++ rule_name rule ++ codes "\"\n"

-- Writes the TOML tables of the traitors, in ascending order.
abbrev pub traitors_text : MessageTable → List ℕ → List ℕ
traitors_text t traitors = flat_map (traitor_text t) (filter (on traitors) (generals t.generals))

-- Writes the scenario of a table in which these generals are traitors.
unfoldable pub scenario_text : MessageTable → List ℕ → List ℕ
scenario_text t traitors = numbers_text t ++ (rule_text t.rule ++ traitors_text t traitors)

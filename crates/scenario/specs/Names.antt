-- The keys of a scenario, as they are written there (own).
use Rattle.std.specs.Prelude.{ℕ, Bool, ◌||◌, List, codes}
use Rattle.std.specs.Str.{bytes_eq}
use Rattle.scenario.specs.declared.place.ScenarioKey.{ScenarioKey}
use Rattle.scenario.specs.declared.place.ScenarioKey.TheVariants.{Generals, Bound, Commander, Order, Board, Patience, Rule, Messages, Traitor, General, Asm, Code, Strategy}

abbrev pub text_of : ScenarioKey → List ℕ
text_of Generals = codes "generals"
text_of Bound = codes "bound"
text_of Commander = codes "commander"
text_of Order = codes "order"
text_of Board = codes "board"
text_of Patience = codes "patience"
text_of Rule = codes "rule"
text_of Messages = codes "messages"
text_of Traitor = codes "traitor"
text_of General = codes "general"
text_of Asm = codes "asm"
text_of Code = codes "code"
text_of Strategy = codes "strategy"

-- Returns whether a scenario may have this key at its top.
abbrev pub is_top_key : List ℕ → Bool
is_top_key k =
    bytes_eq k (codes "generals") || (
    bytes_eq k (codes "bound") || (
    bytes_eq k (codes "commander") || (
    bytes_eq k (codes "order") || (
    bytes_eq k (codes "board") || (
    bytes_eq k (codes "patience") || (
    bytes_eq k (codes "rule") || (
    bytes_eq k (codes "messages") ||
    bytes_eq k (codes "traitor"))))))))

-- Returns whether a traitor's table may have this key.
abbrev pub is_entry_key : List ℕ → Bool
is_entry_key k =
    bytes_eq k (codes "general") || (
    bytes_eq k (codes "asm") || (
    bytes_eq k (codes "code") ||
    bytes_eq k (codes "strategy")))

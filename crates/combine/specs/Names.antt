-- The names of the decision rules.
use Rattle.std.specs.Prelude.{ℕ, ◌≡◌, ◌↔◌, ◌&&◌, nat_le, Bool, true, false, List, bytes_eq, codes, count_by, find, Option, Some}
use Rattle.std.specs.List.{join_by, list_all}
use Rattle.combine.specs.declared.campaign_rule.Rule.{Rule}
use Rattle.combine.specs.declared.campaign_rule.Rule.TheVariants.{Majority}
use Rattle.combine.specs.Rule.{every_rule, rule_name}

-- Returns the rule with this name, or None if no rule has it.
abbrev pub rule_named : List ℕ → Option Rule
rule_named word = find (λ rule. bytes_eq (rule_name rule) word) every_rule

-- The names of all rules, as a sentence lists them: `majority or median`.
abbrev pub rule_names : List ℕ
rule_names = join_by rule_name (codes " or ") every_rule

-- The rule of a campaign whose file names no rule.
abbrev pub default_rule : Rule
default_rule = Majority

-- Returns whether the rule is the one that applies if a campaign's file names no rule.
abbrev pub is_default : Rule → Bool
is_default Majority = true
is_default _ = false

-- Returns whether the byte is a lower-case letter of ASCII, `a` to `z`.
abbrev pub is_small : ℕ → Bool
is_small c = nat_le 97 c && nat_le c 122

-- States that every rule has exactly one name, which consists of lower-case letters, and that no other rule has this
-- name. Each rule is listed once, and exactly one rule is the default.
pub record NamesAreWords : Type 0 where
  pub letters : (rule : Rule) → list_all is_small (rule_name rule) ≡ true
  pub read : (rule : Rule) → rule_named (rule_name rule) ≡ Some rule
  pub only : (word : List ℕ) (rule : Rule) → rule_named word ≡ Some rule → word ≡ rule_name rule
  pub listed : (rule : Rule) → count_by (λ other. bytes_eq (rule_name other) (rule_name rule)) every_rule ≡ 1
  pub default : (rule : Rule) → (is_default rule ≡ true) ↔ (rule ≡ default_rule)

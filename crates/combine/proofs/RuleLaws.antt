-- Laws that hold for each rule, with one case for each.
use Rattle.std.proofs.Common.{ℕ, ◌≡◌, ◌↔◌, Bool, true, refl, sym, List, count_by, Some, bytes_eq}
use Rattle.std.proofs.lemmas.Slice.Eq.{bytes_eq-Decides}
use Rattle.std.specs.Prelude.{find}
use Rattle.std.specs.List.{list_all}
use Rattle.combine.specs.declared.campaign_rule.Rule.{Rule}
use Rattle.combine.specs.declared.campaign_rule.Rule.TheVariants.{Majority, Median}
use Rattle.combine.specs.Rule.{OutcomesCombine, every_rule, is_most, majority, rule_name}
use Rattle.combine.specs.Names.{NamesAreWords, default_rule, is_default, is_small, rule_named}
use Rattle.combine.proofs.Found.{find_passes}
use Rattle.combine.proofs.Most.{agreed_order}

-- Proves that the order in an outcome is the rule's order.
pub outcomes_law : OutcomesCombine
unfolding majority
outcomes_law Majority orders = agreed_order 0 (find (is_most orders) orders)
outcomes_law Median orders = refl

all_small : (rule : Rule) → list_all is_small (rule_name rule) ≡ true
all_small Majority = refl
all_small Median = refl

pub name_read : (rule : Rule) → rule_named (rule_name rule) ≡ Some rule
name_read Majority = refl
name_read Median = refl

listed_once : (rule : Rule) → count_by (λ other. bytes_eq (rule_name other) (rule_name rule)) every_rule ≡ 1
listed_once Majority = refl
listed_once Median = refl

only_default : (rule : Rule) → (is_default rule ≡ true) ↔ (rule ≡ default_rule)
only_default Majority = ((λ h. refl), (λ h. refl))
only_default Median = ((λ h. absurd cc), (λ h. absurd cc))

only_word : (word : List ℕ) (rule : Rule) → rule_named word ≡ Some rule → word ≡ rule_name rule
only_word word rule e =
    sym ((bytes_eq-Decides (rule_name rule) word).0 (find_passes (λ other. bytes_eq (rule_name other) word) every_rule rule e))

pub names_law : NamesAreWords
names_law = record { letters = all_small; read = name_read; only = only_word; listed = listed_once; default = only_default }

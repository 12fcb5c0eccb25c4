-- The words of a rule in a line.
use Rattle.std.proofs.Common.{ℕ, ◌≡◌, Bool, not, true, arith}
use Rattle.std.proofs.lemmas.Bool.Decides.{nat_tests}
use Rattle.combine.proofs.RuleLaws.{names_law}
use Rattle.combine.specs.declared.campaign_rule.Rule.{Rule}
use Rattle.combine.specs.Names.{is_small}
use Rattle.combine.specs.Rule.{rule_name}
use Rattle.text.specs.Stop.{comma, feed, is_stop, space}
use Rattle.text.specs.declared.stop.Stop.{Stop}
use Rattle.text.proofs.BytesLemmas.{all-weaker}
use Rattle.text.proofs.CutLemmas.{Lacks}

-- Small letters are not among the characters at which a line is split.
name_lacks : (stop : Stop) → ((c : ℕ) → is_small c ≡ true → not (is_stop stop c) ≡ true) → (rule : Rule) → Lacks stop (rule_name rule)
name_lacks stop h rule = all-weaker is_small (λ c. not (is_stop stop c)) h (rule_name rule) (names_law.letters rule)

no_space : (c : ℕ) → is_small c ≡ true → not (is_stop space c) ≡ true
no_space c h = grind (arith, nat_tests)

no_feed : (c : ℕ) → is_small c ≡ true → not (is_stop feed c) ≡ true
no_feed c h = grind (arith, nat_tests)

no_comma : (c : ℕ) → is_small c ≡ true → not (is_stop comma c) ≡ true
no_comma c h = grind (arith, nat_tests)

pub name_lacks_space : (rule : Rule) → Lacks space (rule_name rule)
name_lacks_space = name_lacks space no_space

pub name_lacks_feed : (rule : Rule) → Lacks feed (rule_name rule)
name_lacks_feed = name_lacks feed no_feed

pub name_lacks_comma : (rule : Rule) → Lacks comma (rule_name rule)
name_lacks_comma = name_lacks comma no_comma

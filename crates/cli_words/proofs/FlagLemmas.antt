-- Flags at which `clap` fails: the flag for help, an unknown flag, and any flag after a value that cannot be stored.
use Rattle.std.proofs.Common.{◌≡◌, Bool, true, false, List, [], ◌∷◌, Option, Some, None, refl}
use Rattle.clap.specs.Kinds.{Kinds}
use Rattle.clap.specs.Walk.{Held, Rule, Text, settled, takes_values}
use Rattle.clap.specs.Simple.{filled, version_rule}
use Rattle.clap.specs.Faults.{long_fault, option_fault, react_fault, settle_fault, short_fault, use_fault}
use Rattle.cli_words.proofs.RuleLemmas.{help_taker, rule_or_help}
use Rattle.cli_words.proofs.WordLemmas.{Fails, or_else-first, or_else-second}

module _ (c : List Rule) (again : Bool) (h : Held) where
  help_fails : Fails (react_fault c again help_taker [] h)
  help_fails = or_else-second (settle_fault c again h) _ (λ e. cc)

  help_long : (v : Option Text) → Fails (long_fault c again (Some help_taker) v h)
  help_long None = help_fails
  help_long (Some v) = λ e. cc

  pub none_long_fails : (help : Bool) (v : Option Text) → Fails (long_fault c again (rule_or_help None help) v h)
  none_long_fails true v = help_long v
  none_long_fails false v = λ e. cc

  pub none_short_fails : (help : Bool) (rest : Text) (then : Held → Kinds) → Fails (short_fault c again (rule_or_help None help) rest h then)
  none_short_fails true rest then = or_else-first _ _ help_fails
  none_short_fails false rest then = λ e. cc

  -- The flag for the version.
  version_fails : Fails (react_fault c again (filled version_rule) [] h)
  version_fails = or_else-second (settle_fault c again h) _ (λ e. cc)

  pub version_long_fails : (v : Option Text) → Fails (long_fault c again (Some (filled version_rule)) v h)
  version_long_fails None = version_fails
  version_long_fails (Some v) = λ e. cc

  pub version_short_fails : (rest : Text) (then : Held → Kinds) → Fails (short_fault c again (Some (filled version_rule)) rest h then)
  version_short_fails rest then = or_else-first _ _ version_fails

  module _ (bad : Fails (settle_fault c again h)) where
    unsettled_option : (a : Rule) (v : Option Text) → Fails (option_fault c again a v h)
    unsettled_option a None = bad
    unsettled_option a (Some v) = or_else-first _ (use_fault again a (v ∷ []) (settled c h).rows) bad

    unsettled_known : (a : Rule) (v : Option Text) (b : Bool) → takes_values a ≡ b → Fails (long_fault c again (Some a) v h)
    unsettled_known a v true e = rw e (unsettled_option a v)
    unsettled_known a None false e = rw e (or_else-first _ (use_fault again a [] (settled c h).rows) bad)
    unsettled_known a (Some v) false e = rw e (λ e. cc)

    pub unsettled_long : (rule : Option Rule) (v : Option Text) → Fails (long_fault c again rule v h)
    unsettled_long None v = λ e. cc
    unsettled_long (Some a) v = unsettled_known a v _ refl

    unsettled_letter : (a : Rule) (rest : Text) (then : Held → Kinds) (b : Bool) → takes_values a ≡ b
        → Fails (short_fault c again (Some a) rest h then)
    unsettled_letter a rest then true e = rw e (unsettled_option a _)
    unsettled_letter a rest then false e =
        rw e (or_else-first _ _ (or_else-first _ (use_fault again a [] (settled c h).rows) bad))

    pub unsettled_short : (rule : Option Rule) (rest : Text) (then : Held → Kinds) → Fails (short_fault c again rule rest h then)
    unsettled_short None rest then = λ e. cc
    unsettled_short (Some a) rest then = unsettled_letter a rest then _ refl

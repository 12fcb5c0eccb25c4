use Rattle.std.proofs.Common.{rules, ◌≡◌, None}
use Rattle.toml.specs.Parse.{parse_document}
use Rattle.scenario.specs.declared.messages.Kinds.TheVariants.{Both}
use Rattle.scenario.specs.Checks.{head}
use Rattle.scenario.specs.Reading.{campaign_of}
use Rattle.scenario.proofs.Answering.{reads_unparsed}
use Rattle.scenario.proofs.reader.read_any.Goals as goal

pub returns-in-Err : goal.returns-in-Err
returns-in-Err c = reads_unparsed campaign_of (head Both) (parse_document c.args.text.now) c.is_memory.result c.unparsed.result c.unparsed.ensures
    (λ h. let none : parse_document c.args.text.now ≡ None = search rules in none)

use Rattle.cli_words.specs.Met.{told_by}
use Rattle.cli_words.proofs.MetLemmas.{no_other_task}
use Rattle.cli_words.proofs.matches.ParsedWords.task.Goals as goal

pub unreachable-requires : goal.unreachable-requires
unreachable-requires c = no_other_task (told_by c.args.self) c.requires c.in_default.not-check c.in_default.not-asm
    c.in_default.not-dis c.in_default.not-book c.in_default.not-table c.in_default.not-refute c.in_default.not-exhaust c.in_default.not-rule c.in_default.not-muster c.in_default.not-play c.in_default.not-audit
    c.in_default.not-explore c.in_default.not-tree c.in_default.not-draw c.in_default.not-page c.in_default.not-schedule

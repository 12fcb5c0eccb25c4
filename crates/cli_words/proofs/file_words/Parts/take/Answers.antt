use Rattle.std.proofs.Common.{sym, ◌∙◌}
use Rattle.cli_words.proofs.SeveralLemmas.{flag_taken}
use Rattle.cli_words.proofs.file_words.Parts.take.Goals as goal

pub returns-then-is_flag : goal.returns-then-is_flag
returns-then-is_flag c = λ rest.
    flag_taken c.args.flags.now c.args.self.now.kept.items c.push-then-is_flag.new.self.items c.args.self.now.files.items c.args.word c.args.is_value c.wants_value.result rest
    c.in_ok-push-2.ensures.items c.if-is_value.false (c.requires c.if-is_value.false) (sym c.is_flag.ensures ∙ c.if-is_flag.true) c.wants_value.ensures

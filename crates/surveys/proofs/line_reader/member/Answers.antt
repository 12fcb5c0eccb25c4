use Rattle.std.proofs.Common.{rules, ◌∙◌}
use Rattle.surveys.proofs.Rereading.{member_rest, member_word}
use Rattle.surveys.proofs.line_reader.member.Goals as goal

pub returns-in-Some-clause-word : goal.returns-in-Some-clause-word
returns-in-Some-clause-word c = λ w b h. search rules ∙ member_word c.args.end c.args.bytes.now w b h

pub returns-in-Some-clause-rest : goal.returns-in-Some-clause-rest
returns-in-Some-clause-rest c = λ w b h. search rules ∙ member_rest c.args.end c.args.bytes.now w b h

pub returns-in-None-clause-word : goal.returns-in-None-clause-word
returns-in-None-clause-word c = λ w b h. search rules ∙ member_word c.args.end c.args.bytes.now w b h

pub returns-in-None-clause-rest : goal.returns-in-None-clause-rest
returns-in-None-clause-rest c = λ w b h. search rules ∙ member_rest c.args.end c.args.bytes.now w b h

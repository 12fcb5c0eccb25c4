use Rattle.std.proofs.Common.{rules, ◌≡◌, ◌∙◌, ◌++◌, [], sym, subst, append-nil, Option}
use Rattle.std.specs.Prelude.{IfSome}
use Rattle.surveys.specs.declared.finding.Finding.{Finding as Found}
use Rattle.surveys.specs.Lines.{line_text}
use Rattle.surveys.specs.Parts.{foreign}
use Rattle.surveys.proofs.PartLemmas.{head_some}
use Rattle.surveys.proofs.Walks.{untaken_wrong}
use Rattle.surveys.proofs.part_reader.add_row.Goals as goal

pub returns-then-is_head-clause-wrong : goal.returns-then-is_head-clause-wrong
returns-then-is_head-clause-wrong c = λ other.
    foreign c.args.line.now [] (sym (append-nil c.args.line.now)) (record { begins = search rules; line = c.requires.line }) (head_some c.args.head.now c.requires.head) (search rules)

pub returns-in-Err-clause-wrong : goal.returns-in-Err-clause-wrong
returns-in-Err-clause-wrong c = λ other.
    untaken_wrong c.args.head.now c.args.line.now c.args.seeds.0 c.args.seeds.1 c.args.number c.in_ok-told.told c.in-Err.untaken c.requires.line (search rules) c.requires.behind
    c.in_ok-told.ensures.told c.in_ok-told.ensures.back c.in-Err.ensures.taken

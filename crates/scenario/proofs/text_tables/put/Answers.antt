use Rattle.scenario.proofs.MemberLemmas.{put_by}
use Rattle.scenario.proofs.text_tables.put.Goals as goal

pub returns : goal.returns
returns c = put_by c.args.table.now.entries c.insert.new.self.entries c.in_ok-name.name c.args.key.now c.args.value c.in_ok-name.ensures.ok c.in_ok-insert.ensures.entries

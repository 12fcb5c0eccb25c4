use Rattle.html.proofs.PageLaws.{proved_parts_are_content}
use Rattle.html.proofs.laws.parts_are_content.Goals as goal

pub returns : goal.returns
returns c = proved_parts_are_content

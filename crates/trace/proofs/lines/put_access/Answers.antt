use Rattle.std.specs.Prelude.{decimal, map, codes}
use Rattle.semantics.specs.Replies.{words_in}
use Rattle.trace.proofs.WrittenLemmas.{then_wrote, wrote-same}
use Rattle.trace.proofs.LineLemmas.{access_parts}
use Rattle.trace.proofs.lines.put_access.Goals as goal

pub returns : goal.returns
returns g c =
    let a = c.access.inside in
    rw (← c.access.view_is) (wrote-same _ _ (access_parts (codes "access") (decimal a.general) a.request (map decimal (words_in a.reply))) (then_wrote (then_wrote (then_wrote (then_wrote c.put_headed.ensures c.put_question.ensures) c.put_all.ensures) c.put_reply.ensures) c.put_all-2.ensures))

use Rattle.std.proofs.Common.{◌∙◌, refl}
use Rattle.verify.specs.Judgement.{reached_at}
use Rattle.verify.proofs.HandLaws.{comes_back}
use Rattle.verify.proofs.pending_states.flow.Goals as goal

pub returns : goal.returns
returns c =
    c.keep_inside.ensures
    ∙ comes_back c.args.pending.now.items c.come_inside-state.new.pending.items c.args.unit c.args.state.value c.come_inside-state.result.value (reached_at c.args.pending.now.items c.args.unit)
    c.come_inside-state.ensures.rest refl c.come_inside-state.ensures.value

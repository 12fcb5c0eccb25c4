use Rattle.std.proofs.Common.{[], ◌∷◌}
use Rattle.std.specs.Prelude.{decimal, codes}
use Rattle.trace.specs.Text.{spaced, version_line, further_words}
use Rattle.trace.proofs.WrittenLemmas.{then_wrote, wrote-same}
use Rattle.trace.proofs.RoundLemmas.{head_parts}
use Rattle.trace.proofs.chronicles.put_head.Goals as goal

pub returns : goal.returns
returns g c =
    let s = c.args.scenario.now in
    wrote-same _ _ (head_parts (spaced (version_line c.args.version)) (codes "generals") (decimal s.generals ∷ codes "bound" ∷ decimal s.bound ∷ codes "commander" ∷ decimal s.commander ∷ codes "order" ∷ decimal s.order ∷ []) (further_words c.args.version s.patience s.rule))
    (then_wrote (then_wrote (then_wrote c.put_version.ensures c.put_campaign_of.ensures) c.put_further_of.ensures) c.put_all.ensures)

use Rattle.std.proofs.Common.{◌∙◌, sym, add-one}
use Rattle.std.specs.Prelude.{nat_le, slice_index}
use Rattle.std.proofs.lemmas.Option.{slice_get-get_or}
use Rattle.cli_tasks.proofs.StrangerLemmas.{found_here, none_more}
use Rattle.cli_tasks.proofs.strangers.stranger_among.Goals as goal

pub returns-then-is_stranger : goal.returns-then-is_stranger
returns-then-is_stranger c =
    sym (found_here (λ g. nat_le c.args.generals g) c.args.named.now c.loop-general.general-index (slice_index c.args.named.now c.loop-general.general-index) c.loop-general.invariant
    (slice_get-get_or c.args.named.now c.loop-general.general-index 0 c.loop-general-test.true) (sym c.is_stranger.ensures ∙ c.if-is_stranger.true))

pub loop-general-preserved : goal.loop-general-preserved
loop-general-preserved c =
    rw add-one (none_more (λ g. nat_le c.args.generals g) c.args.named.now c.loop-general.general-index (slice_index c.args.named.now c.loop-general.general-index) c.loop-general.invariant
    (slice_get-get_or c.args.named.now c.loop-general.general-index 0 c.loop-general-test.true) (sym c.is_stranger.ensures ∙ c.if-is_stranger.false))

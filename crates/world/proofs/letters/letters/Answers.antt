-- One more letter is made.
use Rattle.std.proofs.Common.{◌∙◌, sym, arith}
use Rattle.world.proofs.letters.letters.Goals as goal

pub write-requires-clause-run : goal.write-requires-clause-run
write-requires-clause-run c t a there acting =
    let g = c.loop-general.general in
    c.requires.runs g t a (sym (c.loop-general.invariant.drafts g (omega arith)) ∙ there) (sym (c.loop-general.invariant.parts g (omega arith)) ∙ acting)

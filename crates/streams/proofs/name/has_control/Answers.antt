use Rattle.std.proofs.Common.{rules}
use Rattle.std.specs.Char.{is_control}
use Rattle.std.proofs.lemmas.Iterator.{YieldsList-from_chars}
use Rattle.std.proofs.lemmas.Iterator.Search.{any_from_yields_List}
use Rattle.streams.specs.Names.{has_control}
use Rattle.streams.proofs.name.has_control.Goals as goal

pub returns : goal.returns
unfolding has_control
returns c =
    any_from_yields_List is_control _ _ _ c.any.ensures.ran (YieldsList-from_chars c.args.name.now c.utf8.name cc) (λ x b q k. search rules)

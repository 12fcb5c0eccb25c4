-- A general without an activation keeps his part.
use Rattle.std.proofs.Common.{inl, inr, refl, rules}
use Rattle.std.proofs.lemmas.Option.{slice_get_read}
use Rattle.world.proofs.Holding.{idle_turn}
use Rattle.world.proofs.parts.turn.Goals as goal

pub returns-in-Silent-clause-done : goal.returns-in-Silent-clause-done
returns-in-Silent-clause-done c =
    idle_turn c.args.parts.now.items c.args.board.now c.args.general c.args.round c.args.general c.index_mut.result.now refl
    (slice_get_read c.args.parts.now.items c.len.result c.args.general c.index_mut.result.now (search rules) c.if-place-len.false c.index_mut.ensures.value) (inl c.in-Silent.is)

pub returns-in-Posted-clause-done : goal.returns-in-Posted-clause-done
returns-in-Posted-clause-done c =
    idle_turn c.args.parts.now.items c.args.board.now c.args.general c.args.round c.args.general c.index_mut.result.now refl
    (slice_get_read c.args.parts.now.items c.len.result c.args.general c.index_mut.result.now (search rules) c.if-place-len.false c.index_mut.ensures.value) (inr c.in-Posted.is)

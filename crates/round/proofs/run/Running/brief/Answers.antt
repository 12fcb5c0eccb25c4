-- At its start an activation is in a run with any context.
use Rattle.std.proofs.Common.{◌≡◌, ◌∙◌, ℕ, Ok, List, ap, sym, subst, arith, length}
use Rattle.semantics.specs.Relay.{IsContext}
use Rattle.round.specs.Activation.{started}
use Rattle.round.proofs.Contexts.{context_is}
use Rattle.round.proofs.Values.{all_told}
use Rattle.round.proofs.Briefing.{briefed, briefed_live}
use Rattle.round.proofs.run.Running.brief.Goals as goal

pub write_context_after-requires-clause-room : goal.write_context_after-requires-clause-room
write_context_after-requires-clause-room c =
    let long : length c.self.inside.context.items ≡ 4096 = c.self.invariant.context.long in
    let o = c.self.inside.context.ok in
    let l = o.0 in let r = o.1 in omega arith

pub invariant_of-self : goal.invariant_of-self
invariant_of-self c =
    let is = all_told {E = ℕ} (Ok c.write_context_after.new.bytes) c.args.scenario.now c.args.told.now c.args.general c.rounds.result c.rounds.ensures c.write_context_after.ensures.context c.requires.told.0 c.requires.told.1 in
    briefed_live _ c.args.self.now c.write_context_after.new.bytes.items c.self.invariant c.self.view_is c.requires.start
    (subst (λ (l : List ℕ). IsContext l) (sym is) (context_is c.args.scenario.now c.requires.told.0 c.args.general))

pub returns : goal.returns
returns c before told =
    let is = all_told {E = ℕ} (Ok c.write_context_after.new.bytes) c.args.scenario.now c.args.told.now c.args.general c.rounds.result c.rounds.ensures c.write_context_after.ensures.context before told in
    let a = c.args.self.now in
    briefed _ a c.write_context_after.new.bytes.items c.self.view_is c.requires.start ∙ ap (λ (l : List ℕ). started a.patience a.program l a.relay) is

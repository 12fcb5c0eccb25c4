-- The entry names a general, or nobody.
use Rattle.std.proofs.Common.{◌≡◌, ◌≤◌, ◌∙◌, sym, ap, List, arith}
use Rattle.round.specs.Scenario.{Scenario}
use Rattle.world.specs.declared.event.Event.{Event}
use Rattle.world.specs.Kind.{run}
use Rattle.world.proofs.Listed.{line_none, entries_ok}
use Rattle.world.proofs.campaign.play_entry.Goals as goal

pub returns-then-repeat-generals : goal.returns-then-repeat-generals
returns-then-repeat-generals g c =
    let w = g.W.PlayableWorld.seen c.args.world.now in
    let count : c.generals.result ≡ w.scenario.generals = c.generals.ensures.same ∙ ap (λ (s : Scenario). s.generals) c.campaign.ensures.value in
    let past = c.if-repeat-generals.true in
    let few : w.scenario.generals ≤ c.args.repeat.general = omega (arith, past, count) in
    sym (ap (λ (l : List Event). run g.W.PlayableWorld.kind w l) (line_none w.scenario c.args.repeat.general c.args.repeat.times few))

pub returns : goal.returns
returns g c =
    let w = g.W.PlayableWorld.seen c.args.world.now in
    let count : c.generals.result ≡ w.scenario.generals = c.generals.ensures.same ∙ ap (λ (s : Scenario). s.generals) c.campaign.ensures.value in
    let inside = c.if-repeat-generals.false in
    entries_ok g.W.PlayableWorld.kind c.repeated.result w (g.W.PlayableWorld.seen c.repeated.new.world) c.args.repeat.general c.args.repeat.times c.from.result (omega (arith, inside, count)) c.from.ensures c.repeated.ensures

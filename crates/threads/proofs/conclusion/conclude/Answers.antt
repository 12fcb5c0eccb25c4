use Rattle.std.proofs.Common.{◌≡◌, suc, List, All, refl, sym, ap, subst, ◌∙◌}
use Rattle.board.specs.Board.{Access, IsLegal}
use Rattle.round.specs.Letters.{Letter, messages}
use Rattle.world.specs.Lists.{replayed, names_in}
use Rattle.world.specs.Chronicle.{Chronicle, decisions, chronicle_of}
use Rattle.world.specs.Replay.{replay_of}
use Rattle.world.specs.Safety.{IsShort}
use Rattle.world.specs.World.{oral_kind}
use Rattle.world.proofs.Campaigns.{oral_campaigns}
use Rattle.world.proofs.Lasting.{replayed_complete}
use Rattle.world.proofs.Listed.{replayed_finished}
use Rattle.world.proofs.Promised.{safe_throughout, whole_told}
use Rattle.world.proofs.Outcomes.{finished_agree, finished_verdict, finished_well}
use Rattle.threads.proofs.Concluded.{concluded, all_short}
use Rattle.threads.proofs.conclusion.conclude.Goals as goal

pub returns-clause-replay : goal.returns-clause-replay
returns-clause-replay c =
    let s = c.args.scenario in
    let accesses : c.of.result.accesses ≡ c.args.accesses.items = ap (λ (x : Chronicle). x.accesses) c.of.ensures in
    c.of.ensures ∙ (concluded s c.args.accesses.items c.args.rows.items c.recall.ensures c.requires.legal c.requires.accounted c.args.orders.items c.requires.decisions
    ∙ ap (λ (ledger : List Access). chronicle_of (replay_of s ledger)) (sym accesses))

pub returns-clause-complete : goal.returns-clause-complete
returns-clause-complete c = replayed_complete oral_kind c.args.scenario (oral_campaigns c.args.scenario c.recall.ensures) (names_in 1 c.of.result.accesses (suc c.args.scenario.bound))

pub returns-clause-safe : goal.returns-clause-safe
returns-clause-safe c = safe_throughout oral_kind oral_campaigns c.args.scenario (replayed c.args.scenario (names_in 1 c.of.result.accesses (suc c.args.scenario.bound))) c.recall.ensures

pub returns-clause-whole : goal.returns-clause-whole
returns-clause-whole c =
    whole_told c.args.scenario (replayed c.args.scenario (names_in 1 c.of.result.accesses (suc c.args.scenario.bound))) c.of.result c.recall.ensures (returns-clause-complete c) (returns-clause-replay c)

pub returns-clause-legal : goal.returns-clause-legal
returns-clause-legal c = subst (λ (ledger : List Access). IsLegal c.args.scenario.board ledger) (sym (ap (λ (x : Chronicle). x.accesses) c.of.ensures)) c.requires.legal

pub returns-clause-short : goal.returns-clause-short
returns-clause-short c =
    subst (λ (rows : List (List Letter)). All (λ row. All IsShort row) rows) (sym (ap (λ (x : Chronicle). x.letters) c.of.ensures))
    (all_short c.args.scenario c.args.accesses.items c.args.rows.items c.recall.ensures c.requires.legal c.requires.accounted)

pub returns-clause-decisions : goal.returns-clause-decisions
returns-clause-decisions c =
    ap (λ (x : Chronicle). x.decisions) c.of.ensures ∙ (c.requires.decisions ∙ ap (λ (rows : List (List Letter)). decisions c.args.scenario (messages rows)) (sym (ap (λ (x : Chronicle). x.letters) c.of.ensures)))

pub returns-clause-agree : goal.returns-clause-agree
returns-clause-agree c =
    let s = c.args.scenario in let names = names_in 1 c.of.result.accesses (suc s.bound) in
    finished_agree s (replayed s names) c.of.result c.recall.ensures (replayed_finished oral_kind oral_campaigns s names (replay_of s c.of.result.accesses) c.recall.ensures refl) (returns-clause-replay c)

pub returns-clause-verdict : goal.returns-clause-verdict
returns-clause-verdict c =
    let s = c.args.scenario in let names = names_in 1 c.of.result.accesses (suc s.bound) in
    finished_verdict s (replayed s names) c.of.result c.recall.ensures (replayed_finished oral_kind oral_campaigns s names (replay_of s c.of.result.accesses) c.recall.ensures refl) (returns-clause-replay c)

pub returns-clause-well : goal.returns-clause-well
returns-clause-well c =
    let s = c.args.scenario in let names = names_in 1 c.of.result.accesses (suc s.bound) in
    finished_well s (replayed s names) c.of.result c.recall.ensures (replayed_finished oral_kind oral_campaigns s names (replay_of s c.of.result.accesses) c.recall.ensures refl) (returns-clause-replay c)

pub returns-clause-accesses : goal.returns-clause-accesses
returns-clause-accesses c = ap (λ (x : Chronicle). x.accesses) c.of.ensures

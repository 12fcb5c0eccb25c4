use Rattle.std.proofs.Common.{suc, List, sym, ap, subst, ◌∙◌}
use Rattle.std.specs.Prelude.{All}
use Rattle.board.specs.Board.{Access, IsLegal}
use Rattle.round.specs.Letters.{Letter}
use Rattle.world.specs.Chronicle.{Chronicle}
use Rattle.world.specs.KindLists.{names_in, replay_world, replayed}
use Rattle.world.specs.Safety.{IsShort}
use Rattle.world.proofs.Lasting.{replayed_complete}
use Rattle.world.proofs.Promised.{safe_throughout}
use Rattle.signed.specs.Chronicle.{signed_chronicle_of, signed_decisions}
use Rattle.signed.specs.Kind.{signed_kind}
use Rattle.signed.proofs.Promised.{promised_agree, promised_letters, promised_verdict, promised_well}
use Rattle.signed.proofs.Worlds.{signed_campaigns}
use Rattle.signed_threads.proofs.Concluded.{concluded, all_short}
use Rattle.signed_threads.proofs.conclusion.conclude.Goals as goal

pub returns-clause-accesses : goal.returns-clause-accesses
returns-clause-accesses c = ap (λ (x : Chronicle). x.accesses) c.of.ensures

pub returns-clause-replay : goal.returns-clause-replay
returns-clause-replay c =
    let s = c.args.scenario in
    c.of.ensures ∙ (concluded s c.args.accesses.items c.args.rounds.items c.recall.ensures c.requires.legal c.requires.accounted c.args.decisions.items c.requires.decisions
    ∙ ap (λ (ledger : List Access). signed_chronicle_of (replay_world signed_kind s ledger)) (sym (returns-clause-accesses c)))

pub returns-clause-complete : goal.returns-clause-complete
returns-clause-complete c = replayed_complete signed_kind c.args.scenario (signed_campaigns c.args.scenario c.recall.ensures) (names_in 1 c.of.result.accesses (suc c.args.scenario.bound))

pub returns-clause-safe : goal.returns-clause-safe
returns-clause-safe c = safe_throughout signed_kind signed_campaigns c.args.scenario (replayed signed_kind c.args.scenario (names_in 1 c.of.result.accesses (suc c.args.scenario.bound))) c.recall.ensures

pub returns-clause-legal : goal.returns-clause-legal
returns-clause-legal c = subst (λ (ledger : List Access). IsLegal c.args.scenario.board ledger) (sym (returns-clause-accesses c)) c.requires.legal

pub returns-clause-short : goal.returns-clause-short
returns-clause-short c =
    subst (λ (rows : List (List Letter)). All (λ row. All IsShort row) rows) (sym (ap (λ (x : Chronicle). x.letters) c.of.ensures))
    (all_short c.args.scenario c.args.accesses.items c.args.rounds.items c.recall.ensures c.requires.legal c.requires.accounted)

pub returns-clause-decisions : goal.returns-clause-decisions
returns-clause-decisions c =
    ap (λ (x : Chronicle). x.decisions) c.of.ensures ∙ (c.requires.decisions ∙ ap (λ (rows : List (List Letter)). signed_decisions c.args.scenario rows) (sym (ap (λ (x : Chronicle). x.letters) c.of.ensures)))

pub returns-clause-whole : goal.returns-clause-whole
returns-clause-whole c =
    promised_letters c.args.scenario (replayed signed_kind c.args.scenario (names_in 1 c.of.result.accesses (suc c.args.scenario.bound))) c.of.result c.recall.ensures (returns-clause-complete c) (returns-clause-replay c)

pub returns-clause-agree : goal.returns-clause-agree
returns-clause-agree c =
    promised_agree c.args.scenario (replayed signed_kind c.args.scenario (names_in 1 c.of.result.accesses (suc c.args.scenario.bound))) c.of.result c.recall.ensures (returns-clause-complete c) (returns-clause-replay c)

pub returns-clause-verdict : goal.returns-clause-verdict
returns-clause-verdict c =
    promised_verdict c.args.scenario (replayed signed_kind c.args.scenario (names_in 1 c.of.result.accesses (suc c.args.scenario.bound))) c.of.result c.recall.ensures (returns-clause-complete c) (returns-clause-replay c)

pub returns-clause-well : goal.returns-clause-well
returns-clause-well c =
    promised_well c.args.scenario (replayed signed_kind c.args.scenario (names_in 1 c.of.result.accesses (suc c.args.scenario.bound))) c.of.result c.recall.ensures (returns-clause-complete c) (returns-clause-replay c)

use Rattle.std.proofs.Common.{ℕ, List, [], ◌∷◌, ◌∙◌, ap}
use Rattle.label.specs.Lieutenants.{lieutenants}
use Rattle.board.specs.Board.{Access}
use Rattle.round.specs.Scenario.{Scenario}
use Rattle.round.specs.Letters.{Letter}
use Rattle.world.specs.declared.verdict.Verdict.{Verdict}
use Rattle.trace.specs.Text.{decision_lines, head_lines, lines_in, round_lines, text, text_in, verdict_line}
use Rattle.trace.proofs.WrittenLemmas.{then_wrote, wrote-same}
use Rattle.trace.proofs.RoundLemmas.{chronicle_parts}
use Rattle.trace.proofs.chronicles.put_chronicle.Goals as goal

pub returns : goal.returns
unfolding lines_in text_in
returns g c =
    let d = c.args.chronicle.now in
    let s = d.scenario in
    let head = wrote-same _ _ (ap (λ (t : Scenario). text (head_lines c.args.version t)) c.scenario.ensures) c.put_head.ensures in
    let rounds =
    wrote-same _ _ (ap (λ (xs : List Access). text (round_lines 1 xs c.letters.result.now)) c.accesses.ensures ∙ ap (λ (ls : List (List Letter)). text (round_lines 1 d.accesses ls)) c.letters.ensures) c.put_rounds.ensures in
    let decisions =
    wrote-same _ _ (ap (λ (t : Scenario). text (decision_lines t (lieutenants t.generals t.commander) c.decisions.result.now)) c.scenario-2.ensures
    ∙ ap (λ (ds : List ℕ). text (decision_lines s (lieutenants s.generals s.commander) ds)) c.decisions.ensures) c.put_decisions.ensures in
    let verdict = wrote-same _ _ (ap (λ (v : Verdict). text (verdict_line v ∷ [])) c.verdict.ensures) c.put_verdict.ensures in
    wrote-same _ _ (chronicle_parts (head_lines c.args.version s) (round_lines 1 d.accesses d.letters) (decision_lines s (lieutenants s.generals s.commander) d.decisions) (verdict_line d.verdict ∷ []))
    (then_wrote (then_wrote (then_wrote head rounds) decisions) verdict)

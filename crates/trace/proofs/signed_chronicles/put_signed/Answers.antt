use Rattle.std.proofs.Common.{ℕ, List, [], ◌∷◌, ◌∙◌, ap}
use Rattle.label.specs.Lieutenants.{lieutenants}
use Rattle.round.specs.Scenario.{Scenario}
use Rattle.signed.specs.Sent.{sent_in}
use Rattle.world.specs.declared.verdict.Verdict.{Verdict}
use Rattle.trace.specs.SignedText.{head_lines, letter_lines, signed_lines, signed_text}
use Rattle.trace.specs.Text.{decision_lines, rounds_told, text, verdict_line}
use Rattle.trace.proofs.RoundLemmas.{chronicle_parts}
use Rattle.trace.proofs.WrittenLemmas.{then_wrote, wrote-same}
use Rattle.trace.proofs.signed_chronicles.put_signed.Goals as goal

pub returns : goal.returns
unfolding signed_lines signed_text
returns g c =
    let d = c.args.chronicle.now in
    let s = d.scenario in
    let head = wrote-same _ _ (ap (λ (t : Scenario). text (head_lines t)) c.scenario.ensures) c.put_signed_head.ensures in
    let decisions =
    wrote-same _ _ (ap (λ (t : Scenario). text (decision_lines t (lieutenants t.generals t.commander) c.decisions.result.now)) c.scenario-2.ensures
    ∙ ap (λ (ds : List ℕ). text (decision_lines s (lieutenants s.generals s.commander) ds)) c.decisions.ensures) c.put_decisions.ensures in
    let verdict = wrote-same _ _ (ap (λ (v : Verdict). text (verdict_line v ∷ [])) c.verdict.ensures) c.put_verdict.ensures in
    wrote-same _ _ (chronicle_parts (head_lines s) (rounds_told (letter_lines (sent_in s d.letters)) d.accesses 1 d.letters) (decision_lines s (lieutenants s.generals s.commander) d.decisions) (verdict_line d.verdict ∷ []))
    (then_wrote (then_wrote (then_wrote head c.put_signed_rounds.ensures) decisions) verdict)

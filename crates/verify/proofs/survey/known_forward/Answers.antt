use Rattle.std.proofs.Common.{◌≡◌, ◌∙◌, ◌<◌, ◌+◌, List, ◌∷◌, [], Option, Some, arith, add-one, ap, sym, subst, length}
use Rattle.std.proofs.lemmas.List.{length-append}
use Rattle.insn.specs.Program.{slots_of}
use Rattle.verify.specs.declared.error.VerifyError.{VerifyError}
use Rattle.verify.specs.declared.state.AbsState.{AbsState}
use Rattle.verify.specs.Judgement.{passed_to}
use Rattle.verify.specs.KnownAtUnits.{IsSurvey}
use Rattle.verify.proofs.Walk.{forward_of_structure}
use Rattle.verify.proofs.PassLaws.{length-opens}
use Rattle.verify.proofs.UnitRuns.{room_on}
use Rattle.verify.proofs.Surveys.{AreKnown, known_more, none_known, stops_so, survey_stopped, survey_through}
use Rattle.verify.proofs.survey.known_forward.Goals as goal

pub pass_units-requires-clause-forward : goal.pass_units-requires-clause-forward
pass_units-requires-clause-forward c = forward_of_structure c.args.program.now c.requires

pub loop-unit-init : goal.loop-unit-init
loop-unit-init c = record {
  room = length-opens c.args.program.now c.in_ok-pending.pending.items c.in_ok-pending.ensures;
  long = c.in_ok-codes.ensures ∙ c.units.ensures.units;
  comes = c.in_ok-pending.ensures;
  known = none_known c.args.program.now c.in_ok-states.states.items c.in_ok-states.ensures.items;
  so_far = ap (λ (states : List (Option AbsState)). length states) c.in_ok-states.ensures.items;
}

pub loop-unit-preserved : goal.loop-unit-preserved
loop-unit-preserved c =
    let old = c.loop-unit.pending.items in
    let unit = c.loop-unit.unit in
    record {
      room = room_on c.args.program.now unit old c.pass_units.new.pending.items c.loop-unit.invariant.comes c.in-Ok.ensures.passed c.loop-unit.invariant.room;
      long = c.in-Ok.ensures.long ∙ c.loop-unit.invariant.long;
      comes = c.in-Ok.ensures.passed;
      known = subst (λ (s : List (Option AbsState)). AreKnown c.args.program.now s) (sym c.in_ok-push.ensures.items)
          (known_more c.args.program.now c.loop-unit.states.items old c.kept.result unit c.loop-unit.invariant.known c.loop-unit.invariant.so_far c.loop-unit.invariant.comes c.kept.ensures);
      so_far = ap length c.in_ok-push.ensures.items ∙ (length-append c.loop-unit.states.items (c.kept.result ∷ []) ∙ ap (λ n. n + 1) c.loop-unit.invariant.so_far);
    }

pub returns-in-Err : goal.returns-in-Err
returns-in-Err c =
    let program = c.args.program.now in
    let old = c.loop-unit.pending.items in
    let unit = c.loop-unit.unit in
    let units = c.units-unit-end.ensures.units in
    let inside : unit < length (slots_of program) = omega arith in
    let stops = ap (passed_to program) (sym (add-one unit))
    ∙ stops_so (passed_to program (unit + 1)) c.in-Err.fault c.in_ok-named-in-Err.ensures.named c.in-Err.ensures.answers in
    let more = ap length c.in_ok-push.ensures.items ∙ (length-append c.loop-unit.states.items (c.kept.result ∷ []) ∙ ap (λ n. n + 1) c.loop-unit.invariant.so_far) in
    let known = subst (λ (s : List (Option AbsState)). AreKnown program s) (sym c.in_ok-push.ensures.items)
    (known_more program c.loop-unit.states.items old c.kept.result unit c.loop-unit.invariant.known c.loop-unit.invariant.so_far c.loop-unit.invariant.comes c.kept.ensures) in
    subst (λ (fault : VerifyError). IsSurvey program c.push.new.self.items (Some fault)) (sym c.in_ok-named-in-Err.ensures.same)
    (survey_stopped program c.push.new.self.items unit c.in-Err.fault c.requires known more inside stops)

pub returns : goal.returns
returns c =
    let units = c.units-unit-end.ensures.units in
    let last : c.loop-unit.unit ≡ length (slots_of c.args.program.now) = omega arith in
    survey_through c.args.program.now c.loop-unit.states.items c.loop-unit.pending.items c.loop-unit.unit c.requires c.loop-unit.invariant.known c.loop-unit.invariant.so_far last c.loop-unit.invariant.comes

use Rattle.std.proofs.Common.{rules, ◌≡◌, ◌∙◌, w32, ap, sym, subst, Option, Some}
use Rattle.std.proofs.lemmas.Int.{to_z-of_z}
use Rattle.std.specs.Prelude.{Ok}
use Rattle.semantics.specs.declared.request.Helper.{Helper}
use Rattle.semantics.specs.Call.{helper_of}
use Rattle.helper.specs.Table.{arguments_of}
use Rattle.absval.specs.NumberSets.{within}
use Rattle.verify.specs.Reasons.{unless, outcome}
use Rattle.verify.specs.Calls.{answer_of, arguments_reason, window_reason, helper_reason, known_behind}
use Rattle.verify.specs.Transfer.{called}
use Rattle.verify.proofs.CallChecks.{passed, err_is, refused_for, accepted_with, arguments_refused, window_refused, call_left}
use Rattle.verify.proofs.calls.call.Goals as goal

pub returns-in_err-check_arguments : goal.returns-in_err-check_arguments
returns-in_err-check_arguments c =
    let a = c.args.state.now in
    let found : helper_of c.args.number ≡ Some c.in-Some.helper = ap helper_of (sym (to_z-of_z w32 c.args.number c.ranges.number)) ∙ sym c.in-Some.ensures in
    let checked : c.check_arguments.result ≡ answer_of (arguments_reason (arguments_of c.in-Some.helper) 1 a.registers) = search rules in
    let same = err_is c.from_residual.result c.in_err-check_arguments.field-0.0 c.from_residual.ensures.1 in
    subst (λ (o : Option Helper). outcome c.from_residual.result a ≡ unless (helper_reason o a) (called o a)) (sym found)
    (arguments_refused c.in-Some.helper a a (called (Some c.in-Some.helper) a) c.from_residual.result c.in_err-check_arguments.field-0.0 same
    (same ∙ (sym c.in_err-check_arguments.was ∙ checked)))

pub returns-in_err-pass_window : goal.returns-in_err-pass_window
returns-in_err-pass_window c =
    let a = c.args.state.now in
    let found : helper_of c.args.number ≡ Some c.in-Some.helper = ap helper_of (sym (to_z-of_z w32 c.args.number c.ranges.number)) ∙ sym c.in-Some.ensures in
    let checked : c.check_arguments.result ≡ answer_of (arguments_reason (arguments_of c.in-Some.helper) 1 a.registers) = search rules in
    let same = err_is c.from_residual-in_err-pass_window.result c.in_err-pass_window.field-0.0 c.from_residual-in_err-pass_window.ensures.1 in
    subst (λ (o : Option Helper). outcome c.from_residual-in_err-pass_window.result c.pass_window.new.state ≡ unless (helper_reason o a) (called o a)) (sym found)
    (window_refused c.in-Some.helper a c.pass_window.new.state (called (Some c.in-Some.helper) a) c.from_residual-in_err-pass_window.result c.in_err-pass_window.field-0.0 same
    (passed c.check_arguments.result c.in_ok-check_arguments.field-0 (arguments_reason (arguments_of c.in-Some.helper) 1 a.registers) c.in_ok-check_arguments.was checked)
    (refused_for c.pass_window.result (window_reason c.in-Some.helper a) c.in_err-pass_window.field-0.0 c.pass_window.new.state _ c.in_err-pass_window.was c.pass_window.ensures))

pub returns : goal.returns
returns c =
    let a = c.args.state.now in
    let found : helper_of c.args.number ≡ Some c.in-Some.helper = ap helper_of (sym (to_z-of_z w32 c.args.number c.ranges.number)) ∙ sym c.in-Some.ensures in
    let checked : c.check_arguments.result ≡ answer_of (arguments_reason (arguments_of c.in-Some.helper) 1 a.registers) = search rules in
    let left = accepted_with c.pass_window.result (window_reason c.in-Some.helper a) c.in_ok-pass_window.field-0 c.pass_window.new.state _ c.in_ok-pass_window.was c.pass_window.ensures in
    subst (λ (o : Option Helper). Ok (record { registers = c.put_result.new.registers; stack = c.pass_window.new.state.stack }) ≡ unless (helper_reason o a) (called o a)) (sym found)
    (call_left c.in-Some.helper a c.pass_window.new.state c.put_result.new.registers
    (passed c.check_arguments.result c.in_ok-check_arguments.field-0 (arguments_reason (arguments_of c.in-Some.helper) 1 a.registers) c.in_ok-check_arguments.was checked) left.0 left.1
    (c.put_result.ensures ∙ ap (λ range. known_behind (within range) c.pass_window.new.state.registers) c.result.ensures.exact))

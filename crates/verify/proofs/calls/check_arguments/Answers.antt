use Rattle.std.proofs.Common.{◌≡◌, ◌∙◌, sym, subst}
use Rattle.absval.specs.declared.value.AbsVal.{AbsVal}
use Rattle.verify.specs.Calls.{answer_of, taken_reason}
use Rattle.verify.proofs.CallChecks.{passed, err_is, or_first, or_last, or_refused}
use Rattle.verify.proofs.calls.check_arguments.Goals as goal
use Rattle.verify.specs.Registers.{known_at}

pub returns-in_err-check_taken-2 : goal.returns-in_err-check_taken-2
returns-in_err-check_taken-2 c =
    let first = subst (λ (v : AbsVal). c.check_taken.result ≡ answer_of (taken_reason c.args.first v)) c.known_at.ensures c.check_taken.ensures in
    let second = subst (λ (v : AbsVal). c.check_taken-2.result ≡ answer_of (taken_reason c.args.second v)) c.known_at-2.ensures c.check_taken-2.ensures in
    let same = err_is c.from_residual-in_err-check_taken-2.result c.in_err-check_taken-2.field-0.0 c.from_residual-in_err-check_taken-2.ensures.1 in
    or_first (taken_reason c.args.first (known_at c.args.registers.now 1)) _ c.from_residual-in_err-check_taken-2.result
    (passed c.check_taken.result c.in_ok-check_taken.field-0 (taken_reason c.args.first (known_at c.args.registers.now 1)) c.in_ok-check_taken.was first)
    (or_refused (taken_reason c.args.second (known_at c.args.registers.now 2)) _ c.from_residual-in_err-check_taken-2.result c.in_err-check_taken-2.field-0.0 same (same ∙ (sym c.in_err-check_taken-2.was ∙ second)))

pub returns : goal.returns
returns c =
    let first = subst (λ (v : AbsVal). c.check_taken.result ≡ answer_of (taken_reason c.args.first v)) c.known_at.ensures c.check_taken.ensures in
    let second = subst (λ (v : AbsVal). c.check_taken-2.result ≡ answer_of (taken_reason c.args.second v)) c.known_at-2.ensures c.check_taken-2.ensures in
    let third = subst (λ (v : AbsVal). c.check_taken-3.result ≡ answer_of (taken_reason c.args.third v)) c.known_at-3.ensures c.check_taken-3.ensures in
    or_first (taken_reason c.args.first (known_at c.args.registers.now 1)) _ c.check_taken-3.result
    (passed c.check_taken.result c.in_ok-check_taken.field-0 (taken_reason c.args.first (known_at c.args.registers.now 1)) c.in_ok-check_taken.was first)
    (or_first (taken_reason c.args.second (known_at c.args.registers.now 2)) _ c.check_taken-3.result
    (passed c.check_taken-2.result c.in_ok-check_taken-2.field-0 (taken_reason c.args.second (known_at c.args.registers.now 2)) c.in_ok-check_taken-2.was second)
    (or_last (taken_reason c.args.third (known_at c.args.registers.now 3)) c.check_taken-3.result third))

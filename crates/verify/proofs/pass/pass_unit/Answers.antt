use Rattle.std.proofs.Common.{◌≡◌, ◌∙◌, ◌+◌, Ok, Option, Some, None, ap, sym, subst, Result}
use Rattle.insn.specs.declared.insn.Insn.{Insn}
use Rattle.insn.specs.Program.{instruction_at}
use Rattle.verify.specs.declared.error.VerifyError.{VerifyError}
use Rattle.verify.specs.Judgement.{KnownSoFar, reached_at, passed_at}
use Rattle.verify.specs.Passes.{Comes}
use Rattle.verify.specs.Kept.{unboxed}
use Rattle.verify.proofs.EdgeEnds.{inside_of_forward}
use Rattle.verify.proofs.HandLaws.{nothing_taken, taken_next, passes_none, passes_some}
use Rattle.verify.proofs.pass.pass_unit.Goals as goal

pub pass_state-requires-clause-inside : goal.pass_state-requires-clause-inside
pass_state-requires-clause-inside c =
    inside_of_forward c.args.program.now c.args.unit c.in-Some-at.insn _ c.requires.forward (sym c.in-Some-at.ensures.found) c.requires.room

pub returns-in_default-clause-comes : goal.returns-in_default-clause-comes
returns-in_default-clause-comes c = λ reached h.
    let none : reached_at reached c.args.unit ≡ None = sym h.here ∙ ap unboxed c.in_default.is in
    let same : reached ≡ c.args.pending.now.items = nothing_taken reached c.args.unit none ∙ sym h.rest in
    taken_next _ (c.args.unit + 1) c.args.pending.now.items c.take_next.new.pending.items c.take_next.result
    (passes_none c.args.unit (instruction_at c.args.program.now c.args.unit) (reached_at reached c.args.unit) reached none ∙ ap (λ (r : KnownSoFar). Ok r) same)
    c.take_next.ensures.value c.take_next.ensures.rest

pub returns-in_default-at-clause-comes : goal.returns-in_default-at-clause-comes
returns-in_default-at-clause-comes c = λ reached h.
    let back : c.put_back.new.pending.items ≡ reached = c.put_back.ensures reached (record { here = ap unboxed (sym c.in-Some.is) ∙ h.here; rest = h.rest }) in
    taken_next _ (c.args.unit + 1) c.put_back.new.pending.items c.take_next-in_default-at.new.pending.items c.take_next-in_default-at.result
    (ap (λ (o : Option Insn). passed_at c.args.unit o (reached_at reached c.args.unit) reached) (sym c.in_default-at.ensures.found) ∙ ap (λ (r : KnownSoFar). Ok r) (sym back))
    c.take_next-in_default-at.ensures.value c.take_next-in_default-at.ensures.rest

pub returns-clause-comes : goal.returns-clause-comes
returns-clause-comes c = λ reached h.
    let here : reached_at reached c.args.unit ≡ Some c.in-Some.state.value = sym h.here ∙ ap unboxed c.in-Some.is in
    subst (λ (wanted : Result KnownSoFar VerifyError). Comes wanted (c.args.unit + 1) c.pass_state.result c.pass_state.new.pending.items)
    (passes_some c.args.unit (instruction_at c.args.program.now c.args.unit) c.in-Some-at.insn (reached_at reached c.args.unit) c.in-Some.state.value reached c.args.pending.now.items
    (sym c.in-Some-at.ensures.found) here h.rest)
    c.pass_state.ensures

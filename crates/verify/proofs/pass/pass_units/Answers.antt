use Rattle.std.proofs.Common.{◌≡◌, ◌∙◌, ◌+◌, ◌<◌, ℕ, arith, rules, ap, sym, subst, Ok, length, length-set}
use Rattle.std.specs.Result.{result_err}
use Rattle.insn.specs.Program.{instruction_at}
use Rattle.verify.specs.Kept.{AtHand}
use Rattle.verify.specs.Judgement.{KnownSoFar, reached_at, passed_to}
use Rattle.verify.proofs.Taken.{length-passed_at}
use Rattle.verify.proofs.UnitRuns.{comes_on, answered, answers_err}
use Rattle.verify.proofs.HandLaws.{does_fault, length-at_hand}
use Rattle.verify.specs.Ready.{AreMade}
use Rattle.verify.proofs.ReadyLemmas.{made_more, none_made}
use Rattle.verify.proofs.pass.pass_units.Goals as goal

pub loop-unit-init : goal.loop-unit-init
loop-unit-init c = record {
  long = c.requires.codes;
  made = none_made c.args.program.now c.args.codes.now.items c.args.first;
  room = ap length c.take_next-hand.ensures.rest ∙ (length-set c.args.pending.now.items c.args.first _ ∙ c.requires.room);
  comes = (c.args.pending.now.items, c.requires.comes, record { here = c.take_next-hand.ensures.value; rest = c.take_next-hand.ensures.rest });
}

pub loop-unit-preserved : goal.loop-unit-preserved
loop-unit-preserved c =
    let before = c.loop-unit.invariant.comes in
    let behind = c.in_ok-hand.ensures.comes before.0 before.2 in
    let unit = c.loop-unit.unit in
    record {
      room = length-at_hand behind.0 c.pass_unit.new.pending.items (unit + 1) _ behind.2
          ∙ (length-passed_at unit (instruction_at c.args.program.now unit) (reached_at before.0 unit) before.0 behind.0 behind.1
          ∙ (sym (length-at_hand before.0 c.loop-unit.pending.items unit _ before.2) ∙ c.loop-unit.invariant.room));
      long = c.in_ok-hand.ensures.long ∙ c.loop-unit.invariant.long;
      made = made_more c.args.program.now c.loop-unit.codes.items c.pass_unit.new.codes.items c.args.first unit _ before.0 c.loop-unit.invariant.made before.1 before.2.here
          c.in_ok-hand.ensures.made c.in_ok-hand.ensures.others;
      comes = (behind.0, comes_on c.args.program.now unit before.0 behind.0 before.1 behind.1, behind.2);
    }

pub returns-in_err-hand-clause-answers : goal.returns-in_err-hand-clause-answers
returns-in_err-hand-clause-answers c =
    let before = c.loop-unit.invariant.comes in
    let unit = c.loop-unit.unit in
    let fault = c.in_err-hand.field-0.0 in
    let kept = c.pass_unit.new.pending.items in
    let inside : unit < c.args.end = omega arith in
    answers_err (result_err (passed_to c.args.program.now c.args.end)) c.from_residual.result fault (search rules)
    (answered c.args.program.now unit c.args.end before.0 kept fault inside before.1
    (does_fault _ (unit + 1) fault kept (c.in_err-hand.ensures.comes before.0 before.2)))

pub returns-clause-passed : goal.returns-clause-passed
returns-clause-passed c =
    let last : c.args.end ≡ c.loop-unit.unit = omega arith in
    let before = c.loop-unit.invariant.comes in
    let hand : AtHand before.0 c.args.end c.loop-unit.hand c.loop-unit.pending.items = rw last before.2 in
    ap (λ (n : ℕ). passed_to c.args.program.now n) last ∙ (before.1 ∙ ap (λ (r : KnownSoFar). Ok r) (sym (c.put_back.ensures before.0 hand)))

pub returns-clause-answers : goal.returns-clause-answers
returns-clause-answers c =
    let last : c.args.end ≡ c.loop-unit.unit = omega arith in
    ap (λ (n : ℕ). result_err (passed_to c.args.program.now n)) last ∙ ap result_err c.loop-unit.invariant.comes.1

pub returns-clause-made : goal.returns-clause-made
returns-clause-made c =
    let last : c.args.end ≡ c.loop-unit.unit = omega arith in
    subst (λ (end : ℕ). AreMade c.args.program.now c.loop-unit.codes.items c.args.first end) (sym last) c.loop-unit.invariant.made

pub returns-clause-long : goal.returns-clause-long
returns-clause-long c = c.loop-unit.invariant.long ∙ sym c.requires.codes

pub returns-in_err-hand-clause-long : goal.returns-in_err-hand-clause-long
returns-in_err-hand-clause-long c = c.in_err-hand.ensures.long ∙ (c.loop-unit.invariant.long ∙ sym c.requires.codes)

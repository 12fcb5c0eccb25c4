use Rattle.std.proofs.Common.{◌≡◌, ◌-◌, ◌∙◌, arith, suc, sym}
use Rattle.cli_report.proofs.TrimLemmas.{ends-solid, ends-white}
use Rattle.cli_report.proofs.lines.trimmed.Goals as goal

pub returns-then-not-is_white : goal.returns-then-not-is_white
returns-then-not-is_white c =
    let e : c.ends.size ≡ suc (c.ends.size - 1) = omega arith in
    ends-solid c.args.line.now c.ends.size (c.ends.size - 1) e (omega (arith, c.ends.invariant.0)) (sym c.is_white.ensures ∙ c.if-not-is_white.true) c.ends.invariant.1

pub ends-preserved : goal.ends-preserved
ends-preserved c =
    let e : c.ends.size ≡ suc (c.ends.size - 1) = omega arith in (
      omega (arith, c.ends.invariant.0),
      ends-white c.args.line.now c.ends.size (c.ends.size - 1) e (omega (arith, c.ends.invariant.0)) (sym c.is_white.ensures ∙ c.if-not-is_white.false) c.ends.invariant.1,
    )

-- The program that is searched is the one that was verified.
use Rattle.std.proofs.Common.{ℕ, List, subst}
use Rattle.std.specs.Prelude.{IfSome, IfNone}
use Rattle.insn.specs.declared.insn.Insn.{Insn}
use Rattle.capi.specs.Helpers.{IsAllowedAt, IsFirstForbidden}
use Rattle.capi.proofs.helpers.first_forbidden.Goals as goal

pub returns-clause-some : goal.returns-clause-some
returns-clause-some c =
    subst (λ (p : List Insn). IfSome c.first_in.result (λ found. IsFirstForbidden c.args.mask p found.0 found.1)) c.program.ensures.same c.first_in.ensures.some

pub returns-clause-none : goal.returns-clause-none
returns-clause-none c = subst (λ (p : List Insn). IfNone c.first_in.result ((unit : ℕ) → IsAllowedAt c.args.mask p unit)) c.program.ensures.same c.first_in.ensures.none

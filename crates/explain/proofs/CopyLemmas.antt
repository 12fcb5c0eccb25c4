-- The last copy of a register, unit by unit.
use Rattle.std.proofs.Common.{◌≡◌, ℕ, zero, suc, ◌-◌, ◌<◌, List, None, refl, ap, arith}
use Rattle.insn.specs.declared.insn.Insn.{Insn}
use Rattle.reaching.specs.declared.mark.UnitMark.{UnitMark}
use Rattle.explain.specs.Helps.{copy_at, or_else, last_copy}

pub no_copy : (program : List Insn) (marks : List UnitMark) (r unit : ℕ) → unit ≡ 0 → last_copy program marks r unit ≡ None
unfolding last_copy
no_copy program marks r zero e = refl
no_copy program marks r (suc n) e = absurd (omega arith)

pub copy_so : (program : List Insn) (marks : List UnitMark) (r unit : ℕ) → 0 < unit →
    last_copy program marks r unit ≡ or_else (copy_at program marks r (unit - 1)) (last_copy program marks r (unit - 1))
unfolding last_copy
copy_so program marks r zero e = absurd (omega arith)
copy_so program marks r (suc n) e =
    let same : n ≡ suc n - 1 = omega arith in
    ap (λ (k : ℕ). or_else (copy_at program marks r k) (last_copy program marks r k)) same

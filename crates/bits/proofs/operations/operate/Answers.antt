use Rattle.std.proofs.Common.{ℕ, subst, arith}
use Rattle.bits.proofs.BitRows.{AreBits, table_has}
use Rattle.bits.proofs.operations.operate.Goals as goal

pub returns-clause-holds : goal.returns-clause-holds
returns-clause-holds c = λ x y h k fits.
    let a : AreBits c.args.a = subst (λ (b : ℕ × ℕ). AreBits b) c.a.view_is (record { mask = omega arith; value = omega arith; apart = c.a.invariant }) in
    let b : AreBits c.args.b = subst (λ (b : ℕ × ℕ). AreBits b) c.b.view_is (record { mask = omega arith; value = omega arith; apart = c.b.invariant }) in
    rw (c.by_row.ensures.exact, c.used-a.ensures.exact, c.used-b.ensures.exact) (table_has c.args.width c.args.operation c.args.a c.args.b x y a b h k fits)

use Rattle.std.proofs.Common.{ℕ, ap, ◌≡◌, ◌^◌, ◌%◌, arith, ◌∙◌, sym}
use Rattle.std.proofs.lemmas.Nat.{pow_pos}
use Rattle.range.proofs.Growth.{shifted_over, passes}
use Rattle.range.proofs.shifts.shift_left.Goals as goal

pub returns-then-a-greatest-clause-exact : goal.returns-then-a-greatest-clause-exact
returns-then-a-greatest-clause-exact c =
    let ah : c.a.inside.hi ≡ c.args.a.1 = ap (λ (v : ℕ × ℕ). v.1) c.a.view_is in
    let al : c.a.inside.lo ≡ c.args.a.0 = ap (λ (v : ℕ × ℕ). v.0) c.a.view_is in
    let bh : c.b.inside.hi ≡ c.args.b.1 = ap (λ (v : ℕ × ℕ). v.1) c.b.view_is in
    let bl : c.b.inside.lo ≡ c.args.b.0 = ap (λ (v : ℕ × ℕ). v.0) c.b.view_is in
    let h = passes c.a.inside.hi c.greatest.result (2 ^ (c.b.inside.lo % c.bit_count.result)) (pow_pos _) (omega arith) in
    let g = rw c.bit_count.ensures at h in
    c.of_width-then-a-greatest.ensures.exact ∙ sym (shifted_over c.args.width c.args.a.0 c.args.a.1 c.args.b.0 c.args.b.1 (rw (← ah, ← bl) (omega arith)))

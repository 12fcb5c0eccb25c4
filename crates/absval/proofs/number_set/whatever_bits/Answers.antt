use Rattle.std.proofs.Common.{rules, ◌≡◌, ◌≤◌, ◌∙◌, ℕ, ap, sym, arith}
use Rattle.absval.specs.declared.number_set.NumberSet.{NumberSet}
use Rattle.absval.specs.NumberSets.{single}
use Rattle.absval.proofs.SetRows.{one_settled, ends_settled}
use Rattle.absval.proofs.number_set.whatever_bits.Goals as goal

pub returns-then-is_single-clause-exact : goal.returns-then-is_single-clause-exact
returns-then-is_single-clause-exact c =
    let least : c.range.inside.lo ≡ c.args.range.0 = ap (λ (v : ℕ × ℕ). v.0) c.range.view_is in
    let one : c.args.range.0 ≡ c.args.range.1 = search rules in
    c.exactly.ensures.exact ∙ (ap (λ (n : ℕ). single n) least ∙ sym (one_settled c.args.width c.args.range one c.requires))

abbrev free : ℕ × ℕ → ℕ × ℕ → NumberSet
free p b = record { range = p; bits = b }

pub returns-clause-exact : goal.returns-clause-exact
returns-clause-exact c =
    let least : c.range.inside.lo ≡ c.args.range.0 = ap (λ (v : ℕ × ℕ). v.0) c.range.view_is in
    let greatest : c.range.inside.hi ≡ c.args.range.1 = ap (λ (v : ℕ × ℕ). v.1) c.range.view_is in
    let ordered : c.args.range.0 ≤ c.args.range.1 = omega (arith, c.range.invariant, least, greatest) in
    let several : c.args.range.0 ≡ c.args.range.1 → ⊥ = search rules in
    ap (λ (b : ℕ × ℕ). free c.args.range b) c.unknown.ensures.exact ∙ sym (ends_settled c.args.width c.args.range several ordered c.requires)

pub returns-clause-holds : goal.returns-clause-holds
returns-clause-holds c = λ x h. record { range = h; bits = c.unknown.ensures.holds x (omega (arith, h.1, c.requires)) }

use Rattle.std.proofs.Common.{ℕ, ◌-◌, ◌<◌, ◌≤◌, arith}
use Rattle.surveyor.specs.Numbers.{IsTold}
use Rattle.surveyor.proofs.NumberLemmas.{any_none, told_once}
use Rattle.surveyor.proofs.numbers.seeds.Goals as goal

pub returns-in_err-first-clause-refused : goal.returns-in_err-first-clause-refused
returns-in_err-first-clause-refused c =
    let none : (first last : ℕ) → IsTold c.args.word.now first last → first ≤ last → last < 18446744073709551615 → last - first < 10000000 → ⊥ =
    λ first last told ordered inside few. c.in_err-first.ensures.refused first last told ordered inside in
    any_none _ _ none

pub returns-else-last-first-lt-MOST_SEEDS-clause-refused : goal.returns-else-last-first-lt-MOST_SEEDS-clause-refused
returns-else-last-first-lt-MOST_SEEDS-clause-refused c = λ first last told ordered inside few.
    (let same = told_once c.args.word.now c.in_ok-first.first c.in_ok-first.last first last c.in_ok-first.ensures.told told in
    let a = same.0 in
    let b = same.1 in
    let many = c.if-last-first-lt-MOST_SEEDS.false in omega arith)

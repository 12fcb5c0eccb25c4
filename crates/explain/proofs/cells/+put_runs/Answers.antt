use Rattle.std.proofs.Common.{◌≡◌, ◌∙◌, ℕ, ◌-◌, ◌<◌, suc, ap, arith, string_bytes, sym}
use Rattle.std.specs.Prelude.{◌==◌}
use Rattle.explain.specs.Here.{held_here}
use Rattle.explain.proofs.AboutLemmas.{on_ok, some_left, runs_alike, runs_apart, runs_left}
use Rattle.explain.proofs.cells.+put_runs.Goals as goal

pub returns-then-is_same : goal.returns-then-is_same
returns-then-is_same t c =
    let less : c.args.more ≡ suc (c.args.more - 1) = omega arith in
    on_ok c.put_runs.result _ _ (λ h. runs_alike (string_bytes c.args.out.now) _ (held_here c.args.here.now) c.args.most c.args.first (c.args.held.content, c.args.held.setters) (c.held_here-next.result.content, c.held_here-next.result.setters) c.args.place c.args.more (c.args.more - 1)
    less c.held_here-next.ensures (sym c.is_same.ensures ∙ c.if-is_same.true) h) c.put_runs.ensures

pub returns-then-most-eq0 : goal.returns-then-most-eq0
returns-then-most-eq0 t c =
    let less : c.args.more ≡ suc (c.args.more - 1) = omega arith in
    let none : c.args.most ≡ 0 = omega arith in
    on_ok c.put_left.result _ _ (λ h. runs_left (string_bytes c.args.out.now) _ _ (held_here c.args.here.now) c.args.most c.args.first (c.args.held.content, c.args.held.setters) (c.held_here-next.result.content, c.held_here-next.result.setters) c.args.place c.args.more (c.args.more - 1)
    less (ap (λ (n : ℕ). n == 0) none) c.held_here-next.ensures (sym c.is_same.ensures ∙ c.if-is_same.false) c.in_ok-put_sourced.ensures h) c.put_left.ensures

pub returns : goal.returns
returns t c =
    let less : c.args.more ≡ suc (c.args.more - 1) = omega arith in
    let some : 0 < c.args.most = omega arith in
    on_ok c.put_runs-2.result _ _ (λ h. runs_apart (string_bytes c.args.out.now) _ _ (held_here c.args.here.now) c.args.most c.args.first (c.args.held.content, c.args.held.setters) (c.held_here-next.result.content, c.held_here-next.result.setters) c.args.place c.args.more (c.args.more - 1)
    less (some_left c.args.most some) c.held_here-next.ensures (sym c.is_same.ensures ∙ c.if-is_same.false) c.in_ok-put_ended.ensures h) c.put_runs-2.ensures

use Rattle.std.proofs.Common.{ℕ, ap, sym, ◌+◌, ◌∙◌}
use Rattle.std.specs.Prelude.{◌∷◌, [], length}
use Rattle.std.proofs.lemmas.List.{length-append}
use Rattle.threads.specs.Duties.{Duty}
use Rattle.threads.proofs.Numbered.{numbered_pushed}
use Rattle.threads.proofs.Tasks.{duties_more}
use Rattle.threads.proofs.conductor.tasks.Goals as goal

pub loop-general-preserved : goal.loop-general-preserved
loop-general-preserved g c =
    let old = c.loop-general.invariant in
    let items = c.in_ok-push.ensures.items in
    let task = c.in_ok-task.field-0 in record {
      duties = (λ before told. duties_more g.D.Delivered.kind c.args.scenario.now before c.loop-general.general c.loop-general.tasks.items c.push.new.self.items task items (old.duties before told) (c.in_ok-task.ensures.duty before told));
      count = ap length items ∙ (length-append c.loop-general.tasks.items (task ∷ []) ∙ ap (λ (n : ℕ). n + 1) old.count);
      own = numbered_pushed (λ (t : Duty). t.general) c.loop-general.tasks.items task c.push.new.self.items items (c.in_ok-task.ensures.general ∙ sym old.count) old.own;
    }

use Rattle.std.proofs.Common.{ℕ, ap, sym, ◌+◌, ◌∙◌}
use Rattle.std.specs.Prelude.{◌∷◌, [], length}
use Rattle.std.proofs.lemmas.List.{length-append}
use Rattle.threads.specs.declared.inbox.Inbox.{Inbox}
use Rattle.threads.proofs.Numbered.{numbered_pushed}
use Rattle.threads.proofs.camp.empty_inboxes.Goals as goal

pub loop-general-preserved : goal.loop-general-preserved
loop-general-preserved c =
    let old = c.loop-general.invariant in
    let items = c.in_ok-push.ensures.items in
    let inbox = c.new.result in record {
      count = ap length items ∙ (length-append c.loop-general.inboxes.items (inbox ∷ []) ∙ ap (λ (n : ℕ). n + 1) old.count);
      own = numbered_pushed (λ (i : Inbox). i.general) c.loop-general.inboxes.items inbox c.push.new.self.items items (c.new.ensures ∙ (c.from-in-loop-general.ensures ∙ sym old.count)) old.own;
    }

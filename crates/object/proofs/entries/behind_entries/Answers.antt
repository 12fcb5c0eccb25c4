use Rattle.std.proofs.Common.{◌≡◌, ℕ, ◌-◌, ◌+◌, arith, sym, ◌∙◌, ap}
use Rattle.object.specs.Entries.{behind_entries}
use Rattle.object.proofs.EntryLemmas.{entries_on, entries_break}
use Rattle.object.proofs.entries.behind_entries.Goals as goal

pub returns-in-None-clause-read : goal.returns-in-None-clause-read
returns-in-None-clause-read c =
    entries_break (c.args.entries - c.loop-done.done) c.args.count c.args.formats.now c.args.from c.args.bytes.now c.loop-done.next (omega arith) c.in-None.ensures.read
    ∙ sym c.loop-done.invariant.left

pub loop-done-preserved : goal.loop-done-preserved
loop-done-preserved c = record {
  inside = c.in-Some.ensures.within;
  left =
      let same : c.args.entries - c.loop-done.done - 1 ≡ c.args.entries - (c.loop-done.done + 1) = omega arith in
      c.loop-done.invariant.left
      ∙ (entries_on (c.args.entries - c.loop-done.done) c.args.count c.args.formats.now c.args.from c.args.bytes.now c.loop-done.next c.in-Some.behind (omega arith) c.in-Some.ensures.read
      ∙ ap (λ (n : ℕ). behind_entries n c.args.count c.args.formats.now c.args.from c.args.bytes.now c.in-Some.behind) same);
}

use Rattle.std.proofs.Common.{◌≡◌, ◌*◌, ◌<◌, ℕ, List, Bool, subst, arith}
use Rattle.std.specs.Prelude.{min}
use Rattle.absmem.specs.Known.{IsSetTo}
use Rattle.absmem.specs.Members.{word_at, members}
use Rattle.absmem.specs.Laws.{length-members}
use Rattle.absmem.proofs.Members.{IsPut, words_set, window_more, window_none}
use Rattle.absmem.proofs.cell_set.CellSet.set_across.Goals as goal

pub loop-number-init : goal.loop-number-init
loop-number-init c = (c.self.invariant, window_none c.args.value (members c.self.inside.words) c.args.place c.args.end)

pub invariant_of-self : goal.invariant_of-self
invariant_of-self c = c.loop-number.invariant.0

pub loop-number-preserved : goal.loop-number-preserved
loop-number-preserved c =
    let lt : c.loop-number.number < 8 = omega arith in
    let put : IsPut c.args.value _ (word_at c.loop-number.self-inside.words c.loop-number.number) c.put.result =
    subst (λ (mask : ℕ). IsPut c.args.value mask (word_at c.loop-number.self-inside.words c.loop-number.number) c.put.result) c.window-mask.ensures c.put.ensures in (
      words_set c.loop-number.self-inside.words c.loop-number.number c.put.result c.loop-number.invariant.0 lt c.put.type_inv,
      window_more c.args.value c.self.inside.words c.loop-number.self-inside.words c.loop-number.number c.args.place c.args.end c.put.result lt c.loop-number.invariant.0.count put c.loop-number.invariant.1,
    )

pub returns-clause-size : goal.returns-clause-size
returns-clause-size c = length-members c.loop-number.self-inside.words

pub returns-clause-window : goal.returns-clause-window
returns-clause-window c =
    let whole : min c.args.end (64 * c.loop-number.number) ≡ c.args.end = omega arith in
    let set : IsSetTo c.args.value (members c.self.inside.words) (members c.loop-number.self-inside.words) c.args.place c.args.end =
    subst (λ (n : ℕ). IsSetTo c.args.value (members c.self.inside.words) (members c.loop-number.self-inside.words) c.args.place n) whole c.loop-number.invariant.1 in
    subst (λ (flags : List Bool). IsSetTo c.args.value flags (members c.loop-number.self-inside.words) c.args.place c.args.end) c.self.view_is set

use Rattle.std.proofs.Common.{◌≡◌, ◌∙◌, ℤ, ◌/◌, ◌%◌, set, sym, subst, rules, length, length-set, ap, w32, to_z, of_z}
use Rattle.semantics.specs.Memory.{overwritten, pieces_of}
use Rattle.absmem.specs.declared.spill.Spill.TheVariants.{Whole}
use Rattle.absmem.specs.Known.{Known}
use Rattle.absmem.specs.Describes.{Describes}
use Rattle.absmem.proofs.StackRows.{pointer_described}
use Rattle.absmem.specs.Stacks.{put_pointer}
use Rattle.absmem.proofs.Whole.{pointer_is}
use Rattle.absmem.proofs.stack.AbsStack.put_pointer.Goals as goal

pub returns-clause-exact : goal.returns-clause-exact
returns-clause-exact c =
    let field : to_z w32 (of_z w32 c.offset.inside.at) ≡ c.offset.inside.at = search rules in
    let here : to_z w32 (of_z w32 c.offset.inside.at) ≡ c.args.offset = field ∙ c.offset.view_is in
    let put = subst (λ (o : ℤ). c.put.new.spills ≡ set c.clear.new.spills (c.args.place / 8) (Whole (c.args.place % 8) c.args.region o)) here c.put.ensures in
    let blocks = ap (λ spills. length spills) put ∙ (length-set c.clear.new.spills (c.args.place / 8) (Whole (c.args.place % 8) c.args.region c.args.offset) ∙ c.clear.ensures.size) in
    pointer_is (record { bytes = c.self.inside.bytes; spills = c.self.inside.spills }) (record { bytes = c.set.new.self; spills = c.put.new.spills }) c.set.ensures.size blocks c.args.place c.args.region c.args.offset c.clear.new.spills c.set.ensures.window
    c.clear.ensures.size c.clear.ensures.each put c.requires.within
    ∙ ap (put_pointer c.args.place c.args.region c.args.offset) c.self.view_is

pub returns-clause-holds : goal.returns-clause-holds
returns-clause-holds c = λ cells described long.
    let flags = ap (λ (known : Known). length known.bytes) (sym c.self.view_is) ∙ c.self.invariant.cells in
    subst (λ (known : Known). Describes known (overwritten cells c.args.place (pieces_of c.args.region c.args.offset))) (sym (returns-clause-exact c))
    (pointer_described c.args.self.now c.args.place c.args.region c.args.offset cells c.requires.within flags long described)

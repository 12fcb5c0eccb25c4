use Rattle.std.proofs.Common.{◌∙◌, ap, refl}
use Rattle.tree.specs.LieutenantTree.{LieutenantTree}
use Rattle.book.specs.Table.{told}
use Rattle.book.proofs.TreeLemmas.{place_of_tree}
use Rattle.book.proofs.tree_table.TreeTableHeard.told.Goals as goal

pub tree-requires : goal.tree-requires
tree-requires c =
    let there = place_of_tree c.args.self.now (told c.args.self.now.messages) c.args.label.now c.args.receiver c.requires in
    record { general = there.1; lieutenant = there.2 }

pub returns : goal.returns
returns c =
    let there = place_of_tree c.args.self.now (told c.args.self.now.messages) c.args.label.now c.args.receiver c.requires in
    c.value.ensures.told (told c.args.self.now.messages) (rw c.tree.ensures refl) (rw c.tree.ensures there.0) ∙ ap (λ (t : LieutenantTree). told c.args.self.now.messages c.args.label.now t.general) c.tree.ensures

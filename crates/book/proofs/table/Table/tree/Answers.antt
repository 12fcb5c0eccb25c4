use Rattle.std.proofs.Common.{◌≢◌, ◌<◌, ◌∙◌, length, arith}
use Rattle.std.proofs.lemmas.Option.{slice_get_within, get_or_from_slice_get}
use Rattle.book.specs.Table.{told}
use Rattle.book.specs.Trees.{tree_of}
use Rattle.book.proofs.TreeLemmas.{tree_at}
use Rattle.book.proofs.table.Table.tree.Goals as goal

pub index-requires : goal.index-requires
index-requires c =
    let within : c.args.general < c.self.inside.generals = rw (← c.self.view_is) at c.requires.general in
    let apart : c.args.general ≢ c.self.inside.commander = rw (← c.self.view_is) at c.requires.lieutenant in
    let inside : c.place.result < length c.self.inside.trees.items = slice_get_within c.self.inside.trees.items c.place.result _ (tree_at c.self.inside.generals c.self.inside.bound c.self.inside.commander c.args.general c.place.result (told c.self.inside.messages.items) c.self.inside.trees.items within apart c.place.ensures c.self.invariant.filled) in
    let ok = c.self.inside.trees.ok in
    omega arith

pub returns : goal.returns
returns c =
    let within : c.args.general < c.self.inside.generals = rw (← c.self.view_is) at c.requires.general in
    let apart : c.args.general ≢ c.self.inside.commander = rw (← c.self.view_is) at c.requires.lieutenant in
    rw (← c.self.view_is) (c.index.ensures ∙ get_or_from_slice_get c.self.inside.trees.items c.place.result (tree_of c.self.inside.generals c.self.inside.bound c.self.inside.commander (told c.self.inside.messages.items) c.args.general) c.index.result.now
    (tree_at c.self.inside.generals c.self.inside.bound c.self.inside.commander c.args.general c.place.result (told c.self.inside.messages.items) c.self.inside.trees.items within apart c.place.ensures c.self.invariant.filled))

use Rattle.std.proofs.Common.{◌≢◌, ◌<◌, arith}
use Rattle.std.proofs.lemmas.Option.{slice_get_within, get_or_from_slice_get}
use Rattle.book.specs.Table.{told}
use Rattle.book.specs.Trees.{tree_of}
use Rattle.book.proofs.TreeLemmas.{tree_at}
use Rattle.book.specs.Collected.{collected}
use Rattle.book.specs.Hearing.{heard}
use Rattle.book.proofs.LineLemmas.{place_small}
use Rattle.book.proofs.tree_table.TreeTableHeard.tree.Goals as goal

pub bounds-self-inside-place : goal.bounds-self-inside-place
bounds-self-inside-place c =
    let within : c.args.general < c.self.inside.generals = rw (← c.self.view_is) at c.requires.general in
    let apart : c.args.general ≢ c.self.inside.commander = rw (← c.self.view_is) at c.requires.lieutenant in
    let M = told (collected (heard c.self.inside.trees.now) c.self.inside.generals c.self.inside.bound c.self.inside.commander c.self.inside.rule).messages in
    slice_get_within c.self.inside.trees.now c.place.result _ (tree_at c.self.inside.generals c.self.inside.bound c.self.inside.commander c.args.general c.place.result M c.self.inside.trees.now within apart c.place.ensures c.self.invariant.filled)

pub offset_bounds-self-inside-place : goal.offset_bounds-self-inside-place
offset_bounds-self-inside-place c =
    let within : c.args.general < c.self.inside.generals = rw (← c.self.view_is) at c.requires.general in
    let few = c.self.invariant.within.few in
    let small = place_small c.self.inside.commander c.args.general c.place.result c.place.ensures in
    omega arith

pub returns : goal.returns
returns c =
    let within : c.args.general < c.self.inside.generals = rw (← c.self.view_is) at c.requires.general in
    let apart : c.args.general ≢ c.self.inside.commander = rw (← c.self.view_is) at c.requires.lieutenant in
    let M = told (collected (heard c.self.inside.trees.now) c.self.inside.generals c.self.inside.bound c.self.inside.commander c.self.inside.rule).messages in
    rw (← c.self.view_is) (get_or_from_slice_get c.self.inside.trees.now c.place.result (tree_of c.self.inside.generals c.self.inside.bound c.self.inside.commander M c.args.general) c.index-self-place.result
    (tree_at c.self.inside.generals c.self.inside.bound c.self.inside.commander c.args.general c.place.result M c.self.inside.trees.now within apart c.place.ensures c.self.invariant.filled))

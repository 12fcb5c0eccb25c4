use Rattle.std.proofs.Common.{◌≡◌, ◌≢◌, ◌<◌, ◌∙◌, length, Some, arith}
use Rattle.std.proofs.lemmas.Option.{slice_get_within, get_or_from_slice_get}
use Rattle.book.specs.Table.{told}
use Rattle.book.specs.Trees.{tree_of}
use Rattle.book.proofs.TreeLemmas.{tree_at, written, refilled, place_of_tree}
use Rattle.book.proofs.table.Table.with.Goals as goal

pub index_mut-requires : goal.index_mut-requires
index_mut-requires c =
    let there = place_of_tree c.args.self (told c.self.inside.messages.items) c.args.message.label c.args.message.receiver c.requires.place in
    let within : c.args.message.receiver < c.self.inside.generals = rw (← c.self.view_is) at there.1 in
    let apart : c.args.message.receiver ≢ c.self.inside.commander = rw (← c.self.view_is) at there.2 in
    let inside : c.place-place.result < length c.self.inside.trees.items = slice_get_within c.self.inside.trees.items c.place-place.result _ (tree_at c.self.inside.generals c.self.inside.bound c.self.inside.commander c.args.message.receiver c.place-place.result (told c.self.inside.messages.items) c.self.inside.trees.items within apart c.place-place.ensures c.self.invariant.filled) in
    let ok = c.self.inside.trees.ok in
    omega arith

pub invariant_of-self : goal.invariant_of-self
invariant_of-self c =
    let there = place_of_tree c.args.self (told c.self.inside.messages.items) c.args.message.label c.args.message.receiver c.requires.place in
    let within : c.args.message.receiver < c.self.inside.generals = rw (← c.self.view_is) at there.1 in
    let apart : c.args.message.receiver ≢ c.self.inside.commander = rw (← c.self.view_is) at there.2 in
    let fresh = rw (← c.self.view_is) at c.requires.fresh in
    let old : c.index_mut.result.now ≡ tree_of c.self.inside.generals c.self.inside.bound c.self.inside.commander (told c.self.inside.messages.items) c.args.message.receiver =
    c.index_mut.ensures.value ∙ get_or_from_slice_get c.self.inside.trees.items c.place-place.result (tree_of c.self.inside.generals c.self.inside.bound c.self.inside.commander (told c.self.inside.messages.items) c.args.message.receiver) c.index_mut.result.now
    (tree_at c.self.inside.generals c.self.inside.bound c.self.inside.commander c.args.message.receiver c.place-place.result (told c.self.inside.messages.items) c.self.inside.trees.items within apart c.place-place.ensures c.self.invariant.filled)
    in
    record {
      within = c.self.invariant.within;
      filled = rw c.in_ok-push.ensures.items (written c.self.inside.generals c.self.inside.bound c.self.inside.commander c.place-place.result c.self.inside.messages.items c.args.message c.self.inside.trees.items c.fill.new.self within apart c.place-place.ensures fresh c.self.invariant.filled
          (refilled c.index_mut.result.now c.fill.new.self c.self.inside.generals c.self.inside.bound c.self.inside.commander c.args.message.receiver (told c.self.inside.messages.items) c.args.message.label (Some c.args.message.order) old c.fill.ensures.same c.fill.ensures.filled));
    }

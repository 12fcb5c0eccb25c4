use Rattle.std.proofs.Common.{ap, length, ◌-◌, ◌∙◌}
use Rattle.show_tree.proofs.ChildLemmas.{children_told, children_within, has_rank, limits, place_some, rank_in}
use Rattle.show_tree.proofs.children.told_children.Goals as goal

pub part-requires : goal.part-requires
part-requires g c =
    let tree = c.tree-tree.result.now in
    let space = c.space-space.ensures in
    let size = length c.generals.result.now in
    children_within tree c.args.label.now size c.from-width.result c.in-Ok.rank c.level.result.now space.kind
    (place_some (g.H.Heard.seen c.args.table.now) c.args.label.now c.args.general c.requires.place) (ap length c.generals.ensures.value)
    (c.from-width.ensures ∙ (c.saturating_sub.ensures ∙ ap (λ n. n - 1 - size) space.generals))
    (rank_in c.space-space.result tree c.args.label.now c.in-Ok.rank space.generals space.commander space.general c.in-Ok.ensures.ok) c.level.ensures.long

pub unreachable-requires : goal.unreachable-requires
unreachable-requires g c =
    let space = c.space-space.ensures in
    has_rank c.space-space.result (g.H.Heard.seen c.args.table.now) c.args.label.now c.args.general
    (limits c.space-space.result c.tree-tree.result.now space.kind space.generals space.commander space.general) c.requires.place
    (space.generals ∙ ap (λ tree. tree.generals) c.tree-tree.ensures) (space.commander ∙ ap (λ tree. tree.commander) c.tree-tree.ensures)
    (space.general ∙ ap (λ tree. tree.general) c.tree-tree.ensures) c.in-Err.ensures.err.1

pub returns : goal.returns
returns g c =
    let tree = c.tree-tree.result.now in
    let space = c.space-space.ensures in
    let size = length c.generals.result.now in
    children_told (g.H.Heard.seen c.args.table.now) tree c.args.label.now c.args.general size c.from-width.result c.in-Ok.rank c.part.result.now c.level.result.now c.tree-tree.ensures space.kind
    (place_some (g.H.Heard.seen c.args.table.now) c.args.label.now c.args.general c.requires.place) c.requires.room (ap length c.generals.ensures.value)
    (c.from-width.ensures ∙ (c.saturating_sub.ensures ∙ ap (λ n. n - 1 - size) space.generals))
    (rank_in c.space-space.result tree c.args.label.now c.in-Ok.rank space.generals space.commander space.general c.in-Ok.ensures.ok) c.level.ensures.value c.part.ensures

use Rattle.std.proofs.Common.{◌≡◌, length, sym, ap, ◌∙◌, arith}
use Rattle.std.specs.Prelude.{slice_get}
use Rattle.label.specs.Labels.{labels}
use Rattle.label.proofs.Listing.{proved_labels_are_exact}
use Rattle.tree.specs.LieutenantTree.{LieutenantTree, IsCampaign}
use Rattle.lies.specs.BreakTrees.{messages_of}
use Rattle.lies.proofs.BreakTreeLemmas.{level_full, one_more}
use Rattle.lies.proofs.break_trees.fill_level.Goals as goal

pub sent-order-requires-clause-short : goal.sent-order-requires-clause-short
sent-order-requires-clause-short g c =
    let kind = c.space-space.ensures.kind in
    let eg = c.space-space.ensures.generals in
    let ec = c.space-space.ensures.commander in
    let ep = c.space-space.ensures.general in
    let lc = kind.commander in
    let lp = kind.general in
    let is = proved_labels_are_exact.only c.space-space.result.generals c.space-space.result.commander c.space-space.result.general c.args.size c.loop-rank.rank c.in-Ok.label (omega arith) (omega arith)
    (λ e. kind.lieutenant (sym ep ∙ (e ∙ ec))) c.in-Ok.ensures.ok
    in
    let long = is.2 in
    let short = c.requires.short in
    omega arith

pub loop-rank-preserved : goal.loop-rank-preserved
loop-rank-preserved g c n m k p h =
    let gn : c.space-space.result.generals ≡ n = c.space-space.ensures.generals ∙ ap (λ (t : LieutenantTree). t.generals) h.filled in
    let gk : c.space-space.result.commander ≡ k = c.space-space.ensures.commander ∙ ap (λ (t : LieutenantTree). t.commander) h.filled in
    let gp : c.space-space.result.general ≡ p = c.space-space.ensures.general ∙ ap (λ (t : LieutenantTree). t.general) h.filled in
    one_more (messages_of (g.C.Combine.combined c.args.rule.now) n c.args.bound k c.args.found.now) c.args.size c.loop-rank.rank n m k p c.loop-rank.tree c.fill.new.self c.in-Ok.label c.sent-order.result
    (c.loop-rank.invariant n m k p h)
    (sym (λ i. slice_get (labels (gn i) (gk i) (gp i) c.args.size) c.loop-rank.rank) ∙ c.in-Ok.ensures.ok)
    (c.sent-order.ensures ∙ (λ i. messages_of (g.C.Combine.combined c.args.rule.now) (gn i) c.args.bound (gk i) c.args.found.now c.in-Ok.label (gp i)))
    c.fill.ensures.same c.fill.ensures.filled

pub returns : goal.returns
returns g c n m k p h =
    let gn : c.space-space.result.generals ≡ n = c.space-space.ensures.generals ∙ ap (λ (t : LieutenantTree). t.generals) h.filled in
    let gk : c.space-space.result.commander ≡ k = c.space-space.ensures.commander ∙ ap (λ (t : LieutenantTree). t.commander) h.filled in
    let gp : c.space-space.result.general ≡ p = c.space-space.ensures.general ∙ ap (λ (t : LieutenantTree). t.general) h.filled in
    let fn : c.args.tree.now.generals ≡ n = ap (λ (t : LieutenantTree). t.generals) h.filled in
    let fk : c.args.tree.now.commander ≡ k = ap (λ (t : LieutenantTree). t.commander) h.filled in
    let fp : c.args.tree.now.general ≡ p = ap (λ (t : LieutenantTree). t.general) h.filled in
    let kind : IsCampaign c.args.tree.now = c.space-space.ensures.kind in
    let lk = kind.commander in
    let lp = kind.general in
    let long : length (labels c.space-space.result.generals c.space-space.result.commander c.space-space.result.general c.args.size) ≡ length (labels n k p c.args.size) = (λ i. length (labels (gn i) (gk i) (gp i) c.args.size)) in
    level_full (messages_of (g.C.Combine.combined c.args.rule.now) n c.args.bound k c.args.found.now) c.args.size c.loop-rank.rank n m k p c.loop-rank.tree c.loop-rank.tree
    (c.loop-rank.invariant n m k p h)
    (omega (arith, c.count-rank-end.ensures, c.loop-rank-test.false, c.loop-rank.auto.rank-end, long))
    (omega arith) (omega arith)
    (λ e. kind.lieutenant (fp ∙ (e ∙ sym fk)))

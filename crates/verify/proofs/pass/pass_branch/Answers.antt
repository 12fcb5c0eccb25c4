use Rattle.std.proofs.Common.{rules, ◌≡◌, ◌+◌, ◌<◌, Option, None, inl, inr, refl, subst, length, ap, ◌∙◌, w16, w32, ℤ, pos, ◌+ℤ◌}
use Rattle.std.proofs.lemmas.Int.{to_z-of_z}
use Rattle.verify.specs.declared.reason.Reason.{Reason}
use Rattle.verify.specs.Branches.{branch_of}
use Rattle.verify.specs.Instructions.{reason_of}
use Rattle.verify.specs.Transfer.{edges}
use Rattle.verify.specs.Judgement.{KnownSoFar, along_all, settled}
use Rattle.verify.proofs.Taken.{length-edge}
use Rattle.verify.proofs.pass.pass_branch.Goals as goal

pub pass_edge-requires : goal.pass_edge-requires
pass_edge-requires c =
    let inside : c.args.unit + 1 < length c.args.pending.now.items = c.requires.edges (c.args.unit + 1) (inl refl) in
    let room : length c.second.new.pending.items ≡ length c.args.pending.now.items = ap (λ (pending : KnownSoFar). length pending) c.in-Ok.ensures.rest in
    rw room inside

pub pass_edge-requires-2 : goal.pass_edge-requires-2
pass_edge-requires-2 c =
    let wide = to_z-of_z w32 c.from.result (record { sfits = c.from.type_inv }) in
    let same = c.from.ensures ∙ to_z-of_z w16 c.args.distance c.ranges.distance in
    let to = subst (λ (distance : ℤ). pos c.forward_target-target.result ≡ pos (c.args.unit + 1) +ℤ distance) (wide ∙ same) c.forward_target-target.ensures in
    let inside : c.forward_target-target.result < length c.args.pending.now.items = c.requires.edges c.forward_target-target.result (inr (inl to)) in
    let room : length c.second.new.pending.items ≡ length c.args.pending.now.items = ap (λ (pending : KnownSoFar). length pending) c.in-Ok.ensures.rest in
    let same : length c.pass_edge.new.pending.items ≡ length c.second.new.pending.items =
    length-edge (pos (c.args.unit + 1)) _ c.second.new.pending.items c.pass_edge.new.pending.items c.pass_edge.ensures in
    rw (same, room) inside

pub returns-in_default-second : goal.returns-in_default-second
returns-in_default-second c =
    let branch = branch_of c.args.compared.now c.args.distance in
    let none : reason_of branch c.args.state.value ≡ None = search rules in
    let left = along_all (edges branch c.args.unit c.args.state.value) c.args.pending.now.items in
    (left, ap (λ (reason : Option Reason). settled reason c.args.unit left) none)

use Rattle.std.proofs.Common.{◌≡◌, ◌+◌, ◌<◌, ◌∙◌, ℕ, ap, sym, refl, length}
use Rattle.std.specs.Prelude.{pos}
use Rattle.verify.specs.Judgement.{along}
use Rattle.verify.specs.Transfer.{stepped}
use Rattle.insn.specs.Insn.{units_of}
use Rattle.verify.proofs.EdgeEnds.{straight_edge}
use Rattle.verify.proofs.StraightLemmas.{straight_stops, straight_runs}
use Rattle.verify.proofs.HandLaws.{taken_next, comes_next}
use Rattle.verify.proofs.pass.pass_straight.Goals as goal

pub flow-requires : goal.flow-requires
flow-requires c =
    let inside : c.args.unit + units_of c.args.insn.now < length c.args.pending.now.items =
    c.requires.edges (c.args.unit + units_of c.args.insn.now) (straight_edge c.args.insn.now c.args.unit c.requires.straight) in
    rw c.units-2.ensures.units inside

pub come-requires : goal.come-requires
come-requires c =
    let inside : c.args.unit + units_of c.args.insn.now < length c.args.pending.now.items =
    c.requires.edges (c.args.unit + units_of c.args.insn.now) (straight_edge c.args.insn.now c.args.unit c.requires.straight) in
    let one : 1 ≡ units_of c.args.insn.now = sym c.if-units-eq1.true ∙ c.units.ensures.units in
    rw one inside

pub returns-in-Err-clause-comes : goal.returns-in-Err-clause-comes
returns-in-Err-clause-comes c =
    straight_stops c.args.insn.now c.args.unit c.args.state.value c.straight.new.state c.args.pending.now.items c.in-Err.reason c.requires.straight
    (c.in-Err.ensures ∙ ap (stepped c.args.insn.now) c.deref_mut.ensures.value)

pub returns-then-units-eq1-clause-comes : goal.returns-then-units-eq1-clause-comes
returns-then-units-eq1-clause-comes c =
    let next = c.args.unit + 1 in
    let one : 1 ≡ units_of c.args.insn.now = sym c.if-units-eq1.true ∙ c.units.ensures.units in
    let inside : c.args.unit + units_of c.args.insn.now < length c.args.pending.now.items =
    c.requires.edges (c.args.unit + units_of c.args.insn.now) (straight_edge c.args.insn.now c.args.unit c.requires.straight) in
    let there : next < length c.args.pending.now.items = rw one inside in (
      along (pos next, c.straight.new.state) c.args.pending.now.items,
      straight_runs c.args.insn.now c.args.unit next c.args.state.value c.straight.new.state tt c.args.pending.now.items (along (pos next, c.straight.new.state) c.args.pending.now.items)
          c.requires.straight (c.in_default.ensures ∙ ap (stepped c.args.insn.now) c.deref_mut.ensures.value) (ap (λ (n : ℕ). c.args.unit + n) one) refl,
      comes_next c.args.pending.now.items c.come.new.pending.items next c.straight.new.state c.come.result there c.come.ensures.value c.come.ensures.rest,
    )

pub returns-clause-comes : goal.returns-clause-comes
returns-clause-comes c =
    taken_next _ (c.args.unit + 1) c.flow.new.pending.items c.take_next.new.pending.items c.take_next.result
    (straight_runs c.args.insn.now c.args.unit (c.args.unit + c.units-2.result) c.args.state.value c.straight.new.state tt c.args.pending.now.items c.flow.new.pending.items
    c.requires.straight (c.in_default.ensures ∙ ap (stepped c.args.insn.now) c.deref_mut.ensures.value) (ap (λ (n : ℕ). c.args.unit + n) c.units-2.ensures.units) c.flow.ensures)
    c.take_next.ensures.value c.take_next.ensures.rest

use Rattle.std.proofs.Common.{refl, sym}
use Rattle.trace.proofs.AuditLemmas.{fault_is_told, found_sound, refused_different, refused_unnamed}
use Rattle.trace.proofs.audit.sound_chronicle.Goals as goal

pub returns-in_default-clause-unsound : goal.returns-in_default-clause-unsound
returns-in_default-clause-unsound c =
    λ _. refused_unnamed c.args.scenario.now c.args.text.now c.args.text.now c.rule.result c.rule.ensures refl (sym c.in_default.ensures)

pub returns-in_default-clause-unnamed : goal.returns-in_default-clause-unnamed
returns-in_default-clause-unnamed c _ = fault_is_told c.args.text.now _ c.refusal.result c.refusal.ensures

pub returns-in-None-clause-sound : goal.returns-in-None-clause-sound
returns-in-None-clause-sound c =
    found_sound c.args.scenario.now c.args.text.now c.args.text.now c.rule.result c.in-Some.version c.in_ok-chronicle.chronicle c.rule.ensures refl (sym c.in-Some.ensures) c.in_ok-chronicle.ensures c.in-None.ensures.same

pub returns-in-Some-difference-clause-unsound : goal.returns-in-Some-difference-clause-unsound
returns-in-Some-difference-clause-unsound c =
    λ _. refused_different c.args.scenario.now c.args.text.now c.args.text.now c.rule.result c.in-Some.version c.in_ok-chronicle.chronicle c.in-Some-difference.place c.rule.ensures refl (sym c.in-Some.ensures) c.in_ok-chronicle.ensures c.in-Some-difference.ensures.differs
